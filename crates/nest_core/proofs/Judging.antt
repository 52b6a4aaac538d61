-- The steps of the loop that judges a form's numbers.
use Rattle.std.proofs.Common.{◌≡◌, ℕ, suc, ◌<◌, ◌+◌, ℤ, pos, List, [], ◌∷◌, ◌++◌, drop, length, get_or, refl, sym, ap, ◌∙◌, drop-cons, add-one}
use Rattle.std.specs.Prelude.{Ok, Err}
use Rattle.nest_core.specs.Making.{before, joined}
use Rattle.nest_core.specs.Forms.{number_judged, numbers_judged, judged_form}
use Rattle.int_rows.specs.declared.row.Aff.{Aff}
use Rattle.int_rows.specs.declared.row.Excess.{Excess}
use Rattle.nest_core.proofs.Makes.{joined-before}

pub record Judged (zs : List ℤ) (v : ℕ) (out : List ℤ) : Type 0 where
  pub rest : joined out (numbers_judged v (drop v zs)) ≡ numbers_judged 0 zs

pub judged-more : (zs : List ℤ) (v : ℕ) (y : ℤ) (out new : List ℤ) → v < length zs → number_judged v (get_or zs v (pos 0)) ≡ Ok y → new ≡ out ++ y ∷ [] → Judged zs v out → Judged zs (v + 1) new
judged-more zs v y out new l made is m =
    let cons : drop v zs ≡ get_or zs v (pos 0) ∷ drop (suc v) zs = drop-cons zs v (pos 0) l in
    let step : numbers_judged v (drop v zs) ≡ before (number_judged v (get_or zs v (pos 0))) (numbers_judged (v + 1) (drop (v + 1) zs)) = rw (add-one v, cons) refl in
    record {
      rest = rw is (sym (joined-before out y (numbers_judged (v + 1) (drop (v + 1) zs))) ∙ ap (λ r. joined out (before r (numbers_judged (v + 1) (drop (v + 1) zs)))) (sym made)
          ∙ ap (joined out) (sym step) ∙ m.rest);
    }

module _ (f : Aff) where
  pub judged_form-ok : (cs : List ℤ) (z : ℤ) → numbers_judged 0 f.coefs ≡ Ok cs → number_judged (length f.coefs) f.constant ≡ Ok z → judged_form f ≡ Ok (record { coefs = cs; constant = z })
  unfolding judged_form
  judged_form-ok cs z a b = rw (a, b) refl

  pub judged_form-numbers : (e : Excess) → numbers_judged 0 f.coefs ≡ Err e → judged_form f ≡ Err e
  unfolding judged_form
  judged_form-numbers e a = rw a refl

  pub judged_form-constant : (cs : List ℤ) (e : Excess) → numbers_judged 0 f.coefs ≡ Ok cs → number_judged (length f.coefs) f.constant ≡ Err e → judged_form f ≡ Err e
  unfolding judged_form
  judged_form-constant cs e a b = rw (a, b) refl
