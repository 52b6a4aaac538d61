-- The steps of the loop that makes a form's new numbers.
use Rattle.std.proofs.Common.{◌≡◌, ℕ, suc, ◌<◌, ◌≤◌, ◌+◌, ℤ, pos, List, [], ◌∷◌, ◌++◌, take, drop, length, get_or, refl, sym, ap, ◌∙◌, drop-cons, add-one}
use Rattle.std.specs.Prelude.{Ok, Err}
use Rattle.std.proofs.lemmas.List.{drop_all}
use Rattle.nest_core.specs.Making.{before, joined}
use Rattle.nest_core.specs.Forms.{number_made, numbers_made, rewritten, lifted, level_coefs}
use Rattle.nest_core.specs.declared.form.Frame.{Frame}
use Rattle.int_rows.specs.declared.row.Aff.{Aff}
use Rattle.int_rows.specs.declared.row.Excess.{Excess}
use Rattle.nest_core.proofs.Makes.{joined-before, joined-nil, joined-end}

numbers-nil : (cs : List ℤ) (old : List Aff) (v : ℕ) → numbers_made cs old v [] ≡ Ok []
numbers-nil cs old v = refl

-- what the loop keeps at place v
pub record Numbers (cs : List ℤ) (old : List Aff) (zs : List ℤ) (v : ℕ) (out : List ℤ) : Type 0 where
  pub rest : joined out (numbers_made cs old v (drop v zs)) ≡ numbers_made cs old 0 zs

module _ (cs : List ℤ) (old : List Aff) (zs : List ℤ) where
  pub numbers-none : Numbers cs old zs 0 []
  numbers-none = record { rest = joined-nil (numbers_made cs old 0 zs) }

  numbers-cons : (v : ℕ) → v < length zs → numbers_made cs old v (drop v zs) ≡ before (number_made cs old v (get_or zs v (pos 0))) (numbers_made cs old (v + 1) (drop (v + 1) zs))
  numbers-cons v l = let cons : drop v zs ≡ get_or zs v (pos 0) ∷ drop (suc v) zs = drop-cons zs v (pos 0) l in rw (add-one v, cons) refl

  pub numbers-more : (v : ℕ) (y : ℤ) (out new : List ℤ) → v < length zs → number_made cs old v (get_or zs v (pos 0)) ≡ Ok y → new ≡ out ++ y ∷ [] → Numbers cs old zs v out → Numbers cs old zs (v + 1) new
  numbers-more v y out new l made is m = record {
    rest = rw is (sym (joined-before out y (numbers_made cs old (v + 1) (drop (v + 1) zs))) ∙ ap (λ r. joined out (before r (numbers_made cs old (v + 1) (drop (v + 1) zs)))) (sym made)
        ∙ ap (joined out) (sym (numbers-cons v l)) ∙ m.rest);
  }

  pub numbers-not : (v : ℕ) (e : Excess) (out : List ℤ) → v < length zs → number_made cs old v (get_or zs v (pos 0)) ≡ Err e → Numbers cs old zs v out → numbers_made cs old 0 zs ≡ Err e
  numbers-not v e out l not m = sym m.rest ∙ ap (joined out) (numbers-cons v l ∙ ap (λ r. before r (numbers_made cs old (v + 1) (drop (v + 1) zs))) not)

  pub numbers-end : (v : ℕ) (out : List ℤ) → length zs ≤ v → Numbers cs old zs v out → numbers_made cs old 0 zs ≡ Ok out
  numbers-end v out l m = let none : drop v zs ≡ [] = drop_all v zs l in sym m.rest ∙ ap (λ ys. joined out (numbers_made cs old v ys)) none ∙ ap (joined out) (numbers-nil cs old v) ∙ joined-end out

pub ruleset numbers_steps = (numbers-none, numbers-more, numbers-not, numbers-end)

module _ (s : Frame) (old : List Aff) (f : Aff) (cs starts : List ℤ) where
  pub rewritten-ok : (numbers : List ℤ) (z : ℤ) → cs ≡ level_coefs s f.coefs → starts ≡ lifted s f.coefs → numbers_made cs old 0 starts ≡ Ok numbers → number_made cs old (length starts) f.constant ≡ Ok z
      → rewritten s old f ≡ Ok (record { coefs = numbers; constant = z })
  unfolding rewritten
  rewritten-ok numbers z a b c d = rw (← a, ← b, c, d) refl

  pub rewritten-numbers : (e : Excess) → cs ≡ level_coefs s f.coefs → starts ≡ lifted s f.coefs → numbers_made cs old 0 starts ≡ Err e → rewritten s old f ≡ Err e
  unfolding rewritten
  rewritten-numbers e a b c = rw (← a, ← b, c) refl

  pub rewritten-constant : (numbers : List ℤ) (e : Excess) → cs ≡ level_coefs s f.coefs → starts ≡ lifted s f.coefs → numbers_made cs old 0 starts ≡ Ok numbers → number_made cs old (length starts) f.constant ≡ Err e → rewritten s old f ≡ Err e
  unfolding rewritten
  rewritten-constant numbers e a b c d = rw (← a, ← b, c, d) refl

pub levels_at : (s : Frame) (n : ℕ) (bs cs : List ℤ) → n ≡ s.levels → bs ≡ cs → take n (drop s.params bs) ≡ level_coefs s cs
unfolding level_coefs
levels_at s n bs cs e d = rw (e, d) refl
