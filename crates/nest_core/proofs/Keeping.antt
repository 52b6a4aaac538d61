-- The steps of the loop that rewrites the rows that are kept.
use Rattle.std.proofs.Common.{◌≡◌, ℕ, zero, suc, arith, ◌<◌, ◌+◌, List, [], ◌∷◌, ◌++◌, drop, length, get_or, true, false, nat_eq, refl, sym, ap, ◌∙◌, drop-cons, add-one}
use Rattle.std.specs.Prelude.{Result, Ok, Err}
use Rattle.std.specs.List.{list_any}
use Rattle.nest_core.specs.Making.{before, joined, each_made}
use Rattle.nest_core.specs.Pieces.{kept}
use Rattle.nest_tree.specs.declared.kernel.KernelRow.{KernelRow}
use Rattle.nest_core.proofs.Makes.{joined-before}

pub record Keeps {E : Type 0} (f : KernelRow → Result KernelRow E) (drops : List ℕ) (rows : List KernelRow) (i : ℕ) (out : List KernelRow) : Type 0 where
  pub rest : joined out (each_made f (kept drops i (drop i rows))) ≡ each_made f (kept drops 0 rows)

drop_some : {A : Type 0} (xs : List A) (i : ℕ) → i < length xs → (x : A) × (drop i xs ≡ x ∷ drop (suc i) xs)
drop_some [] i l = absurd (omega (arith, l))
drop_some (x ∷ xs) zero l = (x, refl)
drop_some (x ∷ xs) (suc i) l = drop_some xs i (omega (arith, l))

pub keeps-dropped : {E : Type 0} (f : KernelRow → Result KernelRow E) (drops : List ℕ) (rows : List KernelRow) (i : ℕ) (out : List KernelRow) → i < length rows → list_any (λ n. nat_eq n i) drops ≡ true → Keeps f drops rows i out → Keeps f drops rows (i + 1) out
keeps-dropped f drops rows i out l t k = let s = drop_some rows i l in record { rest = rw (add-one i) (rw (s.1, t) at k.rest) }

module _ {E : Type 0} (f : KernelRow → Result KernelRow E) (drops : List ℕ) (rows : List KernelRow) (i : ℕ) (r : KernelRow) (out : List KernelRow) where
  cons : i < length rows → r ≡ get_or rows i r → drop i rows ≡ r ∷ drop (suc i) rows
  cons l e = drop-cons rows i r l ∙ ap (λ (a : KernelRow). a ∷ drop (suc i) rows) (sym e)

  step : i < length rows → r ≡ get_or rows i r → list_any (λ n. nat_eq n i) drops ≡ false → each_made f (kept drops i (drop i rows)) ≡ before (f r) (each_made f (kept drops (i + 1) (drop (i + 1) rows)))
  step l e t = rw (add-one i, cons l e, t) refl

  pub keeps-one : (y : KernelRow) (new : List KernelRow) → i < length rows → r ≡ get_or rows i r → list_any (λ n. nat_eq n i) drops ≡ false → f r ≡ Ok y → new ≡ out ++ y ∷ [] → Keeps f drops rows i out → Keeps f drops rows (i + 1) new
  keeps-one y new l e t made is k = record {
    rest = rw is (sym (joined-before out y (each_made f (kept drops (i + 1) (drop (i + 1) rows)))) ∙ ap (λ x. joined out (before x (each_made f (kept drops (i + 1) (drop (i + 1) rows))))) (sym made)
        ∙ ap (joined out) (sym (step l e t)) ∙ k.rest);
  }

  pub keeps-not : (x : E) → i < length rows → r ≡ get_or rows i r → list_any (λ n. nat_eq n i) drops ≡ false → f r ≡ Err x → Keeps f drops rows i out → each_made f (kept drops 0 rows) ≡ Err x
  keeps-not x l e t not k = sym k.rest ∙ ap (joined out) (step l e t ∙ ap (λ y. before y (each_made f (kept drops (i + 1) (drop (i + 1) rows)))) not)
