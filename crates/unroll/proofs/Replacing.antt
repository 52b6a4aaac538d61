-- The step of the walk into the terms of a form whose level is replaced.
use Rattle.std.proofs.Common.{◌≡◌, ℕ, zero, suc, arith, ◌-◌, false, List, refl, ℤ}
use Rattle.int_rows.specs.declared.row.Aff.{Aff}
use Rattle.nest_tree.specs.declared.kernel.Term.{Term}
use Rattle.unroll.specs.Replaced.{held_after, names_after, names_inside_after}

pub deeper : (first : ℕ) (terms : List Term) (lower : List ℤ) (at var deep : ℕ) (f : Aff) → (deep ≡ 0 → ⊥) → false ≡ held_after lower at f.coefs var
    → names_after first terms lower at var deep f ≡ names_inside_after first terms lower at var (deep - 1) f
deeper first terms lower at var zero f h e = absurd (h refl)
deeper first terms lower at var (suc k) f h e = let d : suc k - 1 ≡ k = omega arith in rw (← e, d) refl
