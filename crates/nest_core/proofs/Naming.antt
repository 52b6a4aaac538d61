-- The step of the walk into a form's terms.
use Rattle.std.proofs.Common.{◌≡◌, ℕ, zero, suc, arith, ◌-◌, false, List, refl}
use Rattle.int_rows.specs.declared.row.Aff.{Aff}
use Rattle.nest_tree.specs.declared.kernel.Term.{Term}
use Rattle.nest_core.specs.Terms.{held, names, names_inside}

pub deeper : (first : ℕ) (terms : List Term) (var deep : ℕ) (f : Aff) → (deep ≡ 0 → ⊥) → false ≡ held f.coefs var → names first terms var deep f ≡ names_inside first terms var (deep - 1) f
deeper first terms var zero f h e = absurd (h refl)
deeper first terms var (suc k) f h e = let d : suc k - 1 ≡ k = omega arith in rw (← e, d) refl
