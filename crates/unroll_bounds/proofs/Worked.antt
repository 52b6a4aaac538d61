-- The worked loop, and a copy of it.
use Rattle.std.proofs.Common.{◌≡◌, inl, inr, ℕ, zero, suc, ◌≤◌, ◌^◌, List, [], ◌∷◌, refl, sym, subst, arith, ℤ, pos, negsuc, unsigned_abs}
use Rattle.std.specs.Prelude.{Some}
use Rattle.std.specs.List.{AllByRecursion}
use Rattle.nest_tree.specs.declared.kernel.KernelRow.{KernelRow}
use Rattle.nest_tree.specs.Lists.{IsIn}
use Rattle.nest_tree.specs.Forms.{coef}
use Rattle.nest_core.specs.Terms.{held}
use Rattle.nest_core.specs.Shapes.{IsShapedNest}
use Rattle.nest_core.proofs.Bodies.{over_is-Const}
use Rattle.affine_moves.specs.Change.{bound, padded, unit}
use Rattle.unroll.specs.Bounds.{bounds_of, is_lower, is_upper, is_plain, names_later, names_in_term, loses_any, is_lost, stays_named}
use Rattle.unroll.specs.Groups.{sum, difference, with_group, value_form, plus_multiple, replaced}
use Rattle.unroll.specs.Unrolled.{old_form, full_rows, piece_by, full_piece}
use Rattle.unroll_bounds.specs.Copies.{IsSmall, value_at}
use Rattle.unroll_bounds.specs.Examples.{head, form, ones, bounds, copy, WorkedBounds, WorkedCopy}
use Rattle.unroll_bounds.proofs.Bounded.{bounded}
use Rattle.unroll_bounds.proofs.Copies.{copies}

shaped : IsShapedNest head ones
shaped = record { positions = refl; depth = omega arith; rows = refl; terms = refl; target = refl; value = over_is-Const 2 1; whole = refl }

found : bounds_of 1 1 ones ≡ Some bounds
unfolding bounds_of is_lower is_upper is_plain names_later names_in_term loses_any is_lost stays_named held
found = refl

pub worked : WorkedBounds
worked = (shaped, found, refl, refl, bounded head ones 0 bounds shaped (omega arith) found)

small_list : (zs : List ℤ) → AllByRecursion (λ (z : ℤ). unsigned_abs z ≤ 2 ^ 126) zs → (j : ℕ) → unsigned_abs (coef j zs) ≤ 2 ^ 126
small_list [] h j = omega arith
small_list (z ∷ zs) h zero = h.0
small_list (z ∷ zs) h (suc j) = small_list zs h.1 j

small : (n i k : ℤ) → unsigned_abs n ≤ 2 ^ 126 → unsigned_abs i ≤ 2 ^ 126 → unsigned_abs k ≤ 2 ^ 126 → IsSmall (form n i k)
small n i k a b c = record { coefs = small_list (n ∷ i ∷ []) (a, (b, tt)); constant = c }

value_one : value_at 1 4 bounds (pos 1) ≡ form (pos 0) (pos 4) (pos 1)
unfolding value_form with_group difference
value_one = refl

value_three : value_at 1 4 bounds (pos 3) ≡ form (pos 0) (pos 4) (pos 3)
unfolding value_form with_group difference
value_three = refl

old_is : copy.old ≡ form (pos 0) (pos 4) (pos 1) ∷ []
unfolding full_piece piece_by old_form value_form with_group difference
old_is = refl

rows_are : copy.rows ≡ bound 1 (form (pos 0) (pos 1) (pos 0)) ∷ bound 1 (form (pos 1) (negsuc 3) (negsuc 3)) ∷ []
unfolding full_piece piece_by full_rows unit padded replaced value_form with_group difference plus_multiple sum
rows_are = refl

small_one : IsSmall (value_at 1 4 bounds (pos 1))
small_one = subst IsSmall (sym value_one) (small (pos 0) (pos 4) (pos 1) (omega arith) (omega arith) (omega arith))

small_three : IsSmall (value_at 1 4 bounds (pos 3))
small_three = subst IsSmall (sym value_three) (small (pos 0) (pos 4) (pos 3) (omega arith) (omega arith) (omega arith))

small_rows : (r : KernelRow) → IsIn r copy.rows → IsSmall (r.row).form
small_rows r a = each (subst (λ (rows : List KernelRow). IsIn r rows) rows_are a)
  where
    each : IsIn r (bound 1 (form (pos 0) (pos 1) (pos 0)) ∷ bound 1 (form (pos 1) (negsuc 3) (negsuc 3)) ∷ []) → IsSmall (r.row).form
    each (inl e) = subst (λ (s : KernelRow). IsSmall (s.row).form) (sym e) (small (pos 0) (pos 1) (pos 0) (omega arith) (omega arith) (omega arith))
    each (inr (inl e)) = subst (λ (s : KernelRow). IsSmall (s.row).form) (sym e) (small (pos 1) (negsuc 3) (negsuc 3) (omega arith) (omega arith) (omega arith))
    each (inr (inr h)) = absurd h

pub worked_copy : WorkedCopy
worked_copy =
    let law = copies head ones 0 4 1 bounds (0 ∷ 1 ∷ []) shaped (omega arith) found small_one small_three small_rows in
    (old_is, rows_are, small_one, small_three, small_rows, law.0, law.1)
