-- The bounds that rows give to a level.
use Rattle.std.specs.Prelude.{◌≡◌, ◌↔◌, ℕ, suc, List, length, ℤ, pos, negsuc, ◌+ℤ◌, ◌*ℤ◌, neg_ℤ, ◌≤ℤ◌, ◌<ℤ◌}
use Rattle.std.specs.Int.{int_div_euclid}
use Rattle.int_rows.specs.declared.row.Aff.{Aff}
use Rattle.nest_tree.specs.declared.kernel.Term.{Term}
use Rattle.nest_tree.specs.Forms.{value, coef}
use Rattle.nest_tree.specs.Terms.{Input, IsDirect, with_terms, IsCut}

-- At the level x with the value v, a form that is direct there is a*v + e, where e is its value with this level and all
-- later ones cut off; so it bounds the level by the ceiling of -e/a from below, or by the floor of e/b and 1 more from above.
abbrev pub DirectRowBoundsLevel : Type 0
DirectRowBoundsLevel =
    (i : Input) (terms : List Term) (p q : List ℤ) (x : ℕ) (f : Aff) → IsCut x p q → IsDirect (length p) x terms f
    → let v : ℤ = coef x p in let e : ℤ = value (with_terms i terms q) f in let whole : ℤ = value (with_terms i terms p) f in
    (whole ≡ (coef x f.coefs *ℤ v) +ℤ e)
    × ((d : ℕ) → coef x f.coefs ≡ pos (suc d) → (pos 0 ≤ℤ whole) ↔ (neg_ℤ (int_div_euclid e (pos (suc d))) ≤ℤ v))
    × ((d : ℕ) → coef x f.coefs ≡ negsuc d → (pos 0 ≤ℤ whole) ↔ (v <ℤ (int_div_euclid e (pos (suc d)) +ℤ pos 1)))
