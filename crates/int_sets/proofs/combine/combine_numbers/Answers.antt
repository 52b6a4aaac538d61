use Rattle.std.proofs.Common.{rules, ◌≡◌, ℤ, ◌+ℤ◌, Bool, true, false, ◌&&◌, cond}
use Rattle.std.specs.Prelude.{Option, Some, None}
use Rattle.std.proofs.lemmas.Int.{to_z-of_z}
use mir.Val.{SFits}
use mir.Syntax.{w128}
use Rattle.int_rows.specs.Elimination.{is_small}
use Rattle.int_sets.proofs.combine.combine_numbers.Goals as goal

both : (s t : Bool) (u v x y : ℤ) (r : Option ℤ) → Some x ≡ cond s (Some u) None → Some y ≡ cond t (Some v) None → r ≡ cond (is_small (x +ℤ y)) (Some (x +ℤ y)) None → r ≡ cond (s && t && is_small (u +ℤ v)) (Some (u +ℤ v)) None
both true true u v x y r e f g =
    let a : x ≡ u = cc in
    let b : y ≡ v = cc in
    rw (← a, ← b) g
both true false u v x y r e f g = absurd cc
both false t u v x y r e f g = absurd cc

pub returns : goal.returns
returns c =
    let m : SFits w128 c.args.m = c.ranges.m in
    let n : SFits w128 c.args.n = c.ranges.n in
    let a : SFits w128 c.args.a = c.ranges.a in
    let b : SFits w128 c.args.b = c.ranges.b in
    let x : SFits w128 c.in_ok-left.left = search rules in
    let y : SFits w128 c.in_ok-right.right = search rules in
    both _ _ _ _ _ _ _ (simp to_z-of_z at c.in_ok-left.ensures) (simp to_z-of_z at c.in_ok-right.ensures) (simp to_z-of_z at c.plus.ensures)
