use Rattle.std.proofs.Common.{rules, ◌≡◌, ℤ, ℕ, List, pos, ◌<◌, ◌+◌, ◌++◌, ◌∷◌, [], length, refl, get_or, map, take}
use Rattle.std.specs.Prelude.{int_div}
use Rattle.std.proofs.lemmas.Int.{to_z-of_z, quot_fits}
use Rattle.std.proofs.lemmas.List.{take_more, map-append}
use mir.Val.{SFits}
use mir.Syntax.{w128}
use Rattle.int_sets.proofs.reduce.divided.Goals as goal

more : (by : ℤ) (xs cs : List ℤ) (i : ℕ) → i < length xs → cs ≡ map (λ z. int_div z by) (take i xs) → cs ++ int_div (get_or xs i (pos 0)) by ∷ [] ≡ map (λ z. int_div z by) (take (i + 1) xs)
more by xs cs i h e = rw (take_more xs i (pos 0) h, map-append, e) refl

pub loop-z-preserved : goal.loop-z-preserved
loop-z-preserved c =
    let x = get_or c.as_slice-z-items.result.now c.loop-z.z-index (pos 0) in
    let by : SFits w128 c.args.by = c.ranges.by in
    let a : SFits w128 (get_or c.as_slice-z-items.result.now c.loop-z.z-index (pos 0)) = search rules in
    let h : c.loop-z.z-index < length c.as_slice-z-items.result.now = search rules in
    let q : SFits w128 (int_div (get_or c.as_slice-z-items.result.now c.loop-z.z-index (pos 0)) c.args.by) = quot_fits w128 x c.args.by a c.requires in
    let inv = simp to_z-of_z at c.loop-z.invariant in
    let p = simp to_z-of_z at c.in_ok-push.ensures.ok in
    rw p (simp to_z-of_z (more c.args.by _ _ _ h inv))
