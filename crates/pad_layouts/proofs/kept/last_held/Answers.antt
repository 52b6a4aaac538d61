use Rattle.std.proofs.Common.{rules, ◌≡◌, ℕ, suc, ◌+◌, ◌<◌, ◌≤◌, ℤ, pos, get_or, List, ◌∷◌, drop, length, cond, drop-cons, add-one, arith}
use Rattle.std.specs.Ordering.{int_eq}
use Rattle.std.proofs.lemmas.Int.{to_z-of_z}
use Rattle.std.proofs.lemmas.Bool.{cond_both}
use mir.Val.{SFits}
use mir.Syntax.{w128}
use Rattle.nest_core.specs.Pieces.{last_held}
use Rattle.pad_layouts.proofs.kept.last_held.Goals as goal

held-step : (q found new : ℕ) (zs : List ℤ) → q < length zs → new ≡ cond (int_eq (get_or zs q (pos 0)) (pos 0)) found (suc q) → last_held q found (drop q zs) ≡ last_held 0 0 zs → last_held (q + 1) new (drop (q + 1) zs) ≡ last_held 0 0 zs
held-step q found new zs l is m =
    let cons : drop q zs ≡ get_or zs q (pos 0) ∷ drop (suc q) zs = drop-cons zs q (pos 0) l in
    rw (add-one q, is) (rw cons at m)

held-within : (q found new : ℕ) (z : ℤ) → new ≡ cond (int_eq z (pos 0)) found (suc q) → found ≤ q → new ≤ q + 1
held-within q found new z is l = rw is (cond_both (int_eq z (pos 0)) found (suc q) (λ n. n ≤ q + 1) (λ e. omega arith) (λ e. omega arith))

pub loop-q-preserved : goal.loop-q-preserved
loop-q-preserved c =
    let a : SFits w128 (get_or c.args.numbers.now c.loop-q.q (pos 0)) = search rules in
    let e = simp to_z-of_z at c.latest-found.ensures in
    record { rest = held-step _ _ _ _ c.loop-q-test.true e c.loop-q.invariant.rest; within = held-within _ _ _ (get_or c.args.numbers.now c.loop-q.q (pos 0)) e c.loop-q.invariant.within }
