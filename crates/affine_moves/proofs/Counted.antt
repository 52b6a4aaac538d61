-- The positions of a shaped kernel are small.
use Rattle.std.proofs.Common.{◌≡◌, ℕ, zero, suc, arith, ◌<◌, ◌≤◌, ◌+◌, true, List, [], ◌∷◌, length, replicate, refl, subst, le-leb}
use Rattle.std.specs.Prelude.{IsTrue}
use Rattle.std.specs.List.{list_all, AllByRecursion}
use Rattle.std.proofs.Math.Facts.{leb_yes}
use Rattle.c_tree.specs.declared.program.Program.{Program}
use Rattle.nest_tree.specs.declared.kernel.Kernel.{Kernel}
use Rattle.nest_tree.specs.declared.kernel.Nest.{Nest}
use Rattle.nest_core.specs.Order.{shares_loop, next_positions, numbered, numbered_after}
use Rattle.nest_tree.specs.Carriers.{shared}
use Rattle.nest_core.specs.Shapes.{IsShapedNest, IsShaped}
use Rattle.nest_core.proofs.Counting.{at_most, next-at_most}
use Rattle.nest_core.proofs.Sharing.{shared-second_below}
use Rattle.affine_moves.specs.Placed.{are_small, ArePlaced}
use Rattle.affine_moves.proofs.Places.{and}

weaker : (m n : ℕ) (ps : List ℕ) → m ≤ n → list_all (at_most m) ps ≡ true → list_all (at_most n) ps ≡ true
weaker m n [] l e = refl
weaker m n (p ∷ ps) l e =
    let h = and (at_most m p) (list_all (at_most m) ps) e in
    let low : p ≤ m = leb_yes (rw h.0 tt) in
    rw (le-leb p n (omega (arith, low, l))) (weaker m n ps l h.1)

zeros-small : (n k : ℕ) → list_all (at_most n) (replicate k 0) ≡ true
zeros-small n zero = refl
zeros-small n (suc k) = rw (le-leb 0 n (omega arith)) (zeros-small n k)

abbrev Small : Nest → Type 0
Small n = IsTrue (are_small n.positions)

after-small : (k : ℕ) (old new : List ℕ) (ns : List Nest) → k + length ns ≤ 64 → list_all (at_most k) new ≡ true → AllByRecursion Small (numbered_after old new ns)
after-small k old new [] l e = tt
after-small k old new (n ∷ ns) l e =
    let ps : List ℕ = next_positions (shared old n.positions) new (length n.positions) in
    let here : list_all (at_most (suc k)) ps ≡ true = next-at_most k (shared old n.positions) (length n.positions) new e in
    (weaker (suc k) 64 ps (omega (arith, l)) here, after-small (suc k) n.positions ps ns (omega (arith, l)) here)

numbered-small : (ns : List Nest) → length ns ≤ 64 → AllByRecursion Small (numbered ns)
unfolding numbered
numbered-small [] l = tt
numbered-small (n ∷ ns) l =
    let zs : List ℕ = replicate (length n.positions) 0 in
    (zeros-small 64 (length n.positions), after-small 0 n.positions zs ns (omega (arith, l)) (zeros-small 0 (length n.positions)))

-- the positions of a shaped kernel are small
pub shaped-small : (k : Kernel) → IsShaped k → AllByRecursion (λ n. IsTrue (are_small n.positions)) k.nests
shaped-small k s = subst (λ (ns : List Nest). AllByRecursion Small ns) s.counted (numbered-small k.nests s.few)

-- a statement has a position for each level whose loop it shares
pub shares-within : (l : ℕ) (n m : Nest) → shares_loop l n m ≡ true → 0 < length m.positions → l < length m.positions
shares-within l n m e h =
    let low : l ≤ shared n.positions m.positions = leb_yes (rw e tt) in
    omega (arith, low, shared-second_below n.positions m.positions h)

positions-some : (head : Program) (ns : List Nest) → AllByRecursion (IsShapedNest head) ns → AllByRecursion Small ns → ArePlaced ns
positions-some head [] s p = tt
positions-some head (n ∷ ns) s p = let e = s.0.positions in (record { some = omega (arith, e); small = p.0 }, positions-some head ns s.1 p.1)

-- the statements of a shaped kernel have positions, which are small
pub shaped-placed : (k : Kernel) → IsShaped k → ArePlaced k.nests
shaped-placed k s = positions-some k.head k.nests s.nests (shaped-small k s)
