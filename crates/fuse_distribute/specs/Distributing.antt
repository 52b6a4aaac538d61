-- A loop becomes two.
use Rattle.std.specs.Prelude.{ℕ, suc, ◌-◌, Bool, cond, not, ◌&&◌, nat_le, nat_lt, List, [], ◌∷◌, take, length, slice_get, slice_set, slice_index_or, Option, Some, None, Result, Err}
use Rattle.std.specs.List.{list_any}
use Rattle.nest_tree.specs.declared.fault.ShapeWhy.{ShapeWhy}
use Rattle.nest_tree.specs.declared.fault.ShapeWhy.TheVariants.{NoStatement, NoLoop, NotShared}
use Rattle.nest_tree.specs.declared.kernel.Kernel.{Kernel}
use Rattle.nest_tree.specs.declared.kernel.Nest.{Nest}
use Rattle.nest_tree.specs.declared.moves.Moves.{Moves}
use Rattle.nest_core.specs.Order.{shares_loop}
use Rattle.affine_moves.specs.Change.{is_level}
use Rattle.affine_moves.specs.Moves.{lowest, judged, sharers}
use Rattle.fuse_distribute.specs.Moving.{moved_to}

-- the other statement stands behind this one's loop at the level, in the loops that are around it
abbrev pub is_behind : ℕ → Nest → Nest → Bool
is_behind level n m = shares_loop (level - 1) n m && nat_lt (slice_index_or n.positions (level - 1) 0) (slice_index_or m.positions (level - 1) 0)

-- statement i moves one child on: into the new loop, if it is in the loop that is split and not before statement s, or to make room for the new loop
abbrev pub moves_on : ℕ → ℕ → Nest → ℕ → Nest → Bool
moves_on level s n i m = cond (shares_loop level n m) (nat_le s i) (is_behind level n m)

-- the positions one child further at a level
unfoldable pub one_further : ℕ → List ℕ → List ℕ
one_further level ps = slice_set ps (level - 1) (suc (slice_index_or ps (level - 1) 0))

abbrev pub split_positions : ℕ → ℕ → Nest → ℕ → Nest → List ℕ
split_positions level s n i m = cond (moves_on level s n i m) (one_further level m.positions) m.positions

-- the positions of all statements, the first of which is number i
abbrev pub split_each : ℕ → ℕ → Nest → ℕ → List Nest → List (List ℕ)
split_each level s n i [] = []
split_each level s n i (m ∷ ms) = split_positions level s n i m ∷ split_each level s n (suc i) ms

-- the shapes of `distribute`, by rising number: the loop must hold an earlier statement
abbrev pub distribute_shape : List Nest → ℕ → Nest → ℕ → Option ShapeWhy
distribute_shape nests s n level = lowest
    ((not (is_level (length n.levels) level), NoLoop)
    ∷ (not (list_any (shares_loop level n) (take s nests)), NotShared)
    ∷ [])

abbrev pub distribute_at : Kernel → ℕ → Option Nest → ℕ → Result Moves ShapeWhy
distribute_at k s None level = Err NoStatement
distribute_at k s (Some n) level = judged (distribute_shape k.nests s n level) (moved_to k (split_each level s n 0 k.nests) (sharers level n k.nests))

-- the moves of `distribute`, or its lowest shape that holds
abbrev pub distribute_moves : Kernel → ℕ → ℕ → Result Moves ShapeWhy
distribute_moves k s level = distribute_at k s (slice_get k.nests s) level
