-- Two neighbouring loops become one.
use Rattle.std.specs.Prelude.{ℕ, suc, ◌+◌, ◌-◌, Bool, cond, not, ◌&&◌, ◌||◌, nat_eq, max, List, [], ◌∷◌, length, map, slice_get, slice_set, slice_index_or, Option, Some, None, Result, Err}
use Rattle.nest_tree.specs.declared.fault.ShapeWhy.{ShapeWhy}
use Rattle.nest_tree.specs.declared.fault.ShapeWhy.TheVariants.{NoStatement, NoLoop, NotShared}
use Rattle.nest_tree.specs.declared.kernel.Kernel.{Kernel}
use Rattle.nest_tree.specs.declared.kernel.Nest.{Nest}
use Rattle.nest_tree.specs.declared.moves.Moves.{Moves}
use Rattle.nest_core.specs.Order.{shares_loop}
use Rattle.affine_moves.specs.Change.{is_level}
use Rattle.affine_moves.specs.Moves.{lowest, judged}
use Rattle.fuse_distribute.specs.Moving.{moved_to}

-- the number of children of a loop that a statement is in, or so many if there were more
abbrev pub child_count : ℕ → ℕ → Nest → List Nest → ℕ
child_count found level n [] = found
child_count found level n (m ∷ ms) = child_count (cond (shares_loop level n m) (max found (suc (slice_index_or m.positions level 0))) found) level n ms

-- the second statement's loop is the next child behind that of the first, in loops that they share
abbrev pub is_next : ℕ → Nest → Nest → Bool
is_next level a b = shares_loop (level - 1) a b && nat_eq (slice_index_or b.positions (level - 1) 0) (suc (slice_index_or a.positions (level - 1) 0))

-- the positions as a child of the other loop, so many children further
unfoldable pub rehung : ℕ → ℕ → ℕ → List ℕ → List ℕ
rehung level loop count ps = slice_set (slice_set ps (level - 1) loop) level (count + slice_index_or ps level 0)

-- the children of the second loop stand behind those of the first
abbrev pub fused_positions : ℕ → ℕ → ℕ → Nest → Nest → List ℕ
fused_positions level loop count b m = cond (shares_loop level b m) (rehung level loop count m.positions) m.positions

abbrev pub in_either : ℕ → Nest → Nest → Nest → Bool
in_either level a b m = shares_loop level a m || shares_loop level b m

-- the shapes of `fuse`, by rising number
abbrev pub fuse_shape : Nest → Nest → ℕ → Option ShapeWhy
fuse_shape a b level = lowest
    ((not (is_level (length a.levels) level && is_level (length b.levels) level), NoLoop)
    ∷ (not (is_next level a b), NotShared)
    ∷ [])

abbrev pub fuse_pair : Kernel → Nest → Nest → ℕ → Result Moves ShapeWhy
fuse_pair k a b level = judged (fuse_shape a b level)
    (moved_to k (map (fused_positions level (slice_index_or a.positions (level - 1) 0) (child_count 0 level a k.nests) b) k.nests) (map (in_either level a b) k.nests))

abbrev pub fuse_at : Kernel → Option Nest → Option Nest → ℕ → Result Moves ShapeWhy
fuse_at k None b level = Err NoStatement
fuse_at k (Some a) None level = Err NoStatement
fuse_at k (Some a) (Some b) level = fuse_pair k a b level

-- the moves of `fuse`, or its lowest shape that holds
abbrev pub fuse_moves : Kernel → ℕ → ℕ → ℕ → Result Moves ShapeWhy
fuse_moves k first second level = fuse_at k (slice_get k.nests first) (slice_get k.nests second) level
