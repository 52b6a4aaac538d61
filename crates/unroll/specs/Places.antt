-- Where the copies of an unrolled statement stand, and the statements behind them.
use Rattle.std.specs.Prelude.{ℕ, ◌+◌, ◌*◌, ◌-◌, Bool, cond, ◌&&◌, nat_lt, List, ◌∷◌, ◌++◌, take, drop, length, slice_set, slice_index_or}
use Rattle.nest_tree.specs.declared.kernel.Nest.{Nest}
use Rattle.nest_core.specs.Order.{shares_loop}

-- the positions of a copy in the innermost body, behind those of the earlier copies of so many statements
unfoldable pub copy_positions : Nest → ℕ → ℕ → List ℕ
copy_positions n copy count = slice_set n.positions (length n.levels) (copy * count + slice_index_or n.positions (length n.levels) 0)

-- the positions so many children further at a level
unfoldable pub further : ℕ → ℕ → List ℕ → List ℕ
further level more ps = slice_set ps (level - 1) (slice_index_or ps (level - 1) 0 + more)

-- the positions in the loop of a rest, which is so many loops behind the full one and has one loop in it
unfoldable pub rest_positions : ℕ → Nest → ℕ → List ℕ
rest_positions level n rest = take level (further level rest n.positions) ++ 0 ∷ drop level (further level rest n.positions)

-- the other statement stands behind the loop, in the loops that are around it
abbrev pub is_behind : ℕ → Nest → Nest → Bool
is_behind level n m = shares_loop (level - 1) n m && nat_lt (slice_index_or n.positions (level - 1) 0) (slice_index_or m.positions (level - 1) 0)

-- the positions of a statement that isn't unrolled: it makes room for the loops of the rests
abbrev pub roomy_positions : ℕ → Nest → Nest → ℕ → List ℕ
roomy_positions level n m rests = cond (is_behind level n m) (further level rests m.positions) m.positions
