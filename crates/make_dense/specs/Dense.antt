-- The statement with a level for the columns, and what the command leaves.
use Rattle.std.specs.Prelude.{◌≡◌, ◌⊎◌, ◌+◌, ⊤, ℕ, true, List, [], ◌∷◌, ◌++◌, length, map, take, drop, Some, None, IfSome, Result, Ok, Err, slice_get}
use Rattle.chill_base.specs.declared.faults.Stop.{Stop}
use Rattle.chill_base.specs.declared.faults.Stop.TheVariants.{Refused, NoMemory}
use Rattle.c_tree.specs.declared.program.Matrix.{Matrix}
use Rattle.int_rows.specs.declared.row.Excess.{Excess}
use Rattle.nest_tree.specs.declared.fault.CommandFault.{CommandFault}
use Rattle.nest_tree.specs.declared.fault.CommandFault.TheVariants.{Shape, Depends, Overflow}
use Rattle.nest_tree.specs.declared.fault.ShapeWhy.{ShapeWhy}
use Rattle.nest_tree.specs.declared.kernel.Kernel.{Kernel}
use Rattle.nest_tree.specs.declared.kernel.Nest.{Nest}
use Rattle.nest_tree.specs.declared.moves.Moves.{Moves}
use Rattle.nest_tree.specs.declared.moves.Piece.{Piece}
use Rattle.nest_core.specs.Making.{after}
use Rattle.nest_core.specs.Pieces.{nest_of_piece}
use Rattle.depend_test.specs.Tested.{Finds, IsThere, OnRefused}
use Rattle.affine_moves.specs.Moves.{only}
use Rattle.affine_moves.specs.Placed.{piece_at}
use Rattle.one_statement.specs.Put.{put}
use Rattle.make_dense.specs.Column.{with_column}
use Rattle.make_dense.specs.Piece.{dense_piece}

-- the statement with one level more, but with the old columns in the subscripts of its cells
abbrev pub nest_with_level : List (List ℕ) → Nest → ℕ → Matrix → Result Nest Excess
nest_with_level params n level m = nest_of_piece (length params) true n (dense_piece params n level m)

-- the statement with a level for the columns of the matrix before the level
abbrev pub dense_nest : List (List ℕ) → Nest → ℕ → Matrix → Result Nest Excess
dense_nest params n level m = after (nest_with_level params n level m) (λ new. with_column (length params) new level m.col)

-- ---- the moves that are tested
-- a statement that stays as it is, and several
abbrev pub stay : ℕ → Nest → List Piece
stay params n = piece_at params n n.positions ∷ []

abbrev pub stays : ℕ → List Nest → List (List Piece)
stays params ns = map (stay params) ns

-- the piece for statement s, and all others as they are
abbrev pub pieces_with : ℕ → List Nest → ℕ → Piece → List (List Piece)
pieces_with params ns s p = stays params (take s ns) ++ ((p ∷ []) ∷ stays params (drop (s + 1) ns))

abbrev pub moves_with : Kernel → ℕ → Piece → Moves
moves_with k s p = record { pieces = pieces_with (length k.head.params) k.nests s p; applies = only s (length k.nests) }

-- those by which statement s, this one, gets its new level
abbrev pub dense_moves : Kernel → ℕ → Nest → ℕ → Matrix → Moves
dense_moves k s n level m = moves_with k s (dense_piece k.head.params n level m)

-- the test of the new level ends in this fault: the dependence that it finds, or a limit
abbrev pub IsOrderFault : Kernel → ℕ → Nest → ℕ → Matrix → CommandFault → Type 0
IsOrderFault k s n level m (Shape why) = ⊥
IsOrderFault k s n level m (Depends d) = Finds k (dense_moves k s n level m) (Some d)
IsOrderFault k s n level m (Overflow e) = ⊤

-- statement s, this one, can't have its new level for this fault: a limit that it passes, or one of its test
abbrev pub IsNestFault : Kernel → ℕ → Nest → ℕ → Matrix → CommandFault → Type 0
IsNestFault k s n level m (Shape why) = ⊥
IsNestFault k s n level m (Depends d) = IsThere (dense_nest k.head.params n level m) × Finds k (dense_moves k s n level m) (Some d)
IsNestFault k s n level m (Overflow e) = (dense_nest k.head.params n level m ≡ Err e) ⊎ IsThere (dense_nest k.head.params n level m)

-- so of the statement with this number
abbrev pub IsDenseFault : Kernel → ℕ → ℕ → Matrix → CommandFault → Type 0
IsDenseFault k s level m fault = IfSome (slice_get k.nests s) (λ n. IsNestFault k s n level m fault)

-- ---- what the command leaves
-- this is statement s with its new level, and no candidate for a dependence is open
pub record IsMadeOf (old : Kernel) (s level : ℕ) (m : Matrix) (dense : Nest) : Type 0 where
  pub nest : Nest
  pub found : slice_get old.nests s ≡ Some nest
  pub made : dense_nest old.head.params nest level m ≡ Ok dense
  pub tested : Finds old (dense_moves old s nest level m) None

-- statement s has its new level, and nothing else changed
pub record IsMadeDense (old new : Kernel) (s level : ℕ) (m : Matrix) : Type 0 where
  pub nest : Nest
  pub made : IsMadeOf old s level m nest
  pub is : new ≡ put old s nest [] []

-- that is so, with the matrix over whose rows' entries the level goes
abbrev pub IsDense : Kernel → Kernel → ℕ → ℕ → Result Matrix ShapeWhy → Type 0
IsDense old new s level (Ok m) = IsMadeDense old new s level m
IsDense old new s level (Err why) = ⊥

-- where there is no such matrix, the shape is what the command answers, unless there is no memory; where there is, a fault is one of the new level
abbrev pub Refuses : {A : Type 0} → (A → CommandFault → Type 0) → Result A ShapeWhy → Result (Unit {0}) (Stop CommandFault) → Type 0
Refuses IsFault (Ok m) result = OnRefused result (IsFault m)
Refuses IsFault (Err why) (Ok u) = ⊥
Refuses IsFault (Err why) (Err stop) = (stop ≡ Refused (Shape why)) ⊎ (stop ≡ NoMemory)
