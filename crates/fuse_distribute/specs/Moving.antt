-- The moves that put statements at other positions.
use Rattle.std.specs.Prelude.{◌≡◌, ℕ, Bool, ⊤, List, [], ◌∷◌, length}
use Rattle.nest_tree.specs.declared.kernel.Kernel.{Kernel}
use Rattle.nest_tree.specs.declared.kernel.Nest.{Nest}
use Rattle.nest_tree.specs.declared.moves.Moves.{Moves}
use Rattle.nest_tree.specs.declared.moves.Piece.{Piece}
use Rattle.affine_moves.specs.Placed.{piece_at}

-- one piece for each statement, which leaves it as it is
abbrev pub pieces_at : ℕ → List Nest → List (List ℕ) → List (List Piece)
pieces_at params [] _ = []
pieces_at params (n ∷ ns) [] = []
pieces_at params (n ∷ ns) (ps ∷ pss) = (piece_at params n ps ∷ []) ∷ pieces_at params ns pss

abbrev pub moved_to : Kernel → List (List ℕ) → List Bool → Moves
moved_to k pss applies = record { pieces = pieces_at (length k.head.params) k.nests pss; applies = applies }

-- each statement gets as many positions as it has
abbrev pub AreAsLong : List Nest → List (List ℕ) → Type 0
AreAsLong [] [] = ⊤
AreAsLong [] (ps ∷ pss) = ⊥
AreAsLong (n ∷ ns) [] = ⊥
AreAsLong (n ∷ ns) (ps ∷ pss) = (length ps ≡ length n.positions) × AreAsLong ns pss
