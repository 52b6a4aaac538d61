-- Statements that stay as they are, at other positions.
use Rattle.std.specs.Prelude.{◌<◌, ℕ, Bool, nat_le, IsTrue, List, length}
use Rattle.std.specs.List.{list_all, AllByRecursion}
use Rattle.nest_tree.specs.declared.kernel.Nest.{Nest}
use Rattle.nest_tree.specs.declared.moves.Piece.{Piece}
use Rattle.affine_moves.specs.declared.change.Change.TheVariants.{Stay}
use Rattle.affine_moves.specs.Change.{piece_of}

-- the positions are those of a kernel, which has at most 64 statements
abbrev pub are_small : List ℕ → Bool
are_small ps = list_all (λ p. nat_le p 64) ps

-- the piece that leaves a statement as it is, at other positions
abbrev pub piece_at : ℕ → Nest → List ℕ → Piece
piece_at params n ps = record (piece_of params Stay n) { positions = ps }

-- a statement has a position, and its positions are those of a kernel
pub record IsPlaced (n : Nest) : Type 0 where
  pub some : 0 < length n.positions
  pub small : IsTrue (are_small n.positions)

abbrev pub ArePlaced : List Nest → Type 0
ArePlaced ns = AllByRecursion IsPlaced ns
