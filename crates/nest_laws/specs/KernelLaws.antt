-- Laws of kernels on an input: values of terms, rewritten statements, and the list of a kernel that pieces make.
use Rattle.std.specs.Prelude.{◌≡◌, ◌⊎◌, ℕ, List, ◌++◌, map, length, ℤ}
use Rattle.nest_tree.specs.declared.kernel.Nest.{Nest}
use Rattle.nest_tree.specs.declared.kernel.Term.{Term}
use Rattle.nest_tree.specs.declared.moves.Piece.{Piece}
use Rattle.nest_tree.specs.Lists.{IsIn}
use Rattle.nest_tree.specs.Places.{Item}
use Rattle.nest_tree.specs.Effects.{IsMoved}
use Rattle.nest_tree.specs.Terms.{Input, reading, term_values, HaveRanks}
use Rattle.nest_tree.specs.Kernels.{IsKernelList, AreDistinct}
use Rattle.nest_tree.specs.Moving.{Move, Goes, IsMovedList, StandsFor, IsMade, ArePieces, IsOneToOne}
use Rattle.nest_tree.specs.Rewriting.{IsRewritten, IsWide, FitsWide}
use Rattle.c_meaning.specs.Ground.{Step}
use Rattle.nest_laws.specs.Acts.{act}

-- no term holds itself, if there are terms
abbrev pub HaveSomeRanks : ℕ → List Term → Type 0
HaveSomeRanks width terms = (length terms ≡ 0) ⊎ ((rank : ℕ → ℕ) × HaveRanks width terms rank)

-- where no term holds itself, the terms' values are what the terms read at these values, and no other values are
abbrev pub TermsHaveTheirReadings : Type 0
TermsHaveTheirReadings =
    (i : Input) (terms : List Term) (p : List ℤ) → HaveSomeRanks (length p) terms
    → (term_values i terms p ≡ map (reading i (p ++ term_values i terms p)) terms) × ((ts : List ℤ) → ts ≡ map (reading i (p ++ ts)) terms → ts ≡ term_values i terms p)

-- a rewritten statement has a point exactly where the old one has one and the piece's rows are met, and does the same there
abbrev pub RewrittenStandsForOld : Type 0
RewrittenStandsForOld = (i : Input) (m : Move) → IsRewritten (length i.params) m → StandsFor act i m

-- one-to-one pieces, one for each statement, are pieces of the kernel
abbrev pub OnePieceEach : Type 0
OnePieceEach =
    (i : Input) (moves : List Move) (nests : List Nest) → ((n : Nest) → IsIn n nests → (m : Move) × IsIn m moves × (m.old ≡ n)) → ((m k : Move) → IsIn m moves → IsIn k moves → m.old ≡ k.old → m ≡ k)
    → ((m : Move) → IsIn m moves → IsOneToOne i m) → ((m k : Move) → IsIn m moves → IsIn k moves → (m.piece).positions ≡ (k.piece).positions → m ≡ k) → ArePieces i moves nests

-- the list of the kernel that pieces make is the moved list, and its items are the old ones, one for one
abbrev pub MadeKernelHasMovedList : Type 0
MadeKernelHasMovedList =
    (i : Input) (moves : List Move) (nests new : List Nest) → IsMade moves nests new → ((m : Move) → IsIn m moves → StandsFor act i m) → ArePieces i moves nests → AreDistinct nests
    → (xs ys : List (Item Step)) → IsKernelList act i nests xs → IsKernelList act i new ys → IsMovedList act i moves xs ys × IsMoved (Goes act i moves) xs ys

-- for each statement and each piece that fits it there is a rewritten statement
abbrev pub FittingPieceMakes : Type 0
FittingPieceMakes = (params : ℕ) (n : Nest) (p : Piece) → IsWide params n → FitsWide params n p → (new : Nest) × IsRewritten params (record { old = n; piece = p; new = new })
