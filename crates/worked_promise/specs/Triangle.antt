-- A worked permutation: the loops of a triangle change places. All is over one parameter n, which is 3.
use Rattle.std.specs.Prelude.{◌≡◌, [], ◌∷◌, ℤ, pos, negsuc, true, Ok, Some}
use Rattle.c_tree.specs.declared.program.Program.{Program}
use Rattle.c_tree.specs.declared.statement.How.TheVariants.{Write}
use Rattle.c_meaning.specs.Ground.{number, Step}
use Rattle.c_meaning.specs.Inputs.{Input}
use Rattle.nest_tree.specs.declared.form.Form.TheVariants.{Other}
use Rattle.nest_tree.specs.declared.kernel.Kernel.{Kernel}
use Rattle.nest_tree.specs.declared.kernel.Nest.{Nest}
use Rattle.nest_tree.specs.declared.moves.Moves.{Moves}
use Rattle.nest_tree.specs.declared.moves.Piece.{Piece}
use Rattle.nest_tree.specs.Moving.{Move}
use Rattle.nest_tree.specs.Places.{Item}
use Rattle.nest_tree.specs.Pieces.{IsPermutedPiece}
use Rattle.affine_moves.specs.Moves.{permute_moves}
use Rattle.worked_laws.specs.Statements.{y, form, at_least_zero, setting, piece}
use Rattle.kernel_promise.specs.Motions.{Command, of_some_moves}
use Rattle.kernel_promise.specs.Moved.{moves_made}
use Rattle.kernel_promise.specs.Prescribed.{Items, IsMovedThrough}

-- for i from 0 to below n, for j from i to below n: y[i][j] = 1
abbrev pub triangle : Nest
triangle = setting (0 ∷ 0 ∷ 0 ∷ []) (
    at_least_zero 1 (form (pos 0 ∷ pos 1 ∷ pos 0 ∷ []) (pos 0))
    ∷ at_least_zero 1 (form (pos 1 ∷ negsuc 0 ∷ pos 0 ∷ []) (negsuc 0))
    ∷ at_least_zero 2 (form (pos 0 ∷ negsuc 0 ∷ pos 1 ∷ []) (pos 0))
    ∷ at_least_zero 2 (form (pos 1 ∷ pos 0 ∷ negsuc 0 ∷ []) (negsuc 0))
    ∷ []) (form (pos 0 ∷ pos 1 ∷ pos 0 ∷ []) (pos 0) ∷ form (pos 0 ∷ pos 0 ∷ pos 1 ∷ []) (pos 0) ∷ [])

abbrev pub head : Program
head = record { name = 102 ∷ []; matrices = []; params = (110 ∷ []) ∷ []; arrays = []; inspector = []; executor = [] }

abbrev pub kernel : Nest → Kernel
kernel n = record { head = head; made = []; nests = n ∷ [] }

abbrev pub input : Input
input = record { value = λ x. pos 3; index = λ a at. pos 0; cells = λ x. 0 }

-- `permute(0, [2, 1])`
abbrev pub swap : Command
swap k = of_some_moves (permute_moves k 0 (2 ∷ 1 ∷ []))

-- i is the new inner level, and j the outer one
abbrev pub swapping : Piece
swapping = piece (0 ∷ 0 ∷ 0 ∷ []) (Other ∷ Other ∷ []) (form (pos 0 ∷ pos 0 ∷ pos 1 ∷ []) (pos 0) ∷ form (pos 0 ∷ pos 1 ∷ pos 0 ∷ []) (pos 0) ∷ []) []

abbrev pub swapped : Nest
swapped = setting (0 ∷ 0 ∷ 0 ∷ []) (
    at_least_zero 2 (form (pos 0 ∷ pos 0 ∷ pos 1 ∷ []) (pos 0))
    ∷ at_least_zero 2 (form (pos 1 ∷ pos 0 ∷ negsuc 0 ∷ []) (negsuc 0))
    ∷ at_least_zero 1 (form (pos 0 ∷ pos 1 ∷ negsuc 0 ∷ []) (pos 0))
    ∷ at_least_zero 1 (form (pos 1 ∷ negsuc 0 ∷ pos 0 ∷ []) (negsuc 0))
    ∷ []) (form (pos 0 ∷ pos 0 ∷ pos 1 ∷ []) (pos 0) ∷ form (pos 0 ∷ pos 1 ∷ pos 0 ∷ []) (pos 0) ∷ [])

abbrev pub move : Move
move = record { old = triangle; piece = swapping; new = swapped }

abbrev pub moves : Moves
moves = record { pieces = (swapping ∷ []) ∷ []; applies = true ∷ [] }

-- y[i][j] = 1, in turn v of the outer loop and w of the inner one
abbrev pub sets : ℤ → ℤ → ℤ → ℤ → Item Step
sets v w i j = record { place = pos 0 ∷ v ∷ pos 0 ∷ w ∷ pos 0 ∷ []; step = record { target = record { array = y; at = i ∷ j ∷ pos 0 ∷ [] }; how = Write; value = number 1 } }

-- row by row
abbrev pub by_rows : Items
by_rows =
    sets (pos 0) (pos 0) (pos 0) (pos 0) ∷ sets (pos 0) (pos 1) (pos 0) (pos 1) ∷ sets (pos 0) (pos 2) (pos 0) (pos 2)
    ∷ sets (pos 1) (pos 1) (pos 1) (pos 1) ∷ sets (pos 1) (pos 2) (pos 1) (pos 2) ∷ sets (pos 2) (pos 2) (pos 2) (pos 2) ∷ []

-- column by column
abbrev pub by_columns : Items
by_columns =
    sets (pos 0) (pos 0) (pos 0) (pos 0) ∷ sets (pos 1) (pos 0) (pos 0) (pos 1) ∷ sets (pos 1) (pos 1) (pos 1) (pos 1)
    ∷ sets (pos 2) (pos 0) (pos 0) (pos 2) ∷ sets (pos 2) (pos 1) (pos 1) (pos 2) ∷ sets (pos 2) (pos 2) (pos 2) (pos 2) ∷ []

-- the command finds these pieces, they make this statement, and the list goes by columns where it went by rows
abbrev pub PermutedTriangle : Type 0
PermutedTriangle =
    (permute_moves (kernel triangle) 0 (2 ∷ 1 ∷ []) ≡ Ok (Some moves)) × (moves_made (kernel triangle) moves ≡ Ok (move ∷ [])) × IsPermutedPiece 1 (2 ∷ 1 ∷ []) swapping
    × IsMovedThrough input (swap ∷ []) (kernel triangle) by_rows (kernel swapped) by_columns
