-- A worked recipe: a loop that copies an array is tiled by two. All is over one parameter n, which is 3.
use Rattle.std.specs.Prelude.{◌≡◌, [], ◌∷◌, ℤ, pos, negsuc, true, None, Ok, if◌then◌else◌}
use Rattle.c_tree.specs.declared.index.Index.TheVariants.{Var}
use Rattle.c_tree.specs.declared.program.Program.{Program}
use Rattle.c_tree.specs.declared.statement.How.TheVariants.{Write}
use Rattle.c_meaning.specs.Examples.{b, c, i, n}
use Rattle.c_meaning.specs.Ground.{load, Step}
use Rattle.c_meaning.specs.Inputs.{Input}
use Rattle.c_meaning.specs.Names.{Name, same_name, line}
use Rattle.nest_tree.specs.declared.body.Access.{Access}
use Rattle.nest_tree.specs.declared.body.Body.TheVariants.{At}
use Rattle.nest_tree.specs.declared.form.Form.TheVariants.{Other}
use Rattle.nest_tree.specs.declared.kernel.Kernel.{Kernel}
use Rattle.nest_tree.specs.declared.kernel.Nest.{Nest}
use Rattle.nest_tree.specs.declared.moves.Moves.{Moves}
use Rattle.nest_tree.specs.declared.moves.Piece.{Piece}
use Rattle.nest_tree.specs.Moving.{Move}
use Rattle.nest_tree.specs.Places.{Item}
use Rattle.nest_tree.specs.Pieces.{IsTiledPiece}
use Rattle.source_limits.specs.Heads.{signature_of}
use Rattle.acceptance.specs.Accepted.{accepted}
use Rattle.affine_moves.specs.Moves.{tile_moves}
use Rattle.worked_laws.specs.Statements.{form, at_least_zero, piece}
use Rattle.worked_acceptance.specs.Examples.{copy_of, copying}
use Rattle.kernel_promise.specs.Motions.{Command, of_moves}
use Rattle.kernel_promise.specs.Moved.{moves_made}
use Rattle.kernel_promise.specs.Prescribed.{Items, items_of, IsPrescribed}

-- for (i = 0; i < n; i++) b[i] = c[i];
abbrev pub source : Program
source = copy_of (Var i)

abbrev pub kernel : Nest → Kernel
kernel k = record { head = signature_of source; made = []; nests = k ∷ [] }

abbrev pub input : Input
input = record { value = λ x. if same_name x n then pos 3 else pos 0; index = λ a at. pos 0; cells = λ x. 0 }

-- `tile(0, 1, 2, 1)`
abbrev pub in_twos : Command
in_twos k = of_moves (tile_moves k 0 1 2 1)

-- i is the new inner level, and 0 <= i-2*t <= 1 for the tile t
abbrev pub tiling : Piece
tiling = piece (0 ∷ 0 ∷ 0 ∷ []) (Other ∷ Other ∷ []) (form (pos 0 ∷ pos 0 ∷ pos 1 ∷ []) (pos 0) ∷ []) (
    at_least_zero 2 (form (pos 0 ∷ negsuc 1 ∷ pos 1 ∷ []) (pos 0)) ∷ at_least_zero 2 (form (pos 0 ∷ pos 2 ∷ negsuc 0 ∷ []) (pos 1)) ∷ [])

abbrev pub inner : Name → Access
inner a = record { array = a; at = form (pos 0 ∷ pos 0 ∷ pos 1 ∷ []) (pos 0) ∷ [] }

abbrev pub tiled : Nest
tiled = record {
  levels = Other ∷ Other ∷ [];
  positions = 0 ∷ 0 ∷ 0 ∷ [];
  terms = [];
  rows = at_least_zero 2 (form (pos 0 ∷ pos 0 ∷ pos 1 ∷ []) (pos 0)) ∷ at_least_zero 2 (form (pos 1 ∷ pos 0 ∷ negsuc 0 ∷ []) (negsuc 0))
      ∷ at_least_zero 2 (form (pos 0 ∷ negsuc 1 ∷ pos 1 ∷ []) (pos 0)) ∷ at_least_zero 2 (form (pos 0 ∷ pos 2 ∷ negsuc 0 ∷ []) (pos 1)) ∷ [];
  target = inner b;
  how = Write;
  value = At (inner c);
  whole = None;
}

abbrev pub move : Move
move = record { old = copying; piece = tiling; new = tiled }

abbrev pub moves : Moves
moves = record { pieces = (tiling ∷ []) ∷ []; applies = true ∷ [] }

-- b[v] = c[v]
abbrev pub copies : ℤ → Step
copies v = record { target = record { array = b; at = line v }; how = Write; value = load (record { array = c; at = line v }) }

abbrev pub in_turn : ℤ → Item Step
in_turn v = record { place = pos 0 ∷ v ∷ pos 0 ∷ []; step = copies v }

abbrev pub in_tile : ℤ → ℤ → Item Step
in_tile t v = record { place = pos 0 ∷ t ∷ pos 0 ∷ v ∷ pos 0 ∷ []; step = copies v }

abbrev pub own_list : Items
own_list = in_turn (pos 0) ∷ in_turn (pos 1) ∷ in_turn (pos 2) ∷ []

abbrev pub tiled_list : Items
tiled_list = in_tile (pos 0) (pos 0) ∷ in_tile (pos 0) (pos 1) ∷ in_tile (pos 1) (pos 2) ∷ []

-- the source is accepted, the command finds these pieces, they make this statement, and the recipe prescribes this list and no other
abbrev pub TiledLoop : Type 0
TiledLoop =
    (accepted source ≡ Ok (kernel copying)) × (items_of source input ≡ own_list) × (tile_moves (kernel copying) 0 1 2 1 ≡ Ok moves) × (moves_made (kernel copying) moves ≡ Ok (move ∷ []))
    × IsTiledPiece 1 (pos 2) 1 1 1 tiling × IsPrescribed source (in_twos ∷ []) input tiled_list × ((ys : Items) → IsPrescribed source (in_twos ∷ []) input ys → ys ≡ tiled_list)
