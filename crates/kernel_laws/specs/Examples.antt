-- A worked case: y[i] = 1 for i from 0 to below n, shifted by 5.
use Rattle.std.specs.Prelude.{◌≡◌, true, false, [], ◌∷◌, ℤ, pos, negsuc, None, Ok}
use Rattle.int_rows.specs.declared.row.Aff.{Aff}
use Rattle.c_tree.specs.declared.program.Program.{Program}
use Rattle.c_tree.specs.declared.statement.How.TheVariants.{Write}
use Rattle.nest_tree.specs.declared.kernel.Nest.{Nest}
use Rattle.nest_tree.specs.declared.moves.Piece.{Piece}
use Rattle.nest_tree.specs.declared.body.Body.TheVariants.{Const}
use Rattle.nest_tree.specs.declared.form.Form.TheVariants.{Other}
use Rattle.nest_tree.specs.Rewriting.{IsRewritten}
use Rattle.nest_core.specs.Pieces.{nest_of_piece}
use Rattle.nest_core.specs.Shapes.{IsShapedNest, FitsNest}
use Rattle.kernel_laws.specs.Laws.{IsPlain}

-- one parameter, n
abbrev pub head : Program
head = record { name = 102 ∷ []; matrices = []; params = (110 ∷ []) ∷ []; arrays = []; inspector = []; executor = [] }

-- a form of n and i
abbrev pub form : ℤ → ℤ → ℤ → Aff
form n i k = record { coefs = n ∷ i ∷ []; constant = k }

-- the two bounds of the loop, and the subscript
abbrev pub setting : Aff → Aff → Aff → Nest
setting low high at = record {
  levels = Other ∷ [];
  positions = 0 ∷ 0 ∷ [];
  terms = [];
  rows = record { row = record { form = low; equal = false }; own = 1 } ∷ record { row = record { form = high; equal = false }; own = 1 } ∷ [];
  target = record { array = 121 ∷ []; at = at ∷ [] };
  how = Write;
  value = Const 1;
  whole = None;
}

-- i >= 0 and n-1-i >= 0
abbrev pub ones : Nest
ones = setting (form (pos 0) (pos 1) (pos 0)) (form (pos 1) (negsuc 0) (negsuc 0)) (form (pos 0) (pos 1) (pos 0))

-- i is the new level less 5
abbrev pub by_five : Piece
by_five = record { drops = []; terms = []; rows = []; old = form (pos 0) (pos 1) (negsuc 4) ∷ []; levels = Other ∷ []; positions = 0 ∷ 0 ∷ [] }

-- t-5 >= 0, n+4-t >= 0, and y[t-5] = 1
abbrev pub shifted_ones : Nest
shifted_ones = setting (form (pos 0) (pos 1) (negsuc 4)) (form (pos 1) (negsuc 0) (pos 4)) (form (pos 0) (pos 1) (negsuc 4))

-- all that is asked holds, the code's definition gives the shifted statement, and this is the old one in the new variable
abbrev pub WorkedPiece : Type 0
WorkedPiece =
    IsShapedNest head ones × FitsNest 1 ones by_five × IsPlain 1 by_five × (nest_of_piece 1 true ones by_five ≡ Ok shifted_ones)
    × IsRewritten 1 (record { old = ones; piece = by_five; new = shifted_ones })
