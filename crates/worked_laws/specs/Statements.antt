-- The statements of the worked instances, over one parameter n.
use Rattle.std.specs.Prelude.{ℕ, List, [], ◌∷◌, ◌++◌, map, ℤ, pos, negsuc, None, false}
use Rattle.int_rows.specs.declared.row.Aff.{Aff}
use Rattle.c_tree.specs.declared.statement.How.TheVariants.{Write}
use Rattle.nest_tree.specs.declared.kernel.Nest.{Nest}
use Rattle.nest_tree.specs.declared.kernel.KernelRow.{KernelRow}
use Rattle.nest_tree.specs.declared.moves.Piece.{Piece}
use Rattle.nest_tree.specs.declared.body.Body.TheVariants.{Const}
use Rattle.nest_tree.specs.declared.form.Form.{Form}
use Rattle.nest_tree.specs.declared.form.Form.TheVariants.{Other}
use Rattle.nest_tree.specs.Forms.{replaced, replaced_row}
use Rattle.nest_tree.specs.Terms.{Input}
use Rattle.nest_tree.specs.Moving.{Move}
use Rattle.nest_tree.specs.Rewriting.{variables_of}

abbrev pub y : List ℕ
y = 121 ∷ []

abbrev pub form : List ℤ → ℤ → Aff
form cs k = record { coefs = cs; constant = k }

-- the form is at least 0; the row was made for this level
abbrev pub at_least_zero : ℕ → Aff → KernelRow
at_least_zero own f = record { row = record { form = f; equal = false }; own = own }

-- a level less than there are positions
abbrev pub levels_of : List ℕ → List Form
levels_of [] = []
levels_of (p ∷ ps) = map (λ q. Other) ps

-- an assignment of 1 in so many loops, with these rows
abbrev pub setting : List ℕ → List KernelRow → List Aff → Nest
setting positions rows at = record {
  levels = levels_of positions;
  positions = positions;
  terms = [];
  rows = rows;
  target = record { array = y; at = at };
  how = Write;
  value = Const 1;
  whole = None;
}

-- for i from 0 to below n: y[0] = 1
abbrev pub one_cell : Nest
one_cell = setting (0 ∷ 0 ∷ []) (at_least_zero 1 (form (pos 0 ∷ pos 1 ∷ []) (pos 0)) ∷ at_least_zero 1 (form (pos 1 ∷ negsuc 0 ∷ []) (negsuc 0)) ∷ []) (form [] (pos 0) ∷ [])

-- for i from 0 to below n, for j from 0 to below n: y[i][j] = 1
abbrev pub grid : Nest
grid = setting (0 ∷ 0 ∷ 0 ∷ []) (
    at_least_zero 1 (form (pos 0 ∷ pos 1 ∷ pos 0 ∷ []) (pos 0))
    ∷ at_least_zero 1 (form (pos 1 ∷ negsuc 0 ∷ pos 0 ∷ []) (negsuc 0))
    ∷ at_least_zero 2 (form (pos 0 ∷ pos 0 ∷ pos 1 ∷ []) (pos 0))
    ∷ at_least_zero 2 (form (pos 1 ∷ pos 0 ∷ negsuc 0 ∷ []) (negsuc 0))
    ∷ []) (form (pos 0 ∷ pos 1 ∷ pos 0 ∷ []) (pos 0) ∷ form (pos 0 ∷ pos 0 ∷ pos 1 ∷ []) (pos 0) ∷ [])

-- a piece that drops no row and adds no term
abbrev pub piece : List ℕ → List Form → List Aff → List KernelRow → Piece
piece positions levels old rows = record { drops = []; terms = []; rows = rows; old = old; levels = levels; positions = positions }

-- a statement without terms, a piece of it, and the statement in the new variables
abbrev pub moved : Nest → Piece → Move
moved n p = record {
  old = n;
  piece = p;
  new = record {
    levels = p.levels;
    positions = p.positions;
    terms = [];
    rows = map (λ r. record { row = replaced_row (variables_of 1 n p) r.row; own = r.own }) n.rows ++ p.rows;
    target = record { array = (n.target).array; at = map (replaced (variables_of 1 n p)) (n.target).at };
    how = n.how;
    value = n.value;
    whole = None;
  };
}

-- n has this value, and there are no index arrays
abbrev pub input : ℤ → Input
input n = record { params = n ∷ []; cells = λ a at. None }
