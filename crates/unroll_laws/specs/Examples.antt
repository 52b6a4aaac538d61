-- A worked case: ten assignments b[i] = c[i], in groups of four.
use Rattle.std.specs.Prelude.{◌≡◌, ℕ, zero, suc, ◌<◌, List, [], ◌∷◌, map, length, ℤ, pos, negsuc, Bool, false, None}
use Rattle.int_rows.specs.declared.row.Aff.{Aff}
use Rattle.c_tree.specs.declared.statement.How.TheVariants.{Write}
use Rattle.nest_tree.specs.declared.kernel.Nest.{Nest}
use Rattle.nest_tree.specs.declared.kernel.KernelRow.{KernelRow}
use Rattle.nest_tree.specs.declared.moves.Piece.{Piece}
use Rattle.nest_tree.specs.declared.body.Body.TheVariants.{At}
use Rattle.nest_tree.specs.declared.form.Form.{Form}
use Rattle.nest_tree.specs.declared.form.Form.TheVariants.{Other}
use Rattle.nest_tree.specs.Terms.{Input}
use Rattle.nest_tree.specs.Forms.{number, less, variable, replaced}
use Rattle.nest_tree.specs.Pieces.{is_at_least_zero}
use Rattle.nest_tree.specs.Moving.{Move, StandsFor}
use Rattle.nest_tree.specs.Rewriting.{variables_of}
use Rattle.nest_tree.specs.Unrolling.{Part, full, rest}
use Rattle.nest_laws.specs.Acts.{act}
use Rattle.unroll_laws.specs.Grouping.{UpperRow, upper_form, group_forms, level_forms, IsUnrolling, IsOneOf}
use Rattle.unroll_laws.specs.Laws.{IsOneToOneInto}

-- no bound holds a term
abbrev pub none_marked : ℕ → Bool
none_marked j = false

abbrev pub from_zero : Aff
from_zero = number (pos 0)

abbrev pub to_nine : List UpperRow
to_nine = record { less_one = 0; bound = number (pos 9) } ∷ []

abbrev pub bound_rows : List Aff → List KernelRow
bound_rows fs = map (λ f. record { row = is_at_least_zero f; own = 1 }) fs

-- for i from 0 to 9: b[i] = c[i]
abbrev pub ten_copies : Nest
ten_copies = record {
  levels = Other ∷ [];
  positions = 0 ∷ 0 ∷ [];
  terms = [];
  rows = bound_rows (less (variable 0) from_zero ∷ upper_form (record { less_one = 0; bound = number (pos 9) }) (variable 0) ∷ []);
  target = record { array = 98 ∷ []; at = variable 0 ∷ [] };
  how = Write;
  value = At (record { array = 99 ∷ []; at = variable 0 ∷ [] });
  whole = None;
}

abbrev pub piece_for : Part → ℕ → List Form → List ℕ → Piece
piece_for part copy levels positions = record {
  drops = 0 ∷ 1 ∷ [];
  terms = [];
  rows = bound_rows (group_forms part 4 copy 0 from_zero to_nine);
  old = level_forms part 4 copy 0 0 1 from_zero;
  levels = levels;
  positions = positions;
}

abbrev pub move_for : Piece → Move
move_for p = record {
  old = ten_copies;
  piece = p;
  new = record {
    levels = p.levels;
    positions = p.positions;
    terms = [];
    rows = p.rows;
    target = record { array = 98 ∷ []; at = replaced (variables_of 0 ten_copies p) (variable 0) ∷ [] };
    how = Write;
    value = At (record { array = 99 ∷ []; at = replaced (variables_of 0 ten_copies p) (variable 0) ∷ [] });
    whole = None;
  };
}

-- the copies of the full loop, and the rest behind it
abbrev pub copies : ℕ → Move
copies c = move_for (piece_for full c (Other ∷ []) (0 ∷ c ∷ []))

abbrev pub rests : ℕ → Move
rests k = move_for (piece_for (rest k) 0 (Other ∷ Other ∷ []) (1 ∷ 0 ∷ 0 ∷ []))

abbrev pub no_input : Input
no_input = record { params = []; cells = λ a at. None }

-- all that is asked of unrolled statements holds here, so the copies and the rest are one to one and onto, and stand for the ten assignments
abbrev pub WorkedUnrolling : Type 0
WorkedUnrolling =
    IsUnrolling 0 0 4 from_zero to_nine none_marked ten_copies copies rests × IsOneToOneInto no_input (IsOneOf 4 1 copies rests) ten_copies
    × ((c : ℕ) → c < 4 → StandsFor act no_input (copies c)) × StandsFor act no_input (rests 0)
