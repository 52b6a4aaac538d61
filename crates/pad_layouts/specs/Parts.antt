-- What a padded statement is made of.
use Rattle.std.specs.Prelude.{◌≡◌, ◌≤◌, ℕ, ◌+◌, IsTrue, List, [], ◌∷◌, ◌++◌, map, length, replicate, pos, negsuc, Option, Some, None, slice_index_or}
use Rattle.std.specs.List.{list_all, range_with_len}
use Rattle.int_rows.specs.declared.row.Aff.{Aff}
use Rattle.nest_tree.specs.declared.form.Form.TheVariants.{Other}
use Rattle.nest_tree.specs.declared.kernel.KernelRow.{KernelRow}
use Rattle.nest_tree.specs.declared.kernel.Nest.{Nest}
use Rattle.nest_tree.specs.declared.kernel.Term.{Term}
use Rattle.nest_core.specs.Shapes.{is_row_over, is_term_over, is_access_over}
use Rattle.pad_layouts.specs.declared.parts.Parts.{Parts}
use Rattle.pad_layouts.specs.declared.parts.KeptArrays.{KeptArrays}
use Rattle.pad_layouts.specs.Forms.{one, two, bound}
use Rattle.pad_layouts.specs.Moved.{moved_access, padded_body}

-- parameters stand for themselves, and the new levels and terms for these
abbrev pub picks_of : ℕ → List (Option ℕ) → List (Option ℕ)
picks_of params more = map Some (range_with_len 0 params) ++ more

-- a read of one argument
abbrev pub read : List ℕ → Aff → Term
read array f = record { array = array; at = f ∷ [] }

-- the kept value at a level, and where those of its group begin and end
abbrev pub kept_terms : ℕ → KeptArrays → ℕ → Aff → Aff → List Term
kept_terms vars arrays level group next = read arrays.kept (one vars level (pos 0)) ∷ read arrays.pointer group ∷ read arrays.pointer next ∷ []

-- the bounds of a level between the begin and the end of its group: level - begin >= 0, end - 1 - level >= 0
abbrev pub pointer_rows : ℕ → ℕ → ℕ → ℕ → List KernelRow
pointer_rows vars own level begin =
    bound own (two vars level (pos 1) begin (negsuc 0) (pos 0)) ∷ bound own (two vars (begin + 1) (pos 1) level (negsuc 0) (negsuc 0)) ∷ []

-- the statement of these parts in the place of an old one
unfoldable pub padded_nest : List ℕ → Nest → Parts → Nest
padded_nest value n p = record {
  levels = replicate p.depth Other;
  positions = slice_index_or n.positions 0 0 ∷ replicate p.depth 0;
  terms = p.terms;
  rows = p.rows;
  target = moved_access p.picks n.target;
  how = n.how;
  value = padded_body p.picks value p.cell n.value;
  whole = None;
}

-- the parts are over the parameters, levels and terms of the new statement
pub record AreFitting (params : ℕ) (p : Parts) : Type 0 where
  pub depth : p.depth ≤ 8
  pub picks : length p.picks ≡ params + p.depth + length p.terms
  pub terms : IsTrue (list_all (is_term_over (length p.picks)) p.terms)
  pub rows : IsTrue (list_all (is_row_over (length p.picks) p.depth) p.rows)
  pub cell : IsTrue (is_access_over (length p.picks) p.cell)
