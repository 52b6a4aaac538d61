-- Forms in which each level and each term of a statement is replaced by a form of new variables. Parameters stay.
use Rattle.std.specs.Prelude.{ℕ, ◌+◌, ◌-◌, length, Result, Ok}
use Rattle.int_rows.specs.declared.row.Aff.{Aff}
use Rattle.int_rows.specs.declared.row.Excess.{Excess}
use Rattle.nest_tree.specs.declared.kernel.KernelRow.{KernelRow}
use Rattle.nest_core.specs.declared.form.Frame.{Frame}
use Rattle.nest_core.specs.Making.{after}
use Rattle.nest_core.specs.Forms.{rewritten}
use Rattle.one_statement.specs.declared.images.Images.{Images}

-- how many variables the old forms have
abbrev pub old_vars : Images → ℕ
old_vars i = i.params + length i.forms

-- levels and terms alike count as levels that are replaced
abbrev pub frame_of : Images → Frame
frame_of i = record { params = i.params; levels = length i.forms; terms = 0; new_levels = i.vars - i.params; new_terms = 0 }

-- the form with each level and each term replaced by its image; `Large` at the first place whose number, or a product met in making it, is past the limit
unfoldable pub image_of : Images → Aff → Result Aff Excess
image_of i f = rewritten (frame_of i) i.forms f

-- the row with its form so, as a row of this own level
abbrev pub row_image : Images → ℕ → KernelRow → Result KernelRow Excess
row_image i own r = after (image_of i r.row.form) (λ f. Ok (record { row = record { equal = r.row.equal; form = f }; own = own }))

-- the row with its form so, as a row of the same own level
abbrev pub same_row : Images → KernelRow → Result KernelRow Excess
same_row i r = row_image i r.own r
