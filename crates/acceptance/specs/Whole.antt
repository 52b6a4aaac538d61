-- Which statements go over the rows and the entries of a whole matrix.
use Rattle.std.specs.Prelude.{ℕ, ◌+◌, ℤ, pos, Bool, true, false, ◌&&◌, not, cond, nat_eq, bytes_eq, List, [], ◌∷◌, map, length, Option, Some, None}
use Rattle.std.specs.List.{list_any, position_from}
use Rattle.c_tree.specs.declared.program.Matrix.{Matrix}
use Rattle.c_tree.specs.declared.program.Program.{Program}
use Rattle.int_rows.specs.declared.row.Aff.{Aff}
use Rattle.c_meaning.specs.Names.{Name}
use Rattle.nest_tree.specs.declared.form.Form.{Form}
use Rattle.nest_tree.specs.declared.form.Form.TheVariants.{Other, Whole}
use Rattle.nest_tree.specs.declared.kernel.KernelRow.{KernelRow}
use Rattle.nest_tree.specs.declared.kernel.Term.{Term}
use Rattle.nest_tree.specs.Forms.{less, variable}
use Rattle.nest_systems.specs.Begun.{widened}
use Rattle.acceptance.specs.Forms.{same_form}
use Rattle.acceptance.specs.Rows.{at_least_zero, one_less}

-- the same row
abbrev pub same_row : KernelRow → KernelRow → Bool
same_row a b = nat_eq a.own b.own && (not (a.row).equal && same_form (a.row).form (b.row).form)

abbrev pub same_rows : List KernelRow → List KernelRow → Bool
same_rows [] [] = true
same_rows (a ∷ more) (b ∷ others) = same_row a b && same_rows more others
same_rows _ _ = false

-- a parameter
abbrev pub size_form : Program → Name → Aff
size_form p x = record { coefs = map (λ y. cond (bytes_eq y x) (pos 1) (pos 0)) p.params; constant = pos 0 }

-- the variable of the term that reads the array at the first level, plus a number
abbrev pub is_read_at : Program → ℕ → Name → ℤ → Term → Bool
is_read_at p vars array more t = bytes_eq t.array array && list_any (same_form (widened vars (record { coefs = (variable (length p.params)).coefs; constant = more }))) t.at

-- the variable of the first such term
abbrev pub read_at : Program → List Term → Name → ℤ → Option ℕ
read_at p terms array more = position_from (is_read_at p (length p.params + 2 + length terms) array more) (length p.params + 2) terms

-- r >= 0, n-1-r >= 0, k - index[r] >= 0 and index[r+1]-1-k >= 0
abbrev pub whole_rows : Program → Matrix → ℕ → Option ℕ → Option ℕ → Option (List KernelRow)
whole_rows p m vars (Some b) (Some e) =
    let r : Aff = variable (length p.params) in
    let k : Aff = variable (length p.params + 1) in
    Some (at_least_zero 1 (widened vars r) ∷ at_least_zero 1 (widened vars (one_less (less (size_form p m.rows) r)))
    ∷ at_least_zero 2 (widened vars (less k (variable b))) ∷ at_least_zero 2 (widened vars (one_less (less (variable e) k))) ∷ [])
whole_rows p m vars _ _ = None

-- the rows are those, where there are any
abbrev pub are_rows : List KernelRow → Option (List KernelRow) → Bool
are_rows rows (Some wanted) = same_rows rows wanted
are_rows rows None = false

-- the rows are those of a matrix
abbrev pub goes_over : Program → List Term → List KernelRow → Matrix → Bool
goes_over p terms rows m = are_rows rows (whole_rows p m (length p.params + 2 + length terms) (read_at p terms m.index (pos 0)) (read_at p terms m.index (pos 1)))

-- the matrix whose rows and whose entries in a row two levels go over
abbrev pub whole_of : Program → ℕ → List Term → List KernelRow → Option ℕ
whole_of p levels terms rows = cond (nat_eq levels 2) (position_from (goes_over p terms rows) 0 p.matrices) None

abbrev pub whole_form : ℤ → ℤ → Form
whole_form r k = Whole r (pos 0) k (pos 0) (pos 1)

-- the forms of a whole statement's levels, and of any other's
abbrev pub level_forms : Bool → List Name → List Form
level_forms true loops = whole_form (pos 1) (pos 0) ∷ whole_form (pos 0) (pos 1) ∷ []
level_forms false loops = map (λ x. Other) loops
