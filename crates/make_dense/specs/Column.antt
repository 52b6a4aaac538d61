-- The column of the entry in the subscripts of a statement's cells, once a level stands for it.
use Rattle.std.specs.Prelude.{ℕ, suc, ◌+◌, ◌-◌, cond, List, [], ◌∷◌, ◌++◌, length, map, pos, Result, Ok}
use Rattle.std.specs.List.{range_with_len}
use Rattle.int_rows.specs.declared.row.Aff.{Aff}
use Rattle.int_rows.specs.declared.row.Excess.{Excess}
use Rattle.nest_tree.specs.declared.body.Access.{Access}
use Rattle.nest_tree.specs.declared.body.Body.{Body}
use Rattle.nest_tree.specs.declared.kernel.Nest.{Nest}
use Rattle.nest_tree.specs.declared.kernel.Term.{Term}
use Rattle.nest_core.specs.Making.{after}
use Rattle.nest_core.specs.Pieces.{access_made, body_made}
use Rattle.nest_core.specs.Shapes.{vars_of}
use Rattle.affine_moves.specs.Change.{unit}
use Rattle.one_statement.specs.declared.images.Images.{Images}
use Rattle.one_statement.specs.Images.{image_of}
use Rattle.make_dense.specs.Forms.{reads_at}

-- the levels as they are
abbrev pub same_levels : ℕ → ℕ → ℕ → List Aff
same_levels vars params levels = map (λ l. unit vars (params + l)) (range_with_len 0 levels)

-- the variable that a term, which is variable v, becomes
abbrev pub image_var : List ℕ → ℕ → ℕ → ℕ → Term → ℕ
image_var column dense entry v t = cond (reads_at column entry (pos 0) t) dense v

abbrev pub term_image : List ℕ → ℕ → ℕ → ℕ → ℕ → Term → Aff
term_image column dense entry vars v t = unit vars (image_var column dense entry v t)

-- what the terms become, which are the variables from v on
abbrev pub term_images : List ℕ → ℕ → ℕ → ℕ → ℕ → List Term → List Aff
term_images column dense entry vars v [] = []
term_images column dense entry vars v (t ∷ ts) = term_image column dense entry vars v t ∷ term_images column dense entry vars (suc v) ts

-- the column's level stands for each read of the column at the entry, which is the level behind it; all other variables stay
unfoldable pub column_images : ℕ → Nest → ℕ → List ℕ → Images
column_images params n level column = record {
  params = params;
  vars = vars_of params n;
  forms = same_levels (vars_of params n) params (length n.levels) ++ term_images column (params + (level - 1)) (params + level) (vars_of params n) (params + length n.levels) n.terms;
}

-- the statement with other cells
abbrev pub with_cells : Nest → Access → Body → Nest
with_cells n target value = record { levels = n.levels; positions = n.positions; terms = n.terms; rows = n.rows; target = target; how = n.how; value = value; whole = n.whole }

-- the statement with the column's level in the subscripts of its cells, where these held the column of the entry
abbrev pub with_column : ℕ → Nest → ℕ → List ℕ → Result Nest Excess
with_column params n level column =
    let i = column_images params n level column in
    after (access_made (image_of i) n.target) (λ target. after (body_made (image_of i) n.value) (λ value. Ok (with_cells n target value)))
