-- The statement of an assignment.
use Rattle.std.specs.Prelude.{ℕ, suc, Bool, not, cond, List, [], ◌∷◌, ◌++◌, map, length, Option, is_some}
use Rattle.std.specs.List.{list_any}
use Rattle.c_tree.specs.declared.index.Cell.{Cell}
use Rattle.c_tree.specs.declared.data.Expr.{Expr}
use Rattle.c_tree.specs.declared.program.Program.{Program}
use Rattle.c_tree.specs.declared.statement.How.{How}
use Rattle.int_rows.specs.declared.row.Aff.{Aff}
use Rattle.c_meaning.specs.Names.{Name}
use Rattle.nest_tree.specs.declared.kernel.KernelRow.{KernelRow}
use Rattle.nest_tree.specs.declared.kernel.Nest.{Nest}
use Rattle.nest_systems.specs.Begun.{is_zero}
use Rattle.nest_systems.specs.Sums.{number_at}
use Rattle.source_limits.specs.declared.reads.Read.{Read}
use Rattle.acceptance.specs.Forms.{Vars, form, reads_of}
use Rattle.acceptance.specs.Visits.{Passed}
use Rattle.acceptance.specs.Around.{loop_names, around_expressions, cells_of, subscripts_of}
use Rattle.acceptance.specs.Rows.{rows_in, terms_of, access_of, body_of}
use Rattle.acceptance.specs.Whole.{whole_of, level_forms}

-- the form holds the variable
abbrev pub holds_at : ℕ → Aff → Bool
holds_at v f = not (is_zero (number_at f.coefs v))

abbrev pub form_of_row : KernelRow → Aff
form_of_row r = (r.row).form

-- those reads, from that variable on, that some form holds
abbrev pub held_from : ℕ → List Aff → List Read → List Read
held_from at forms [] = []
held_from at forms (r ∷ rs) = cond (list_any (holds_at at) forms) (r ∷ held_from (suc at) forms rs) (held_from (suc at) forms rs)

-- of the reads that an assignment and what stands around it name, those that a row or a subscript holds are terms
abbrev pub statement_vars : Program → List Passed → List Cell → Vars
statement_vars p around cells =
    let names : List Name = p.params ++ loop_names around in
    let all : Vars = record { names = names; reads = reads_of p.matrices names (around_expressions around ++ subscripts_of cells) } in
    record { names = names; reads = held_from (length names) (map form_of_row (rows_in (length p.params) all 0 around) ++ map (λ e. form e all) (subscripts_of cells)) all.reads }

-- an assignment with what stands around it, at its positions, as a statement of a kernel
abbrev pub statement : Program → List Passed → List ℕ → Cell → How → Expr → Nest
statement p around positions target how value =
    let v : Vars = statement_vars p around (target ∷ cells_of value) in
    let rows : List KernelRow = rows_in (length p.params) v 0 around in
    let loops : List Name = loop_names around in
    let whole : Option ℕ = whole_of p (length loops) (terms_of v) rows in
    record { levels = level_forms (is_some whole) loops; positions = positions; terms = terms_of v; rows = rows; target = access_of v target; how = how; value = body_of v value; whole = whole }
