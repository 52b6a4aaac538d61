use Rattle.std.proofs.Common.{length, map, take, drop, ◌+◌, ap, ◌∙◌}
use Rattle.std.proofs.lemmas.Result.{err_from_is_err_and}
use Rattle.int_rows.specs.Elimination.{substituted, made}
use Rattle.chill_base.proofs.Each.{each-get}
use Rattle.int_rows.specs.Systems.{Rows, IsRowOf}
use Rattle.int_sets.specs.Views.{row_of}
use Rattle.int_sets.proofs.Gathered.{made-equality, equality-holds, gathered-both, first-stops, second-stops}
use Rattle.int_sets.proofs.gather.gather_by_equality.Goals as goal

pub substitute_rows-requires-clause-equality_row : goal.substitute_rows-requires-clause-equality_row
substitute_rows-requires-clause-equality_row c = each-get (IsRowOf c.args.rows.now.vars) c.args.rows.now.rows c.args.at (row_of c.row-equality.result) c.requires.each_row c.row-equality.ensures.row

pub substitute_rows-requires-2-clause-equality_row : goal.substitute_rows-requires-2-clause-equality_row
substitute_rows-requires-2-clause-equality_row c = each-get (IsRowOf c.args.rows.now.vars) c.args.rows.now.rows c.args.at (row_of c.row-equality.result) c.requires.each_row c.row-equality.ensures.row

pub substitute_rows-requires-clause-held : goal.substitute_rows-requires-clause-held
substitute_rows-requires-clause-held c = equality-holds c.args.var c.args.rows.now.rows c.args.at (row_of c.row-equality.result) c.requires.found c.row-equality.ensures.row

pub substitute_rows-requires-2-clause-held : goal.substitute_rows-requires-2-clause-held
substitute_rows-requires-2-clause-held c = equality-holds c.args.var c.args.rows.now.rows c.args.at (row_of c.row-equality.result) c.requires.found c.row-equality.ensures.row

pub returns-in_err-substitute_rows : goal.returns-in_err-substitute_rows
returns-in_err-substitute_rows c =
    let x = c.args.var in
    let rows = c.args.rows.now.rows in
    let at = c.args.at in
    let e = row_of c.row-equality.result in
    let first = map (substituted x e) (drop 0 (take at rows)) in
    let second = map (substituted x e) (drop (at + 1) (take (length rows) rows)) in
    let parts = made-equality x rows at e c.requires.found c.row-equality.ensures.row in
    let p = err_from_is_err_and c.from_residual.result c.from_residual.ensures.1 in
    rw (p.1, p.2) (first-stops x (made x rows) first second parts c.in_err-substitute_rows.field-0.0 c.in_err-substitute_rows.ensures.kept)

pub returns-in_err-substitute_rows-2 : goal.returns-in_err-substitute_rows-2
returns-in_err-substitute_rows-2 c =
    let x = c.args.var in
    let rows = c.args.rows.now.rows in
    let at = c.args.at in
    let e = row_of c.row-equality.result in
    let first = map (substituted x e) (drop 0 (take at rows)) in
    let second = map (substituted x e) (drop (at + 1) (take (length rows) rows)) in
    let parts = made-equality x rows at e c.requires.found c.row-equality.ensures.row in
    let p = err_from_is_err_and c.from_residual-in_err-substitute_rows-2.result c.from_residual-in_err-substitute_rows-2.ensures.1 in
    let k = c.in_ok-substitute_rows.ensures.kept in
    rw (p.1, p.2) (second-stops x (made x rows) first second parts k.0 c.in_err-substitute_rows-2.field-0.0 (rw c.len-end.ensures at c.in_err-substitute_rows-2.ensures.kept))

pub returns : goal.returns
returns c =
    let x = c.args.var in
    let rows = c.args.rows.now.rows in
    let at = c.args.at in
    let e = row_of c.row-equality.result in
    let first = map (substituted x e) (drop 0 (take at rows)) in
    let second = map (substituted x e) (drop (at + 1) (take (length rows) rows)) in
    let parts = made-equality x rows at e c.requires.found c.row-equality.ensures.row in
    let g = gathered-both x (made x rows) first second parts c.substitute_rows.new.kept.many c.substitute_rows.new.kept.kept.rows _ _ c.new-kept.result.many c.new-kept.result.kept.rows c.new-kept.ensures.many
    (ap (λ (t : Rows). t.rows) c.new-kept.ensures.kept) c.in_ok-substitute_rows.ensures.kept (rw c.len-end.ensures at c.in_ok-substitute_rows-2.ensures.kept)
    in
    (g.0, g.1, c.in_ok-substitute_rows-2.ensures.vars ∙ c.in_ok-substitute_rows.ensures.vars ∙ ap (λ (t : Rows). t.vars) c.new-kept.ensures.kept ∙ c.vars.ensures)
