use Rattle.std.proofs.Common.{map, ap, ◌∙◌}
use Rattle.std.specs.Prelude.{filter, flat_map}
use Rattle.std.proofs.lemmas.Result.{err_from_is_err_and}
use Rattle.int_rows.specs.Elimination.{stays, canceled, holds_not, is_above, is_below, made}
use Rattle.int_rows.specs.Systems.{Rows}
use Rattle.int_rows.specs.declared.row.Row.{Row}
use Rattle.int_sets.proofs.Gathered.{made-pairs, gathered-both, first-stops, second-stops}
use Rattle.int_sets.proofs.gather.gather_pairs.Goals as goal

pub returns-in_err-keep_rows : goal.returns-in_err-keep_rows
returns-in_err-keep_rows c =
    let x = c.args.var in
    let rows = c.args.rows.now.rows in
    let first = map stays (filter (holds_not x) rows) in
    let second = flat_map (λ (r : Row). map (canceled x r) (filter (is_below x) rows)) (filter (is_above x) rows) in
    let p = err_from_is_err_and c.from_residual.result c.from_residual.ensures.1 in
    rw (p.1, p.2) (first-stops x (made x rows) first second (made-pairs x rows c.requires.none) c.in_err-keep_rows.field-0.0 c.in_err-keep_rows.ensures.kept)

pub returns-in_err-join_pairs : goal.returns-in_err-join_pairs
returns-in_err-join_pairs c =
    let x = c.args.var in
    let rows = c.args.rows.now.rows in
    let first = map stays (filter (holds_not x) rows) in
    let second = flat_map (λ (r : Row). map (canceled x r) (filter (is_below x) rows)) (filter (is_above x) rows) in
    let p = err_from_is_err_and c.from_residual-in_err-join_pairs.result c.from_residual-in_err-join_pairs.ensures.1 in
    let k = c.in_ok-keep_rows.ensures.kept in
    rw (p.1, p.2) (second-stops x (made x rows) first second (made-pairs x rows c.requires.none) k.0 c.in_err-join_pairs.field-0.0 c.in_err-join_pairs.ensures.kept)

pub returns : goal.returns
returns c =
    let x = c.args.var in
    let rows = c.args.rows.now.rows in
    let first = map stays (filter (holds_not x) rows) in
    let second = flat_map (λ (r : Row). map (canceled x r) (filter (is_below x) rows)) (filter (is_above x) rows) in
    let g = gathered-both x (made x rows) first second (made-pairs x rows c.requires.none) c.keep_rows.new.kept.many c.keep_rows.new.kept.kept.rows _ _ c.new-kept.result.many c.new-kept.result.kept.rows c.new-kept.ensures.many
    (ap (λ (t : Rows). t.rows) c.new-kept.ensures.kept) c.in_ok-keep_rows.ensures.kept c.in_ok-join_pairs.ensures.kept
    in
    (g.0, g.1, c.in_ok-join_pairs.ensures.vars ∙ c.in_ok-keep_rows.ensures.vars ∙ ap (λ (t : Rows). t.vars) c.new-kept.ensures.kept ∙ c.vars.ensures)
