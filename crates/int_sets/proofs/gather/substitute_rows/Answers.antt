use Rattle.std.proofs.Common.{rules, ◌<◌, [], ◌∷◌, map, drop, take, ◌+◌, ◌∙◌}
use Rattle.std.proofs.lemmas.Result.{err_from_is_err_and}
use Rattle.int_rows.specs.Elimination.{substituted}
use Rattle.int_sets.specs.Views.{row_of}
use Rattle.int_sets.proofs.Progress.{progress-more, progress-stops, progress-end, inside-take, map-here, map-end}
use Rattle.int_sets.proofs.gather.substitute_rows.Goals as goal

pub loop-i-preserved : goal.loop-i-preserved
loop-i-preserved c =
    let rows = take c.args.end c.args.rows.now.rows in
    let i = c.loop-i.i in
    let r = row_of c.row.result in
    let g = substituted c.args.var (row_of c.args.equality.now) in
    let l : c.loop-i.i < c.args.end = search rules in (
      progress-more (map g (drop c.args.start rows)) (map g (drop i rows)) (g r ∷ []) (map g (drop (i + 1) rows)) (map-here rows i r (inside-take c.args.rows.now.rows i c.args.end r l c.row.ensures.row) g)
          _ _ _ _ _ _ c.in_ok-keep_substituted.ensures.kept c.loop-i.invariant.0,
      c.in_ok-keep_substituted.ensures.vars ∙ c.loop-i.invariant.1,
    )

pub returns : goal.returns
returns c =
    let rows = take c.args.end c.args.rows.now.rows in
    let g = substituted c.args.var (row_of c.args.equality.now) in
    record { kept = progress-end (map g (drop c.args.start rows)) (map g (drop c.loop-i.i rows)) _ _ _ _ (map-end rows c.loop-i.i (search rules) g) c.loop-i.invariant.0; vars = c.loop-i.invariant.1 }

pub returns-in_err-keep_substituted-clause-kept : goal.returns-in_err-keep_substituted-clause-kept
returns-in_err-keep_substituted-clause-kept c =
    let rows = take c.args.end c.args.rows.now.rows in
    let i = c.loop-i.i in
    let r = row_of c.row.result in
    let g = substituted c.args.var (row_of c.args.equality.now) in
    let l : c.loop-i.i < c.args.end = search rules in
    let p = err_from_is_err_and c.from_residual.result c.from_residual.ensures.1 in
    rw (p.1, p.2)
    (progress-stops (map g (drop c.args.start rows)) (map g (drop i rows)) (g r ∷ []) (map g (drop (i + 1) rows)) (map-here rows i r (inside-take c.args.rows.now.rows i c.args.end r l c.row.ensures.row) g)
    _ _ _ _ c.args.var c.in_err-keep_substituted.field-0.0 c.in_err-keep_substituted.ensures.kept c.loop-i.invariant.0)
