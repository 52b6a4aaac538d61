use Rattle.std.proofs.Common.{rules, sym, ◌∙◌, map, drop, ◌+◌, [], ◌∷◌}
use Rattle.std.specs.Prelude.{filter}
use Rattle.std.proofs.lemmas.Result.{err_from_is_err_and}
use Rattle.int_rows.specs.Elimination.{canceled, is_below}
use Rattle.int_sets.specs.Views.{row_of}
use Rattle.int_sets.proofs.Progress.{progress-more, progress-skip, progress-stops, progress-end, filter-here, filter-skip, filter-end}
use Rattle.int_sets.proofs.gather.join_below.Goals as goal
use Rattle.int_sets.proofs.gather.join_below.Goals.{then-is_below+in_ok-keep_canceled, else-is_below}

pub loop-i-preserved : goal.loop-i-preserved
loop-i-preserved c =
    let rows = c.args.rows.now.rows in
    let i = c.loop-i.i in
    let r = row_of c.row-second.result in
    let t = is_below c.args.var in
    let g = canceled c.args.var (row_of c.args.first.now) in
    let all = map g (filter t rows) in
    let left = map g (filter t (drop i rows)) in
    let later = map g (filter t (drop (i + 1) rows)) in
    elim c.if-is_below.branch [
      | then-is_below+in_ok-keep_canceled w ↦
          rw w.kept-is (
            progress-more all left (g r ∷ []) later (filter-here rows i r c.row-second.ensures.row t g (sym c.is_below.ensures ∙ w.if-is_below.true))
                _ _ _ _ _ _ w.in_ok-keep_canceled.ensures.kept c.loop-i.invariant.0,
            w.in_ok-keep_canceled.ensures.vars ∙ c.loop-i.invariant.1,
          )
      | else-is_below w ↦
          rw w.kept-is
          (progress-skip all left later (filter-skip rows i r c.row-second.ensures.row t g (sym c.is_below.ensures ∙ w.if-is_below.false)) _ _ _ _ c.loop-i.invariant.0, c.loop-i.invariant.1)
    ]

pub returns : goal.returns
returns c =
    let rows = c.args.rows.now.rows in
    let t = is_below c.args.var in
    let g = canceled c.args.var (row_of c.args.first.now) in
    record { kept = progress-end (map g (filter t rows)) (map g (filter t (drop c.loop-i.i rows))) _ _ _ _ (filter-end rows c.loop-i.i (search rules) t g) c.loop-i.invariant.0; vars = c.loop-i.invariant.1 }

pub returns-in_err-keep_canceled-clause-kept : goal.returns-in_err-keep_canceled-clause-kept
returns-in_err-keep_canceled-clause-kept c =
    let rows = c.args.rows.now.rows in
    let r = row_of c.row-second.result in
    let t = is_below c.args.var in
    let g = canceled c.args.var (row_of c.args.first.now) in
    let p = err_from_is_err_and c.from_residual.result c.from_residual.ensures.1 in
    rw (p.1, p.2)
    (progress-stops (map g (filter t rows)) (map g (filter t (drop c.loop-i.i rows))) (g r ∷ []) (map g (filter t (drop (c.loop-i.i + 1) rows)))
    (filter-here rows c.loop-i.i r c.row-second.ensures.row t g (sym c.is_below.ensures ∙ c.if-is_below.true)) _ _ _ _ c.args.var c.in_err-keep_canceled.field-0.0 c.in_err-keep_canceled.ensures.kept c.loop-i.invariant.0)
