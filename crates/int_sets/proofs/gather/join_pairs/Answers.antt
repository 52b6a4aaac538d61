use Rattle.std.proofs.Common.{rules, sym, ◌∙◌, map, drop, ◌+◌, List}
use Rattle.std.specs.Prelude.{filter, flat_map}
use Rattle.std.proofs.lemmas.Result.{err_from_is_err_and}
use Rattle.int_rows.specs.Elimination.{Made, canceled, is_above, is_below}
use Rattle.int_rows.specs.declared.row.Row.{Row}
use Rattle.int_sets.specs.Views.{row_of}
use Rattle.int_sets.proofs.Progress.{progress-more, progress-skip, progress-stops, progress-end, pairs-here, pairs-skip, pairs-end}
use Rattle.int_sets.proofs.gather.join_pairs.Goals as goal
use Rattle.int_sets.proofs.gather.join_pairs.Goals.{then-is_above+in_ok-join_below, else-is_above}

pub loop-i-preserved : goal.loop-i-preserved
loop-i-preserved c =
    let rows = c.args.rows.now.rows in
    let i = c.loop-i.i in
    let r = row_of c.row-first.result in
    let t = is_above c.args.var in
    let g : Row → List Made = λ r. map (canceled c.args.var r) (filter (is_below c.args.var) rows) in
    let all = flat_map g (filter t rows) in
    let left = flat_map g (filter t (drop i rows)) in
    let later = flat_map g (filter t (drop (i + 1) rows)) in
    elim c.if-is_above.branch [
      | then-is_above+in_ok-join_below w ↦
          rw w.kept-is (
            progress-more all left (g r) later (pairs-here rows i r c.row-first.ensures.row t g (sym c.is_above.ensures ∙ w.if-is_above.true))
                _ _ _ _ _ _ w.in_ok-join_below.ensures.kept c.loop-i.invariant.0,
            w.in_ok-join_below.ensures.vars ∙ c.loop-i.invariant.1,
          )
      | else-is_above w ↦
          rw w.kept-is
          (progress-skip all left later (pairs-skip rows i r c.row-first.ensures.row t g (sym c.is_above.ensures ∙ w.if-is_above.false)) _ _ _ _ c.loop-i.invariant.0, c.loop-i.invariant.1)
    ]

pub returns : goal.returns
returns c =
    let rows = c.args.rows.now.rows in
    let t = is_above c.args.var in
    let g : Row → List Made = λ r. map (canceled c.args.var r) (filter (is_below c.args.var) rows) in
    record { kept = progress-end (flat_map g (filter t rows)) (flat_map g (filter t (drop c.loop-i.i rows))) _ _ _ _ (pairs-end rows c.loop-i.i (search rules) t g) c.loop-i.invariant.0; vars = c.loop-i.invariant.1 }

pub returns-in_err-join_below-clause-kept : goal.returns-in_err-join_below-clause-kept
returns-in_err-join_below-clause-kept c =
    let rows = c.args.rows.now.rows in
    let r = row_of c.row-first.result in
    let t = is_above c.args.var in
    let g : Row → List Made = λ r. map (canceled c.args.var r) (filter (is_below c.args.var) rows) in
    let p = err_from_is_err_and c.from_residual.result c.from_residual.ensures.1 in
    rw (p.1, p.2)
    (progress-stops (flat_map g (filter t rows)) (flat_map g (filter t (drop c.loop-i.i rows))) (g r) (flat_map g (filter t (drop (c.loop-i.i + 1) rows)))
    (pairs-here rows c.loop-i.i r c.row-first.ensures.row t g (sym c.is_above.ensures ∙ c.if-is_above.true)) _ _ _ _ c.args.var c.in_err-join_below.field-0.0 c.in_err-join_below.ensures.kept c.loop-i.invariant.0)
