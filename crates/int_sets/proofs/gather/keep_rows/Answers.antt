use Rattle.std.proofs.Common.{rules, refl, sym, ◌∙◌, map, drop, ◌+◌}
use Rattle.std.specs.Prelude.{filter}
use Rattle.int_rows.specs.Elimination.{stays, holds_not}
use Rattle.int_sets.specs.Views.{row_of}
use Rattle.int_sets.proofs.Progress.{progress-one, progress-skip, progress-end, stays-made, filter-here, filter-skip, filter-end}
use Rattle.int_sets.proofs.gather.keep_rows.Goals as goal
use Rattle.int_sets.proofs.gather.keep_rows.Goals.{then-holds_not+in_ok-keep, else-holds_not}

pub loop-i-preserved : goal.loop-i-preserved
loop-i-preserved c =
    let rows = c.args.rows.now.rows in
    let i = c.loop-i.i in
    let r = row_of c.row-row.result in
    let t = holds_not c.args.var in
    let all = map stays (filter t rows) in
    let left = map stays (filter t (drop i rows)) in
    let later = map stays (filter t (drop (i + 1) rows)) in
    elim c.if-holds_not.branch [
      | then-holds_not+in_ok-keep w ↦
          rw w.kept-is (
            progress-one all left (stays r) later (filter-here rows i r c.row-row.ensures.row t stays (sym c.holds_not.ensures ∙ w.if-holds_not.true))
                _ _ _ _ _ _ r (stays-made r r refl) w.in_ok-keep.ensures.kept c.loop-i.invariant.0,
            w.in_ok-keep.ensures.vars ∙ c.loop-i.invariant.1,
          )
      | else-holds_not w ↦
          rw w.kept-is
          (progress-skip all left later (filter-skip rows i r c.row-row.ensures.row t stays (sym c.holds_not.ensures ∙ w.if-holds_not.false)) _ _ _ _ c.loop-i.invariant.0, c.loop-i.invariant.1)
    ]

pub returns : goal.returns
returns c =
    let rows = c.args.rows.now.rows in
    let t = holds_not c.args.var in
    record { kept = progress-end (map stays (filter t rows)) (map stays (filter t (drop c.loop-i.i rows))) _ _ _ _ (filter-end rows c.loop-i.i (search rules) t stays) c.loop-i.invariant.0; vars = c.loop-i.invariant.1 }
