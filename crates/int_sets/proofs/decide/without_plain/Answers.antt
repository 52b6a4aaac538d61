use Rattle.std.proofs.Common.{not, ap, sym}
use Rattle.int_rows.specs.Exclusion.{is_plain}
use Rattle.int_rows.specs.declared.row.Row.{Row}
use Rattle.int_sets.specs.Views.{row_of}
use Rattle.int_sets.proofs.Walking.{filter-more, filter-past}
use Rattle.int_sets.proofs.decide.without_plain.Goals as goal
use Rattle.int_sets.proofs.decide.without_plain.Goals.{then-not-is_plain+in_ok-push, else-not-is_plain}

pub loop-i-preserved : goal.loop-i-preserved
loop-i-preserved c =
    let rows = c.args.rows.now.rows in
    let i = c.loop-i.i in
    let r = row_of c.row-row.result in
    let test = (λ (s : Row). not (is_plain s)) in
    elim c.if-not-is_plain.branch [
      | then-not-is_plain+in_ok-push w ↦
          rw (w.kept-is, w.in_ok-push.ensures.ok)
          (filter-more rows i r c.row-row.ensures.row (λ (s : Row). not (is_plain s)) c.loop-i.kept.rows _ (ap not (sym w.if-not-is_plain.ensures)) c.loop-i.invariant.0, c.loop-i.invariant.1)
      | else-not-is_plain w ↦
          rw w.kept-is (filter-past rows i r c.row-row.ensures.row (λ (s : Row). not (is_plain s)) c.loop-i.kept.rows _ (ap not (sym w.if-not-is_plain.ensures)) c.loop-i.invariant.0, c.loop-i.invariant.1)
    ]
