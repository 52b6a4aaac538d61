use Rattle.depend_test.specs.Levels.{IsDecidedAt, first_access, with_access, with_conflict}
use Rattle.depend_test.proofs.Firsts.{passed-all, each-over, each-found, each-over-nothing, each-none, under-true, under-false}
use Rattle.depend_test.proofs.compact.access_depends.Goals as goal
use Rattle.depend_test.proofs.compact.access_depends.Goals.{else-conflict-via-then-conflict+in_ok-depends+else-branch, else-conflict-via-else-conflict}
use Rattle.depend_test.proofs.Leveling.{pair-open, pair-excluded}

pub loop-j-init : goal.loop-j-init
unfolding with_access
loop-j-init c = passed-all (IsDecidedAt c.args.kernel.now c.args.side.now c.args.level) first_access _

pub returns-then-branch : goal.returns-then-branch
returns-then-branch c =
    let l = rw c.as_slice-cells.ensures at c.loop-j-test.true in
    let e = rw c.as_slice-cells.ensures at c.index-cells-j.is in
    each-found (IsDecidedAt c.args.kernel.now c.args.side.now c.args.level) first_access (with_access c.args.side.now c.args.how c.args.i c.args.cell.now) (with_conflict c.args.how c.args.i c.args.cell.now)
    c.args.side.now.accesses c.loop-j.j c.index-cells-j.result c.args.cell.now l e c.loop-j.invariant
    (under-true _ _ _ _ _ c.if-conflict.ensures (pair-open c.args.kernel.now c.args.side.now c.args.level c.args.cell.now c.index-cells-j.result c.in_ok-depends.field-0 c.if-branch.true c.in_ok-depends.ensures))

pub loop-j-preserved : goal.loop-j-preserved
loop-j-preserved c =
    let l = rw c.as_slice-cells.ensures at c.loop-j-test.true in
    let e = rw c.as_slice-cells.ensures at c.index-cells-j.is in
    elim c.else-conflict.branch [
      | else-conflict-via-then-conflict+in_ok-depends+else-branch w ↦
          each-over (IsDecidedAt c.args.kernel.now c.args.side.now c.args.level) first_access (with_access c.args.side.now c.args.how c.args.i c.args.cell.now) (with_conflict c.args.how c.args.i c.args.cell.now) c.args.side.now.accesses c.loop-j.j c.index-cells-j.result l e c.loop-j.invariant
          (under-true _ _ _ _ _ w.if-conflict.ensures (pair-excluded c.args.kernel.now c.args.side.now c.args.level c.args.cell.now c.index-cells-j.result w.in_ok-depends.field-0 w.if-branch.false w.in_ok-depends.ensures))
      | else-conflict-via-else-conflict w ↦
          each-over-nothing (IsDecidedAt c.args.kernel.now c.args.side.now c.args.level) first_access (with_access c.args.side.now c.args.how c.args.i c.args.cell.now) (with_conflict c.args.how c.args.i c.args.cell.now) c.args.side.now.accesses c.loop-j.j c.index-cells-j.result (under-false _ _ w.if-conflict.ensures) l e c.loop-j.invariant
    ]

pub returns : goal.returns
returns c =
    let l = rw c.as_slice-cells.ensures at c.loop-j-test.false in
    each-none (IsDecidedAt c.args.kernel.now c.args.side.now c.args.level) first_access (with_access c.args.side.now c.args.how c.args.i c.args.cell.now) (with_conflict c.args.how c.args.i c.args.cell.now) c.args.side.now.accesses c.loop-j.j l c.loop-j.invariant
