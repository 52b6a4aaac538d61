use Rattle.std.proofs.Common.{sym}
use Rattle.depend_test.specs.Candidates.{IsDecided, carried_of, of_access, of_conflict}
use Rattle.depend_test.proofs.Firsts.{passed-all, each-over-none, each-found-some, each-over-nothing, each-none, under-true, under-false}
use Rattle.depend_test.proofs.first.first_of_access.Goals as goal
use Rattle.depend_test.proofs.first.first_of_access.Goals.{then-conflict+in_ok-found+else-is_some, else-conflict}

pub loop-j-init : goal.loop-j-init
unfolding of_access
loop-j-init c = passed-all (IsDecided c.args.kernel.now) carried_of _

pub returns-then-is_some : goal.returns-then-is_some
returns-then-is_some c =
    let l = rw c.as_slice-others.ensures at c.loop-j-test.true in
    let e = rw c.as_slice-others.ensures at c.index-others-j.is in
    each-found-some (IsDecided c.args.kernel.now) carried_of (of_access c.args.a.now c.args.b.now c.args.i c.args.cell.now) (of_conflict c.args.a.now c.args.b.now c.args.i c.args.cell.now)
    c.args.b.now.accesses c.loop-j.j c.index-others-j.result c.in_ok-found.found (sym c.if-is_some.ensures) l e c.loop-j.invariant (under-true _ _ _ _ _ c.if-conflict.ensures c.in_ok-found.ensures)

pub loop-j-preserved : goal.loop-j-preserved
loop-j-preserved c =
    let l = rw c.as_slice-others.ensures at c.loop-j-test.true in
    let e = rw c.as_slice-others.ensures at c.index-others-j.is in
    elim c.if-conflict.branch [
      | then-conflict+in_ok-found+else-is_some w ↦
          each-over-none (IsDecided c.args.kernel.now) carried_of (of_access c.args.a.now c.args.b.now c.args.i c.args.cell.now) (of_conflict c.args.a.now c.args.b.now c.args.i c.args.cell.now)
          c.args.b.now.accesses c.loop-j.j c.index-others-j.result w.in_ok-found.found (sym w.if-is_some.ensures) l e c.loop-j.invariant (under-true _ _ _ _ _ w.if-conflict.ensures w.in_ok-found.ensures)
      | else-conflict w ↦
          each-over-nothing (IsDecided c.args.kernel.now) carried_of (of_access c.args.a.now c.args.b.now c.args.i c.args.cell.now) (of_conflict c.args.a.now c.args.b.now c.args.i c.args.cell.now)
          c.args.b.now.accesses c.loop-j.j c.index-others-j.result (under-false _ _ w.if-conflict.ensures) l e c.loop-j.invariant
    ]

pub returns : goal.returns
returns c =
    let l = rw c.as_slice-others.ensures at c.loop-j-test.false in
    each-none (IsDecided c.args.kernel.now) carried_of (of_access c.args.a.now c.args.b.now c.args.i c.args.cell.now) (of_conflict c.args.a.now c.args.b.now c.args.i c.args.cell.now)
    c.args.b.now.accesses c.loop-j.j l c.loop-j.invariant
