use Rattle.depend_test.specs.Levels.{IsDecidedAt, with_access, access_pairs, level_dependence}
use Rattle.depend_test.proofs.Firsts.{passed-all, each-over, each-found, each-none}
use Rattle.depend_test.proofs.compact.first_level_dependence.Goals as goal
use Rattle.depend_test.proofs.Leveling.{level-open, level-none}

pub loop-i-init : goal.loop-i-init
unfolding access_pairs
loop-i-init c = passed-all (IsDecidedAt c.args.kernel.now c.args.side.now c.args.level) (level_dependence c.args.statement c.args.level) _

pub returns-then-branch : goal.returns-then-branch
returns-then-branch c =
    let l = rw c.as_slice-cells.ensures at c.loop-i-test.true in
    let e = rw c.as_slice-cells.ensures at c.index-cells-i.is in
    each-found (IsDecidedAt c.args.kernel.now c.args.side.now c.args.level) (level_dependence c.args.statement c.args.level) (access_pairs c.args.side.now c.args.how) (with_access c.args.side.now c.args.how) c.args.side.now.accesses c.loop-i.i c.index-cells-i.result _ l e c.loop-i.invariant
    (level-open c.args.kernel.now c.args.side.now c.args.statement c.args.level c.index-cells-i.result _ c.in_ok-access_depends.field-0 c.if-branch.true c.in_ok-access_depends.ensures)

pub loop-i-preserved : goal.loop-i-preserved
loop-i-preserved c =
    let l = rw c.as_slice-cells.ensures at c.loop-i-test.true in
    let e = rw c.as_slice-cells.ensures at c.index-cells-i.is in
    each-over (IsDecidedAt c.args.kernel.now c.args.side.now c.args.level) (level_dependence c.args.statement c.args.level) (access_pairs c.args.side.now c.args.how) (with_access c.args.side.now c.args.how) c.args.side.now.accesses c.loop-i.i c.index-cells-i.result l e c.loop-i.invariant
    (level-none c.args.kernel.now c.args.side.now c.args.statement c.args.level c.index-cells-i.result _ c.in_ok-access_depends.field-0 c.if-branch.false c.in_ok-access_depends.ensures)

pub returns : goal.returns
returns c =
    let l = rw c.as_slice-cells.ensures at c.loop-i-test.false in
    each-none (IsDecidedAt c.args.kernel.now c.args.side.now c.args.level) (level_dependence c.args.statement c.args.level) (access_pairs c.args.side.now c.args.how) (with_access c.args.side.now c.args.how) c.args.side.now.accesses c.loop-i.i l c.loop-i.invariant
