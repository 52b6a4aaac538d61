use Rattle.std.proofs.Common.{sym}
use Rattle.depend_test.specs.Candidates.{IsDecided, carried_of, of_piece, of_numbers}
use Rattle.depend_test.proofs.Firsts.{passed-all, listed-over-none, listed-found-some, listed-none}
use Rattle.depend_test.proofs.first.first_of_accesses.Goals as goal

pub loop-one-init : goal.loop-one-init
unfolding of_numbers
loop-one-init c = passed-all (IsDecided c.args.kernel.now) carried_of _

pub returns-then-is_some : goal.returns-then-is_some
returns-then-is_some c =
    let l = rw c.as_slice-one-items.ensures at c.loop-one-test.true in
    let e = rw c.as_slice-one-items.ensures at c.one-item.is in
    listed-found-some (IsDecided c.args.kernel.now) carried_of (of_numbers c.args.a.now c.args.b.now c.args.i c.args.j) (of_piece c.args.a.now c.args.b.now c.args.i c.args.j)
    c.args.a.now.sides c.loop-one.one-index c.one-item.result c.in_ok-found.found (sym c.if-is_some.ensures) l e c.loop-one.invariant c.in_ok-found.ensures

pub loop-one-preserved : goal.loop-one-preserved
loop-one-preserved c =
    let l = rw c.as_slice-one-items.ensures at c.loop-one-test.true in
    let e = rw c.as_slice-one-items.ensures at c.one-item.is in
    listed-over-none (IsDecided c.args.kernel.now) carried_of (of_numbers c.args.a.now c.args.b.now c.args.i c.args.j) (of_piece c.args.a.now c.args.b.now c.args.i c.args.j)
    c.args.a.now.sides c.loop-one.one-index c.one-item.result c.in_ok-found.found (sym c.if-is_some.ensures) l e c.loop-one.invariant c.in_ok-found.ensures

pub returns : goal.returns
returns c =
    let l = rw c.as_slice-one-items.ensures at c.loop-one-test.false in
    listed-none (IsDecided c.args.kernel.now) carried_of (of_numbers c.args.a.now c.args.b.now c.args.i c.args.j) (of_piece c.args.a.now c.args.b.now c.args.i c.args.j)
    c.args.a.now.sides c.loop-one.one-index l c.loop-one.invariant
