use Rattle.std.proofs.Common.{sym}
use Rattle.depend_test.specs.declared.side.Side.{Side}
use Rattle.depend_test.specs.Candidates.{IsDecided, carried_of, of_pieces, of_piece, orders_between}
use Rattle.depend_test.proofs.Firsts.{passed-all, listed-over-none, listed-found-some, listed-none}
use Rattle.depend_test.proofs.first.first_of_piece.Goals as goal

pub loop-other-init : goal.loop-other-init
unfolding of_piece
loop-other-init c = passed-all (IsDecided c.args.kernel.now) carried_of _

pub returns-then-is_some : goal.returns-then-is_some
returns-then-is_some c =
    let l = rw c.as_slice-other-items.ensures at c.loop-other-test.true in
    let e = rw c.as_slice-other-items.ensures at c.other-item.is in
    listed-found-some (IsDecided c.args.kernel.now) carried_of (of_piece c.args.a.now c.args.b.now c.args.i c.args.j c.args.one.now)
    (λ (other : Side). of_pieces (orders_between c.args.a.now c.args.b.now c.args.one.now other) c.args.i c.args.j c.args.one.now other)
    c.args.b.now.sides c.loop-other.other-index c.other-item.result c.in_ok-found.found (sym c.if-is_some.ensures) l e c.loop-other.invariant (rw c.in_ok-orders.ensures at c.in_ok-found.ensures)

pub loop-other-preserved : goal.loop-other-preserved
loop-other-preserved c =
    let l = rw c.as_slice-other-items.ensures at c.loop-other-test.true in
    let e = rw c.as_slice-other-items.ensures at c.other-item.is in
    listed-over-none (IsDecided c.args.kernel.now) carried_of (of_piece c.args.a.now c.args.b.now c.args.i c.args.j c.args.one.now)
    (λ (other : Side). of_pieces (orders_between c.args.a.now c.args.b.now c.args.one.now other) c.args.i c.args.j c.args.one.now other)
    c.args.b.now.sides c.loop-other.other-index c.other-item.result c.in_ok-found.found (sym c.if-is_some.ensures) l e c.loop-other.invariant (rw c.in_ok-orders.ensures at c.in_ok-found.ensures)

pub returns : goal.returns
returns c =
    let l = rw c.as_slice-other-items.ensures at c.loop-other-test.false in
    listed-none (IsDecided c.args.kernel.now) carried_of (of_piece c.args.a.now c.args.b.now c.args.i c.args.j c.args.one.now)
    (λ (other : Side). of_pieces (orders_between c.args.a.now c.args.b.now c.args.one.now other) c.args.i c.args.j c.args.one.now other)
    c.args.b.now.sides c.loop-other.other-index l c.loop-other.invariant
