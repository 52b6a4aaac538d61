use Rattle.std.proofs.Common.{refl}
use Rattle.depend_test.proofs.Moving.{making-none, making-more}
use Rattle.depend_test.proofs.side.make_moved.Goals as goal

pub loop-i-init : goal.loop-i-init
loop-i-init c = rw c.new-all.ensures (making-none _ _ c.requires.shaped c.requires.fits)

pub loop-i-preserved : goal.loop-i-preserved
loop-i-preserved c =
    let l = rw c.as_slice-nests.ensures at c.loop-i-test.true in
    let e = rw c.as_slice-nests.ensures at c.index-nests-i.is in
    let d = rw c.as_slice-pieces.ensures at c.index-pieces-i.is in
    let by = rw (c.as_slice-own.ensures, c.as_slice-made.ensures, c.as_slice-applies.ensures) at c.in_ok-make_one.ensures.moved in
    making-more c.args.kernel.now c.args.moves.now c.loop-i.i c.index-nests-i.result c.index-pieces-i.result c.loop-i.all l e d c.loop-i.invariant
    _ c.in_ok-make_one.field-0 c.push.new.self refl c.in_ok-make_one.ensures.shape by c.in_ok-push.ensures.ok
