use Rattle.std.proofs.Common.{length}
use Rattle.depend_test.specs.Sides.{IsSide, none}
use Rattle.depend_test.proofs.Moving.{each-push, sides-step}
use Rattle.depend_test.proofs.side.make_own_sides.Goals as goal

pub loop-i-init : goal.loop-i-init
loop-i-init c = rw c.new-sides.ensures (record { shapes = tt; sides = none })

pub loop-i-preserved : goal.loop-i-preserved
loop-i-preserved c =
    let o = rw (c.in_ok-old.ensures, c.as_slice.ensures, ← c.index-pieces-i.is) at c.in_ok-make_side.ensures.side in
    record {
      shapes = rw c.in_ok-push.ensures.ok (each-push (IsSide (length c.args.head.now.params)) c.loop-i.sides c.in_ok-make_side.field-0 c.loop-i.invariant.shapes c.in_ok-make_side.ensures.shape);
      sides = sides-step c.args.head.now c.args.made.now c.args.nests.now c.args.pieces.now c.loop-i.i c.index-nests-i.result c.index-pieces-i.result c.in_ok-make_side.field-0 c.loop-i.sides c.push.new.self
          c.loop-i-test.true c.requires.same c.index-nests-i.is c.index-pieces-i.is c.in_ok-push.ensures.ok o c.loop-i.invariant.sides;
    }
