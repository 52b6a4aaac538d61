use Rattle.std.proofs.Common.{◌-◌, length, ap, arith, refl}
use Rattle.raw_store.proofs.Blocks.{length-fresh}
use Rattle.raw_store.proofs.store.add_blocks.Goals as goal

pub loop-block-init : goal.loop-block-init
loop-block-init c = record {
  moved = refl;
  room = omega (arith, ap length c.in_ok-fresh.ensures, length-fresh c.len-from.result (c.args.to - c.len-from.result), c.in-Ok.ensures.ok, c.try_reserve.ensures.len, c.len-from.ensures);
}
