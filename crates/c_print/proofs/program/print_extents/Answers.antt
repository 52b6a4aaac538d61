use Rattle.std.proofs.Common.{◌-◌, refl, arith}
use Rattle.c_print.specs.Program.{extent_text}
use Rattle.c_print.proofs.Backwards.{begins, turn, ends}
use Rattle.c_print.proofs.Texts.{extents_of}
use Rattle.c_print.proofs.program.print_extents.Goals as goal

pub loop-at-init : goal.loop-at-init
loop-at-init c = begins extents_of c.args.extents.now c.args.out.now refl

pub loop-at-preserved : goal.loop-at-preserved
loop-at-preserved c =
    turn extents_of extent_text c.args.extents.now (c.loop-at.at - 1) c.loop-at.at c.index-extents-at.result c.args.out.now c.loop-at.out c.print_extent.new.out (λ _ _. refl) c.loop-at.invariant (omega arith) c.index-extents-at.is
    c.in_ok-print_extent.ensures

pub returns : goal.returns
returns c = ends extents_of c.args.extents.now _ _ _ c.loop-at.invariant c.loop-at-test.false
