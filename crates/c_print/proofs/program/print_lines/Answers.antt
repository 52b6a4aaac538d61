use Rattle.std.proofs.Common.{◌-◌, refl, arith}
use Rattle.c_print.proofs.Backwards.{begins, ends}
use Rattle.c_print.proofs.ProgramParts.{line_turn}
use Rattle.c_print.proofs.Texts.{slice_lines}
use Rattle.c_print.proofs.program.print_lines.Goals as goal

pub loop-at-init : goal.loop-at-init
loop-at-init c = begins slice_lines c.args.lines.now c.args.out.now refl

pub loop-at-preserved : goal.loop-at-preserved
loop-at-preserved c = line_turn c.args.lines.now (c.loop-at.at - 1) c.loop-at.at _ c.args.out.now c.loop-at.out c.loop-at.invariant (omega arith) c.in_ok-put.ensures c.in_ok-put-2.ensures

pub returns : goal.returns
returns c = ends slice_lines c.args.lines.now _ _ _ c.loop-at.invariant c.loop-at-test.false
