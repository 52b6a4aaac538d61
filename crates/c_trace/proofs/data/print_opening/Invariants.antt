use Rattle.c_trace.specs.LeftSide.{opening}
use Rattle.c_trace.proofs.Writes.{Remains}
use Rattle.c_trace.proofs.data.print_opening.Given as goal

abbrev pub invariant-loop-left : goal.invariant-loop-left
invariant-loop-left g l = Remains (g.S.Sink.state l.initial.sink) (opening l.brackets) (g.S.Sink.state l.sink) (opening l.left)

abbrev pub decreases-loop-left : goal.decreases-loop-left
decreases-loop-left g l = l.left
