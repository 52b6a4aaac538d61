use Rattle.std.proofs.Common.{drop}
use Rattle.c_trace.specs.Lines.{brackets}
use Rattle.c_trace.proofs.Writes.{Remains}
use Rattle.c_trace.proofs.cell.print_subscripts.Given as goal

abbrev pub invariant-loop-index : goal.invariant-loop-index
invariant-loop-index g l = Remains (g.S.Sink.state l.initial.sink) (brackets l.at) (g.S.Sink.state l.sink) (brackets (drop l.index-index l.at))
