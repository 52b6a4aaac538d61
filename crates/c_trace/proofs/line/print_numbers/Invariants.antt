use Rattle.std.proofs.Common.{drop}
use Rattle.c_trace.specs.Lines.{numbers_behind}
use Rattle.c_trace.proofs.Writes.{Remains}
use Rattle.c_trace.proofs.line.print_numbers.Given as goal

abbrev pub invariant-loop-number : goal.invariant-loop-number
invariant-loop-number g l = Remains (g.S.Sink.state l.initial.sink) (numbers_behind l.numbers) (g.S.Sink.state l.sink) (numbers_behind (drop l.number-index l.numbers))
