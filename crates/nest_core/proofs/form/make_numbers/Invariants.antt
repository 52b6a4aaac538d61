use Rattle.nest_core.proofs.Rewrites.{Numbers}
use Rattle.nest_core.proofs.form.make_numbers.Given as goal

abbrev pub invariant-loop-var : goal.invariant-loop-var
invariant-loop-var l = Numbers l.levels l.old l.starts l.var l.numbers
