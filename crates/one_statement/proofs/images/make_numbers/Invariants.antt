use Rattle.nest_core.proofs.Rewrites.{Numbers}
use Rattle.one_statement.proofs.images.make_numbers.Given as goal

abbrev pub invariant-loop-var : goal.invariant-loop-var
invariant-loop-var l = Numbers l.coefs l.forms l.starts l.var l.numbers
