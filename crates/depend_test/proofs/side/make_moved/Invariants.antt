use Rattle.depend_test.proofs.Moving.{Making}
use Rattle.depend_test.proofs.side.make_moved.Given as goal

abbrev pub invariant-loop-i : goal.invariant-loop-i
invariant-loop-i l = Making l.kernel l.moves l.i l.all
