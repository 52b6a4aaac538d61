use Rattle.int_sets.specs.Views.{form_of}
use Rattle.int_sets.proofs.Combining.{Combined}
use Rattle.int_sets.proofs.combine.combine.Given as goal

abbrev pub invariant-loop-i : goal.invariant-loop-i
invariant-loop-i l = Combined l.m (form_of l.first) l.n (form_of l.second) l.i l.coefs
