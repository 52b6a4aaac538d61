use Rattle.std.proofs.Common.{◌≡◌, map, take}
use Rattle.std.specs.Prelude.{neg_ℤ}
use Rattle.int_sets.proofs.decide.negation.Given as goal

abbrev pub invariant-loop-c : goal.invariant-loop-c
invariant-loop-c l = l.coefs ≡ map neg_ℤ (take l.c-index l.c-items)
