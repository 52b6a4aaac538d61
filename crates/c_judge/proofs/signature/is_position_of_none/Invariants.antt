use Rattle.std.proofs.Common.{◌≡◌, length}
use Rattle.c_judge.specs.Signature.{is_position_of_none}
use Rattle.c_judge.proofs.signature.is_position_of_none.Given as goal

abbrev pub invariant-matrices : goal.invariant-matrices
invariant-matrices l = is_position_of_none l.matrices l.name ≡ is_position_of_none l.initial.matrices l.name

abbrev pub decreases-matrices : goal.decreases-matrices
decreases-matrices l = length l.matrices
