use Rattle.std.proofs.Common.{◌≡◌, length}
use Rattle.c_judge.specs.Signature.{is_among}
use Rattle.c_judge.proofs.signature.is_among.Given as goal

abbrev pub invariant-names : goal.invariant-names
invariant-names l = is_among l.name l.names ≡ is_among l.name l.initial.names

abbrev pub decreases-names : goal.decreases-names
decreases-names l = length l.names
