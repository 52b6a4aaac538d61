use Rattle.std.proofs.Common.{◌≡◌, length}
use Rattle.source_check.proofs.inside.pass_around.Given as goal

abbrev pub invariant-loop-test : goal.invariant-loop-test
invariant-loop-test l = length l.known.named ≡ length l.sight.reads.now
