use Rattle.std.proofs.Common.{◌≡◌, vec_len}
use Rattle.loop_scan.proofs.part.make_parts.Given as goal

abbrev pub invariant-loop-nest : goal.invariant-loop-nest
invariant-loop-nest l = vec_len l.parts ≡ l.nest-index
