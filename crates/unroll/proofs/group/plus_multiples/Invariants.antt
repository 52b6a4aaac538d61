use Rattle.std.proofs.Common.{◌≡◌, ◌++◌, drop}
use Rattle.unroll.specs.Groups.{plus_multiples}
use Rattle.unroll.proofs.group.plus_multiples.Given as goal

abbrev pub invariant-loop-i : goal.invariant-loop-i
invariant-loop-i l = l.sums ++ plus_multiples (drop l.i l.starts) l.times (drop l.i l.numbers) ≡ plus_multiples l.starts l.times l.numbers
