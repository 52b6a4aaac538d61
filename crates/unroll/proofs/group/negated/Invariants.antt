use Rattle.std.proofs.Common.{◌≡◌, map, take, pos}
use Rattle.unroll.specs.Groups.{difference}
use Rattle.unroll.proofs.group.negated.Given as goal

abbrev pub invariant-loop-number : goal.invariant-loop-number
invariant-loop-number l = l.new ≡ map (difference (pos 0)) (take l.number-index l.numbers)
