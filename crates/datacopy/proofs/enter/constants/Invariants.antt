use Rattle.std.proofs.Common.{◌≡◌, take}
use Rattle.datacopy.specs.Copied.{constants}
use Rattle.datacopy.proofs.enter.constants.Given as goal

abbrev pub invariant-loop-number : goal.invariant-loop-number
invariant-loop-number l = l.constants ≡ constants (take l.number-index l.numbers)
