use Rattle.std.proofs.Common.{◌≡◌, map, take}
use Rattle.scan_forms.specs.Numbers.{opposite}
use Rattle.scan_forms.proofs.affine.opposites.Given as goal

abbrev pub invariant-loop-number : goal.invariant-loop-number
invariant-loop-number l = l.list ≡ map opposite (take l.number-index l.numbers)
