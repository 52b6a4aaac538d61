use Rattle.std.proofs.Common.{◌≡◌, suc, ◌-◌, length}
use Rattle.scan_forms.specs.Numbers.{padded}
use Rattle.scan_forms.proofs.affine.pad.Given as goal

abbrev pub invariant-loop-numbers : goal.invariant-loop-numbers
invariant-loop-numbers l = padded l.at l.numbers ≡ padded l.at l.initial.numbers

abbrev pub decreases-loop-numbers : goal.decreases-loop-numbers
decreases-loop-numbers l = suc l.at - length l.numbers
