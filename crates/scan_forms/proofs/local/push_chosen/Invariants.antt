use Rattle.std.proofs.Common.{◌≡◌, ◌+◌, length}
use Rattle.scan_forms.proofs.local.push_chosen.Given as goal

abbrev pub invariant-loop-at : goal.invariant-loop-at
invariant-loop-at l = length l.to ≡ length l.initial.to + l.at-index
