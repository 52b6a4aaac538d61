use Rattle.std.proofs.Common.{◌≡◌, map, take}
use Rattle.pad_layouts.specs.Moved as spec
use Rattle.pad_layouts.proofs.moved.picked_each.Given as goal

abbrev pub invariant-loop-pick : goal.invariant-loop-pick
invariant-loop-pick l = l.new ≡ map (spec.picked l.numbers) (take l.pick-index l.picks)
