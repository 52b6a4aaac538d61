use Rattle.std.proofs.Common.{◌≡◌, map, take}
use Rattle.pad_layouts.specs.Forms as spec
use Rattle.pad_layouts.proofs.forms.named.Given as goal

abbrev pub invariant-loop-param : goal.invariant-loop-param
invariant-loop-param l = l.numbers ≡ map (spec.one_at l.name) (take l.param-index l.params)
