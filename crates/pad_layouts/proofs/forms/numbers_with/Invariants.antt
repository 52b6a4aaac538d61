use Rattle.std.proofs.Common.{◌≡◌, map}
use Rattle.std.specs.List.{range_with_len}
use Rattle.pad_layouts.specs.Forms as spec
use Rattle.pad_layouts.proofs.forms.numbers_with.Given as goal

abbrev pub invariant-loop-var : goal.invariant-loop-var
invariant-loop-var l = l.numbers ≡ map (spec.number_with l.base l.x l.a l.y l.b) (range_with_len 0 l.var)
