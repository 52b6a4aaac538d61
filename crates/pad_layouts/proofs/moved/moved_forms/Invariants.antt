use Rattle.std.proofs.Common.{◌≡◌, map, take}
use Rattle.pad_layouts.specs.Moved as spec
use Rattle.pad_layouts.proofs.moved.moved_forms.Given as goal

abbrev pub invariant-loop-form : goal.invariant-loop-form
invariant-loop-form l = l.new ≡ map (spec.moved_form l.picks) (take l.form-index l.forms)
