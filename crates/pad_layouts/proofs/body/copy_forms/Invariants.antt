use Rattle.std.proofs.Common.{◌≡◌, take}
use Rattle.pad_layouts.proofs.body.copy_forms.Given as goal

abbrev pub invariant-loop-form : goal.invariant-loop-form
invariant-loop-form l = l.copies ≡ take l.form-index l.forms
