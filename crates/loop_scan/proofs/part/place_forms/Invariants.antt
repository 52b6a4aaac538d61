use Rattle.std.proofs.Common.{◌≡◌, length}
use Rattle.loop_scan.proofs.part.place_forms.Given as goal

abbrev pub invariant-loop-form : goal.invariant-loop-form
invariant-loop-form l = length l.placed ≡ l.form-index
