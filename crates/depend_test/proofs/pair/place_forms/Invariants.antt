use Rattle.std.proofs.Common.{◌≡◌, map, take}
use Rattle.nest_systems.specs.Placing.{placed}
use Rattle.depend_test.proofs.pair.place_forms.Given as goal

abbrev pub invariant-loop-form : goal.invariant-loop-form
invariant-loop-form l = l.all ≡ map (placed l.seats) (take l.form-index l.forms)
