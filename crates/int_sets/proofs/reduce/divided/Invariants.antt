use Rattle.std.proofs.Common.{◌≡◌, map, take}
use Rattle.std.specs.Prelude.{int_div}
use Rattle.int_sets.proofs.reduce.divided.Given as goal

abbrev pub invariant-loop-z : goal.invariant-loop-z
invariant-loop-z l = l.coefs ≡ map (λ z. int_div z l.by) (take l.z-index l.z-items)
