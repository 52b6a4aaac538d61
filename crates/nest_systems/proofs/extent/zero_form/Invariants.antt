use Rattle.std.proofs.Common.{◌≡◌, replicate, pos}
use Rattle.nest_systems.proofs.extent.zero_form.Given as goal

abbrev pub invariant-loop : goal.invariant-loop
invariant-loop l = l.coefs ≡ replicate l.counter (pos 0)
