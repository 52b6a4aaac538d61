use Rattle.std.proofs.Common.{◌≡◌, drop}
use Rattle.nest_systems.specs.Choosing.{find_alike}
use Rattle.nest_systems.proofs.choose.find_alike.Given as goal

abbrev pub invariant-loop-other : goal.invariant-loop-other
invariant-loop-other l = find_alike l.first l.terms l.same (drop l.other-index l.among) l.term ≡ find_alike l.first l.terms l.same l.among l.term
