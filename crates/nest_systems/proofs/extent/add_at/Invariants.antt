use Rattle.std.proofs.Common.{◌≡◌, length, take}
use Rattle.nest_systems.specs.Extents.{raised}
use Rattle.nest_systems.proofs.extent.add_at.Given as goal

abbrev pub invariant-loop-var : goal.invariant-loop-var
invariant-loop-var l = record { width : length l.coefs ≡ length l.params; value : l.coefs ≡ raised (take l.var l.params) l.name l.times l.initial.coefs }
