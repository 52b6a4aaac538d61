use Rattle.std.proofs.Common.{◌≡◌, ◌++◌, drop}
use Rattle.nest_systems.specs.Cells.{subscripts as subscripts_of}
use Rattle.nest_systems.proofs.access.subscripts.Given as goal

abbrev pub invariant-loop-access : goal.invariant-loop-access
invariant-loop-access l = l.forms ++ subscripts_of (drop l.access-index l.accesses) ≡ subscripts_of l.accesses
