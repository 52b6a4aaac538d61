use Rattle.std.proofs.Common.{◌≡◌, drop}
use Rattle.one_statement.specs.Names.{is_made}
use Rattle.one_statement.proofs.names.is_made.Given as goal

abbrev pub invariant-loop-array : goal.invariant-loop-array
invariant-loop-array l = is_made (drop l.array-index l.made) l.name ≡ is_made l.made l.name
