use Rattle.std.proofs.Common.{◌≡◌, drop}
use Rattle.one_statement.specs.Names.{is_array}
use Rattle.one_statement.proofs.names.is_array.Given as goal

abbrev pub invariant-loop-array : goal.invariant-loop-array
invariant-loop-array l = is_array (drop l.array-index l.arrays) l.name ≡ is_array l.arrays l.name
