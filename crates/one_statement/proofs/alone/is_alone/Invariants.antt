use Rattle.std.proofs.Common.{◌≡◌, drop}
use Rattle.one_statement.specs.Alone.{any_shares}
use Rattle.one_statement.proofs.alone.is_alone.Given as goal

abbrev pub invariant-loop-other : goal.invariant-loop-other
invariant-loop-other l = any_shares l.other l.statement l.level l.nest (drop l.other l.nests) ≡ any_shares 0 l.statement l.level l.nest l.nests
