use Rattle.std.proofs.Common.{◌≡◌, ◌≤◌, ◌+◌, ◌-◌, ◌^◌, drop}
use Rattle.c_judge.specs.Limits.{capped, count_of}
use Rattle.c_judge.specs.declared.limits.Counted.TheVariants.{All}
use Rattle.source_limits.proofs.count.+count.Given as goal

abbrev pub invariant-count_statements-loop-statement : goal.invariant-count_statements-loop-statement
invariant-count_statements-loop-statement l = record {
  fits : l.total ≤ 2 ^ 64 - 1;
  gathers : capped (count_of All (drop l.statement-index l.statements) + l.total) ≡ capped (count_of All l.statements);
}
