use Rattle.std.proofs.Common.{◌≡◌, ◌≤◌, ◌+◌, ◌-◌, ◌^◌, drop}
use Rattle.c_judge.specs.Limits.{capped, count_of}
use Rattle.c_judge.proofs.limits.+count.Given as goal

abbrev pub invariant-count-loop-statement : goal.invariant-count-loop-statement
invariant-count-loop-statement l = record {
  fits : l.total ≤ 2 ^ 64 - 1;
  gathers : capped (count_of l.counted (drop l.statement-index l.statements) + l.total) ≡ capped (count_of l.counted l.statements);
}
