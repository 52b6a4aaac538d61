use Rattle.std.proofs.Common.{◌≡◌, drop}
use Rattle.c_judge.specs.Fixed.{fixed_fault}
use Rattle.c_judge.proofs.fixed.+fixed.Given as goal

abbrev pub invariant-judge_fixed-loop-statement : goal.invariant-judge_fixed-loop-statement
invariant-judge_fixed-loop-statement l = fixed_fault l.scope l.part (drop l.statement-index l.statements) ≡ fixed_fault l.scope l.part l.statements
