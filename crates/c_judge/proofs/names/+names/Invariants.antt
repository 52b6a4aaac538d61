use Rattle.std.proofs.Common.{◌≡◌, drop}
use Rattle.c_judge.specs.Statements.{judged_all}
use Rattle.c_judge.proofs.names.+names.Given as goal

abbrev pub invariant-judge_names-loop-statement : goal.invariant-judge_names-loop-statement
invariant-judge_names-loop-statement l = judged_all l.part (drop l.statement-index l.statements) l.scope ≡ judged_all l.part l.statements l.initial.scope
