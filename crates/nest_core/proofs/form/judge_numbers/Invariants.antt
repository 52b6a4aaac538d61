use Rattle.nest_core.proofs.Judging.{Judged}
use Rattle.nest_core.proofs.form.judge_numbers.Given as goal

abbrev pub invariant-loop-var : goal.invariant-loop-var
invariant-loop-var l = Judged l.numbers l.var l.judged
