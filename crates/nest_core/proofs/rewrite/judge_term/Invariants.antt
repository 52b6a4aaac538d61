use Rattle.nest_core.specs.Forms.{judged_form}
use Rattle.nest_core.proofs.Makes.{Makes}
use Rattle.nest_core.proofs.rewrite.judge_term.Given as goal

abbrev pub invariant-loop-form : goal.invariant-loop-form
invariant-loop-form l = Makes judged_form l.term.at l.form-index l.at
