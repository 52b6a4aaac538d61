use Rattle.nest_core.specs.Forms.{rewritten}
use Rattle.nest_core.specs.Pieces.{term_made}
use Rattle.nest_core.proofs.Makes.{Makes}
use Rattle.nest_core.proofs.rewrite.rewrite_terms.Given as goal

abbrev pub invariant-loop-term : goal.invariant-loop-term
invariant-loop-term l = Makes (term_made (rewritten l.frame l.old)) l.terms l.term-index l.new
