use Rattle.nest_core.specs.Pieces.{term_made}
use Rattle.one_statement.specs.Images.{image_of}
use Rattle.nest_core.proofs.Makes.{Makes}
use Rattle.one_statement.proofs.replace.make_terms.Given as goal

abbrev pub invariant-loop-term : goal.invariant-loop-term
invariant-loop-term l = Makes (term_made (image_of l.images)) l.terms l.term-index l.new
