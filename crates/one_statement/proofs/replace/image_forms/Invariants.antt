use Rattle.one_statement.specs.Images.{image_of}
use Rattle.nest_core.proofs.Makes.{Makes}
use Rattle.one_statement.proofs.replace.image_forms.Given as goal

abbrev pub invariant-loop-form : goal.invariant-loop-form
invariant-loop-form l = Makes (image_of l.images) l.forms l.form-index l.new
