use Rattle.std.proofs.Common.{sym, ◌∙◌, ap}
use Rattle.std.specs.Prelude.{Some}
use Rattle.first_form.proofs.Shapes.{copied_size}
use Rattle.first_form.proofs.size.copied_size.Goals as goal

pub returns-in-Some : goal.returns-in-Some
returns-in-Some c = ap Some c.expression_of.ensures ∙ copied_size c.args.params.now c.args.expression.now c.in-Some.size (sym c.size_of.ensures ∙ c.in-Some.is)
