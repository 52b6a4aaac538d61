use Rattle.one_statement.proofs.Replaced.{image-width}
use Rattle.one_statement.proofs.images.image_form.Goals as goal

pub returns-clause-width : goal.returns-clause-width
returns-clause-width c = image-width c.args.images.now c.requires.room c.args.form.now c.make_form.result c.requires.width c.make_form.ensures
