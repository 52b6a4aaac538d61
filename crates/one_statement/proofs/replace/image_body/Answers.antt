use Rattle.one_statement.proofs.Replaced.{body-over}
use Rattle.one_statement.proofs.replace.image_body.Goals as goal

pub returns-clause-over : goal.returns-clause-over
returns-clause-over c = body-over c.args.images.now c.requires.room c.args.body.now c.make_body.result c.requires.body c.make_body.ensures
