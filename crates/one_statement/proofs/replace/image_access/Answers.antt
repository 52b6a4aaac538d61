use Rattle.one_statement.proofs.Replaced.{access-over}
use Rattle.one_statement.proofs.replace.image_access.Goals as goal

pub returns-clause-over : goal.returns-clause-over
returns-clause-over c = access-over c.args.images.now c.requires.room c.args.access.now c.make_access.result c.requires.access c.make_access.ensures
