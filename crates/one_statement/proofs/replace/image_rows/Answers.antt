use Rattle.one_statement.proofs.Replaced.{rows-over}
use Rattle.one_statement.proofs.replace.image_rows.Goals as goal

pub returns-clause-over : goal.returns-clause-over
returns-clause-over c = rows-over c.args.images.now c.requires.room c.args.depth c.args.rows.now c.make_rows.result c.requires.rows c.make_rows.ensures
