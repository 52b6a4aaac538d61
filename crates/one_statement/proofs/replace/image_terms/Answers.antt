use Rattle.one_statement.proofs.Replaced.{terms-over}
use Rattle.one_statement.proofs.replace.image_terms.Goals as goal

pub returns-clause-over : goal.returns-clause-over
returns-clause-over c = terms-over c.args.images.now c.requires.room c.args.terms.now c.make_terms.result c.requires.terms c.make_terms.ensures
