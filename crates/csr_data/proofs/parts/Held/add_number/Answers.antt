use Rattle.csr_data.proofs.AtHand.{counts_one}
use Rattle.csr_data.proofs.parts.Held.add_number.Goals as goal

pub returns-in-Ok-clause-counts : goal.returns-in-Ok-clause-counts
returns-in-Ok-clause-counts c = counts_one c.args.self.now c.args._wanted.now c.args.value c.store.new.cells c.requires.about c.requires.number c.in-Ok.ensures.wanted
