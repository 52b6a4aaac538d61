use Rattle.datacopy.proofs.Found.{found-below, has-copy}
use Rattle.datacopy.proofs.nests.copied_nests.Goals as goal

pub bounds-nests-statement : goal.bounds-nests-statement
bounds-nests-statement c = rw c.as_slice-nests.ensures (found-below _ _ _ c.requires.read.found)

pub returns-clause-copied : goal.returns-clause-copied
returns-clause-copied c =
    has-copy _ _ c.args.statement c.args.level _ c.args.array c.args.copy c.index-nests-statement.result _ c.as_slice-nests.ensures (found-below _ _ _ c.requires.read.found) c.index-nests-statement.is c.nests_with_copy.ensures.copied
