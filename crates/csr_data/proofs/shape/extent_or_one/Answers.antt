use Rattle.std.proofs.Common.{arith}
use Rattle.std.proofs.lemmas.Int.{to_z-of_z}
use Rattle.csr_data.proofs.Extents.{values_at, values_past, read_is, read_past}
use Rattle.csr_data.proofs.shape.extent_or_one.Goals as goal

pub extent-requires-clause-extent : goal.extent-requires-clause-extent
extent-requires-clause-extent c = c.requires.extents c.args.at _ (read_is _ _ _ c.if-at-extents.true c.index-extents-at.is)

pub returns-then-at-extents-clause-value : goal.returns-then-at-extents-clause-value
returns-then-at-extents-clause-value c = λ vs h.
    let is = values_at _ _ vs h c.args.at _ (read_is _ _ _ c.if-at-extents.true c.index-extents-at.is) c.extent.result c.extent.ensures.value in grind (arith, to_z-of_z, is)

pub returns-else-at-extents-clause-value : goal.returns-else-at-extents-clause-value
returns-else-at-extents-clause-value c = λ vs h. values_past _ _ vs h c.args.at (read_past _ _ c.if-at-extents.false)
