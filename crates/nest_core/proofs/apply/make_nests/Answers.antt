use Rattle.nest_core.specs.Shapes.{IsShapedNest}
use Rattle.nest_core.proofs.Shaped.{nests_made-shaped}
use Rattle.nest_core.proofs.Ordered.{in_text_order-all, has_positions}
use Rattle.nest_core.proofs.apply.make_nests.Goals as goal

pub number-requires : goal.number-requires
number-requires c =
    let head = c.args.kernel.now.head in
    let made = rw (c.as_slice.ensures, c.as_slice-2.ensures) at c.in_ok-nests.ensures in
    let shaped = nests_made-shaped head _ _ c.in_ok-nests.nests c.requires.shaped.nests c.requires.fits.pieces made in
    rw c.in_ok-ordered.ensures (has_positions head _ (in_text_order-all (IsShapedNest head) _ shaped.0))
