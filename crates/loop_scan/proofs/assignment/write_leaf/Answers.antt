use Rattle.std.proofs.Common.{◌+◌, length, ap}
use Rattle.nest_core.specs.Chains.{leaf_body}
use Rattle.nest_core.proofs.Bodies.{over-At}
use Rattle.loop_scan.proofs.Places.{access-low, access-high}
use Rattle.loop_scan.proofs.assignment.write_leaf.Goals as goal

pub write_access-requires-clause-low : goal.write_access-requires-clause-low
write_access-requires-clause-low c =
    let n = c.args.c.origin.params + c.args.c.origin.levels + length c.args.c.origin.terms.now in
    access-low n c.in-Cell.access.now (over-At n _ c.in-Cell.access.now (ap leaf_body c.in-Cell.is) c.requires.leaf)

pub write_access-requires-clause-high : goal.write_access-requires-clause-high
write_access-requires-clause-high c =
    let n = c.args.c.origin.params + c.args.c.origin.levels + length c.args.c.origin.terms.now in
    access-high n c.in-Cell.access.now (over-At n _ c.in-Cell.access.now (ap leaf_body c.in-Cell.is) c.requires.leaf)
