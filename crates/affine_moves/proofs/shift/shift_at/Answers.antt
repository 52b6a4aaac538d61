use Rattle.std.proofs.lemmas.Int.{to_z-of_z}
use mir.Val.{SFits}
use mir.Syntax.{w32}
use Rattle.affine_moves.proofs.Suiting.{shift-suits}
use Rattle.affine_moves.proofs.shift.shift_at.Goals as goal

pub make_moves-requires-clause-suits : goal.make_moves-requires-clause-suits
make_moves-requires-clause-suits c =
    let f : SFits w32 c.args.amount = c.ranges.amount in
    let e = simp to_z-of_z at c.in_default.ensures in
    let a = rw c.len.ensures at c.in_ok-applies.ensures in
    simp to_z-of_z (rw a (shift-suits _ c.args.statement c.args.nest.now c.args.level c.args.amount c.requires.nest e))
