use Rattle.std.proofs.Common.{refl}
use Rattle.std.proofs.lemmas.Int.{to_z-of_z}
use mir.Val.{SFits}
use mir.Syntax.{w32}
use Rattle.affine_moves.proofs.shift.shift_moves.Goals as goal

pub returns-in-Some-clause-gives : goal.returns-in-Some-clause-gives
returns-in-Some-clause-gives c =
    let f : SFits w32 c.args.amount = c.ranges.amount in
    let g = simp to_z-of_z at c.shift_at.ensures.gives in
    rw (← c.in-Some.ensures.value) g

pub returns-in-None-clause-gives : goal.returns-in-None-clause-gives
returns-in-None-clause-gives c = rw (← c.in-None.ensures.value) refl
