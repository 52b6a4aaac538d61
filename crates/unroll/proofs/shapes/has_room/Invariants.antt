use Rattle.std.proofs.Common.{◌≡◌, drop}
use Rattle.std.specs.Prelude.{Some}
use Rattle.unroll.specs.Moves.{has_room_in}
use Rattle.unroll.proofs.shapes.has_room.Given as goal

abbrev pub invariant-loop-role : goal.invariant-loop-role
invariant-loop-role l = has_room_in l.factor (Some l.room) (drop l.role-index l.roles) ≡ has_room_in l.factor (Some l.most) l.roles
