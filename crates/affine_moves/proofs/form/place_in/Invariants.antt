use Rattle.std.proofs.Common.{◌≡◌, drop}
use Rattle.affine_moves.specs.Change.{place_from}
use Rattle.affine_moves.proofs.form.place_in.Given as goal

abbrev pub invariant-loop-t : goal.invariant-loop-t
invariant-loop-t l = place_from l.t (drop l.t l.order) l.level ≡ place_from 0 l.order l.level
