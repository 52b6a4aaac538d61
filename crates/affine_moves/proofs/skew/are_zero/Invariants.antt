use Rattle.std.proofs.Common.{◌≡◌, drop}
use Rattle.std.specs.List.{list_all}
use Rattle.affine_moves.specs.Moves.{is_zero}
use Rattle.affine_moves.proofs.skew.are_zero.Given as goal

abbrev pub invariant-loop-coef : goal.invariant-loop-coef
invariant-loop-coef l = list_all is_zero (drop l.coef-index l.coefs) ≡ list_all is_zero l.coefs
