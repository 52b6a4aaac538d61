use Rattle.std.proofs.Common.{◌≡◌, drop}
use Rattle.std.specs.List.{list_all}
use Rattle.affine_moves.specs.Moves.{is_skew}
use Rattle.affine_moves.proofs.skew.are_skews.Given as goal

abbrev pub invariant-loop-coef : goal.invariant-loop-coef
invariant-loop-coef l = list_all is_skew (drop l.coef-index l.coefs) ≡ list_all is_skew l.coefs
