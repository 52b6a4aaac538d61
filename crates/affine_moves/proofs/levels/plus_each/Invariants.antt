use Rattle.std.proofs.Common.{◌≡◌, ◌+◌, ◌*◌, ◌^◌, drop}
use Rattle.std.specs.Prelude.{Some}
use Rattle.affine_moves.specs.Levels.{plus_each, IsAtMost}
use Rattle.affine_moves.proofs.levels.plus_each.Given as goal

abbrev pub invariant-loop-i : goal.invariant-loop-i
invariant-loop-i l = record {
  rest : plus_each (Some l.sum) (drop l.i l.coefs) (drop l.i l.levels) ≡ plus_each (Some l.fn.start) l.coefs l.levels;
  small : IsAtMost (2 ^ 63 + l.i * 2 ^ 94) (Some l.sum);
}
