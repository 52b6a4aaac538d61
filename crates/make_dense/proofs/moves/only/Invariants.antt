use Rattle.std.proofs.Common.{◌≡◌, map, nat_eq}
use Rattle.std.specs.List.{range_with_len}
use Rattle.make_dense.proofs.moves.only.Given as goal

abbrev pub invariant-loop-i : goal.invariant-loop-i
invariant-loop-i l = l.applies ≡ map (λ j. nat_eq j l.statement) (range_with_len 0 l.i)
