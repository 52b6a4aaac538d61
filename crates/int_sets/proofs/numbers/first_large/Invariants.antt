use Rattle.std.proofs.Common.{◌≡◌, drop, ◌++◌, ◌∷◌, [], not}
use Rattle.std.specs.List.{position_from}
use Rattle.int_rows.specs.Elimination.{is_small}
use Rattle.int_sets.proofs.numbers.first_large.Given as goal

abbrev pub invariant-loop-i : goal.invariant-loop-i
invariant-loop-i l = position_from (λ z. not (is_small z)) l.i (drop l.i l.coefs ++ l.constant ∷ []) ≡ position_from (λ z. not (is_small z)) 0 (l.coefs ++ l.constant ∷ [])
