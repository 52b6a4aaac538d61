use Rattle.std.proofs.Common.{◌≡◌, ◌++◌, ◌∷◌, [], replicate}
use Rattle.datacopy.proofs.copying.positions_of.Given as goal

abbrev pub invariant-loop : goal.invariant-loop
invariant-loop l = l.positions ≡ (l.outer ++ l.statements ∷ []) ++ replicate l.counter 0
