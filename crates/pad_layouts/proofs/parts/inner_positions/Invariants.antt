use Rattle.std.proofs.Common.{◌≡◌, ◌∷◌, replicate}
use Rattle.pad_layouts.proofs.parts.inner_positions.Given as goal

abbrev pub invariant-loop : goal.invariant-loop
invariant-loop l = l.positions ≡ l.first ∷ replicate l.counter 0
