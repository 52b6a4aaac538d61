use Rattle.std.proofs.Common.{◌≡◌, ◌+◌, length}
use Rattle.nest_systems.proofs.seats.Seats.back.Given as goal

abbrev pub invariant-loop-var : goal.invariant-loop-var
invariant-loop-var l = length l.coefs ≡ l.var

abbrev pub invariant-loop-level : goal.invariant-loop-level
invariant-loop-level l = length l.coefs ≡ l.self.params + l.level

abbrev pub invariant-loop-term : goal.invariant-loop-term
invariant-loop-term l = length l.coefs ≡ l.self.params + l.self.levels + l.term
