use Rattle.std.proofs.Common.{◌≡◌, ◌≤◌, ◌+◌, ◌-◌, ℕ}
use Rattle.loop_scan.specs.Safety.{stays_at, without_later}
use Rattle.loop_scan.proofs.project.eliminate_later.Given as goal

abbrev pub invariant-loop-left : goal.invariant-loop-left
invariant-loop-left l = record {
  vars : l.system.vars ≡ l.initial.system.vars;
  within : l.left ≤ l.system.vars;
  from : l.seats.params + l.level ≤ l.left;
  made : (n : ℕ) → l.seats.params + l.level + n ≡ l.left
      → without_later (stays_at l.seats l.kept) (l.seats.params + l.level) n l.system
      ≡ without_later (stays_at l.seats l.kept) (l.seats.params + l.level) (l.seats.vars - (l.seats.params + l.level)) l.initial.system;
}

abbrev pub decreases-loop-left : goal.decreases-loop-left
decreases-loop-left l = l.left
