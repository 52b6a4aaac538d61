use Rattle.std.proofs.Common.{◌≡◌, ℕ, ◌<◌, ◌%◌, ◌^◌, take, get_or}
use Rattle.measured_run.specs.Figures.{weighed}
use Rattle.measured_run.proofs.summary.layout.Given as goal

abbrev pub invariant-loop-at : goal.invariant-loop-at
invariant-loop-at l = record {
  sum : l.layout ≡ weighed 0 (take l.at l.cells) % 2 ^ 64;
  words : (k : ℕ) → k < l.at → get_or l.cells k 0 < 2 ^ 64;
}
