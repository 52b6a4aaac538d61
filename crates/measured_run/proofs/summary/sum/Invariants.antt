use Rattle.std.proofs.Common.{◌≡◌, ℕ, ◌<◌, ◌^◌, take, get_or}
use Rattle.measured_run.specs.Figures.{total}
use Rattle.measured_run.proofs.summary.sum.Given as goal

abbrev pub invariant-loop-at : goal.invariant-loop-at
invariant-loop-at l = record {
  sum : l.sum ≡ total (take l.at l.cells);
  words : (k : ℕ) → k < l.at → get_or l.cells k 0 < 2 ^ 64;
}
