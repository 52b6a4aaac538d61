-- What holds of each answer of `work`, which reads no file.
use Rattle.std.specs.Prelude.{◌≡◌, ◌≤◌, []}
use Rattle.chill_base.specs.Outside.{SinkState, Rose, Wrote}
use Rattle.outcomes.specs.declared.outcome.Outcome.{Outcome}
use Rattle.outcomes.specs.declared.outcome.Outcome.TheVariants.{WriteFault}
use Rattle.run_jobs.specs.Counts.{IsQuiet}

pub record OutCounts (out out' : SinkState) (result : Outcome) : Type 0 where
  pub later : out.faults ≤ out'.faults
  pub write_fault : result ≡ WriteFault → Rose out.faults out'.faults
  pub quiet : IsQuiet result → Wrote out [] out'
