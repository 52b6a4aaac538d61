-- What the calls of a system answer.
use Rattle.std.specs.Prelude.{◌≡◌, Bool, Result, Ok, Err}
use Rattle.chill_base.specs.declared.faults.Stop.{Stop}
use Rattle.chill_base.specs.declared.faults.Stop.TheVariants.{Refused, NoMemory}
use Rattle.int_rows.specs.Systems.{Rows}
use Rattle.int_rows.specs.declared.row.Excess.{Excess}

-- a call that changes a system answers as wanted: Ok with the new system, or the limit, which leaves the system as it was, as want of memory does
abbrev pub Answers : Result (Unit {0}) (Stop Excess) → Rows → Rows → Result Rows Excess → Type 0
Answers (Ok u) old new wanted = wanted ≡ Ok new
Answers (Err (Refused e)) old new wanted = (wanted ≡ Err e) × (new ≡ old)
Answers (Err NoMemory) old new wanted = new ≡ old

-- a call that decides something answers as wanted, unless there is no memory
abbrev pub Decides : Result Bool (Stop Excess) → Result Bool Excess → Type 0
Decides (Ok b) wanted = wanted ≡ Ok b
Decides (Err (Refused e)) wanted = wanted ≡ Err e
Decides (Err NoMemory) wanted = Unit {0}
