-- What the evaluator answers: a value with its weight, or none for a weight that is too great.
use Rattle.std.specs.Prelude.{◌≤◌, ◌^◌, unsigned_abs, Option, Some, None, Ok, Err, if◌then◌else◌, nat_le}
use Rattle.c_meaning.specs.declared.sized.Sized.TheInside.{Inside}
use Rattle.c_meaning.specs.Weighed.{Weighed, greatest}
use Rattle.c_meaning.specs.Value.{Answer}

-- a value is at most as large as its weight
pub record IsCapped (a : Inside) : Type 0 where
  pub covers : unsigned_abs a.value ≤ a.weight
  pub within : a.weight ≤ 2 ^ 62

-- a weighed value, where its weight isn't too great
abbrev pub capped : Weighed → Option Weighed
capped w = if nat_le w.weight greatest then Some w else None

abbrev pub cap : Answer Weighed → Answer (Option Weighed)
cap (Ok w) = Ok (capped w)
cap (Err e) = Err e
