-- What a judge answers.
use Rattle.std.specs.Prelude.{◌≡◌, List, [], ◌∷◌, Some, None, Result, Ok, Err}
use Rattle.chill_base.specs.declared.faults.Stop.{Stop}
use Rattle.chill_base.specs.declared.faults.Stop.TheVariants as stop
use Rattle.c_judge.specs.declared.faults.ProgramFault.{ProgramFault}
use Rattle.c_judge.specs.Names.{Names, Fault}

-- the names that are in scope afterwards, or the first fault
abbrev pub Outcome : Type 0
Outcome = Result Names ProgramFault

abbrev pub Judged : Type 0
Judged = Names → Outcome

abbrev pub unless : Fault → Outcome → Outcome
unless None o = o
unless (Some f) o = Err f

abbrev pub and_then : Outcome → Judged → Outcome
and_then (Ok names) f = f names
and_then (Err f) g = Err f

abbrev pub one_by_one : List Judged → Judged
one_by_one [] names = Ok names
one_by_one (j ∷ js) names = and_then (j names) (one_by_one js)

-- the fault, unless memory runs out
abbrev pub Tells : Fault → Result (Unit {0}) (Stop ProgramFault) → Type 0
Tells found (Ok u) = found ≡ None
Tells found (Err (stop.Refused f)) = found ≡ Some f
Tells found (Err stop.NoMemory) = Unit {0}

-- the outcome, unless memory runs out
abbrev pub Leaves : Outcome → Result (Unit {0}) (Stop ProgramFault) → Names → Type 0
Leaves outcome (Ok u) new = outcome ≡ Ok new
Leaves outcome (Err (stop.Refused f)) new = outcome ≡ Err f
Leaves outcome (Err stop.NoMemory) new = Unit {0}
