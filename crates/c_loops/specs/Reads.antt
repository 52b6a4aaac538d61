-- What a function that reads promises.
use Rattle.std.specs.Prelude.{◌≡◌, ◌≢◌, List, Result, Ok, Err}
use Rattle.c_tokens.specs.declared.token.Token.{Token}
use Rattle.c_tokens.specs.Tokens.{Outcome}
use Rattle.c_loops.specs.declared.halt.Halt.{Halt}
use Rattle.c_loops.specs.declared.halt.Halt.TheVariants.{NoMemory}

-- The reader's outcome, unless memory runs out. A refusal leaves the cursor before the token that doesn't fit.
abbrev pub Reads : {A : Type 0} → Outcome A → Result A Halt → List Token → Type 0
Reads outcome (Ok a) new = outcome ≡ Ok (a, new)
Reads outcome (Err e) new = e ≢ NoMemory → outcome ≡ Err new

-- the same, where the value is written into what was lent
abbrev pub ReadsInto : {A : Type 0} → Outcome A → Result (Unit {0}) Halt → A → List Token → Type 0
ReadsInto outcome (Ok u) a new = outcome ≡ Ok (a, new)
ReadsInto outcome (Err e) a new = e ≢ NoMemory → outcome ≡ Err new

-- the same, where a part of the value is written into what was lent
abbrev pub ReadsWith : {A B : Type 0} → Outcome (A × B) → Result A Halt → B → List Token → Type 0
ReadsWith outcome (Ok a) b new = outcome ≡ Ok ((a, b), new)
ReadsWith outcome (Err e) b new = e ≢ NoMemory → outcome ≡ Err new
