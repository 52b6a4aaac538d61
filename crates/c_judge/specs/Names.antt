-- What names mean at a place.
use Rattle.std.specs.Prelude.{ℕ, List, [], ◌∷◌, ◌++◌, Option, Some, None, bytes_eq}
use Rattle.std.specs.Option.{option_or}
use Rattle.std.specs.Map.{lookup}
use Rattle.c_judge.specs.declared.faults.NameWhy.{NameWhy}
use Rattle.c_judge.specs.declared.faults.ProgramFault.{ProgramFault}
use Rattle.c_judge.specs.declared.faults.ProgramFault.TheVariants as fault
use Rattle.c_judge.specs.declared.scope.Meaning.{Meaning}

-- a name is its bytes
abbrev pub Name : Type 0
Name = List ℕ

-- the names in scope with what they mean, in the order in which they came
abbrev pub Names : Type 0
Names = List (Name × Meaning)

-- what a name means where these are in scope
unfoldable pub find : Names → Name → Option Meaning
find names x = lookup (bytes_eq x) names

abbrev pub enter : Names → Name → Meaning → Names
enter names x m = names ++ (x, m) ∷ []

-- a fault, unless there is none
abbrev pub Fault : Type 0
Fault = Option ProgramFault

abbrev pub because : Name → NameWhy → Fault
because x why = Some (fault.Name x why)

-- the first fault of a list
abbrev pub first_of : {A : Type 0} → (A → Fault) → List A → Fault
first_of f [] = None
first_of f (x ∷ xs) = option_or (f x) (first_of f xs)
