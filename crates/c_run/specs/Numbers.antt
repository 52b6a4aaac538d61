-- The numbers of a run: parameters, and the variables of the loops that were entered, the innermost first.
use Rattle.std.specs.Prelude.{ℤ, pos, Bool, ◌||◌, List, [], ◌∷◌, if◌then◌else◌}
use Rattle.c_meaning.specs.Names.{Name, same_name}
use Rattle.c_walk.specs.State.{Layer}
use Rattle.csr_data.specs.declared.values.Parameter.{Parameter}
use Rattle.csr_data.specs.Parameters.{has, names_of, number_in}
use Rattle.c_run.specs.declared.numbers.Variable.{Variable}

-- a name is a loop variable or a parameter
abbrev pub is_number : List Variable → List Parameter → Name → Bool
is_number [] ps x = has (names_of ps) x
is_number (v ∷ vs) ps x = same_name v.name x || is_number vs ps x

-- the innermost loop variable of that name counts
abbrev pub value_in : List Variable → List Parameter → Name → ℤ
value_in [] ps x = pos (number_in ps x)
value_in (v ∷ vs) ps x = if same_name v.name x then v.value else value_in vs ps x

-- what numbers there were before each loop was entered
abbrev pub layers : List Variable → List Parameter → List Layer
layers [] ps = []
layers (v ∷ vs) ps = record { numbers = is_number vs ps; values = value_in vs ps } ∷ layers vs ps
