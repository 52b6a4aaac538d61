-- What the values of parameters tell.
use Rattle.std.specs.Prelude.{◌≡◌, ℕ, ◌≤◌, ◌^◌, pos, Bool, false, ◌||◌, List, [], ◌∷◌, map, if◌then◌else◌}
use Rattle.c_meaning.specs.Names.{Name, same_name}
use Rattle.c_meaning.specs.Value.{Sight}
use Rattle.c_meaning.specs.Scope.{Scope}
use Rattle.csr_data.specs.declared.values.Parameter.{Parameter}

abbrev pub names_of : List Parameter → List Name
names_of vs = map (λ v. v.name) vs

-- one of the names is this one
abbrev pub has : List Name → Name → Bool
has [] x = false
has (y ∷ ys) x = same_name y x || has ys x

-- the value of the parameter of that name
abbrev pub number_in : List Parameter → Name → ℕ
number_in [] x = 0
number_in (v ∷ vs) x = if same_name v.name x then v.value else number_in vs x

-- the names for which an extent's evaluation can ask; arrays have no cells there
abbrev pub scope_of : List Name → Scope
scope_of xs = record { numbers = has xs; index_arrays = λ a. 1; data_arrays = λ a. 0 }

-- what extents see: the parameters, and no cell
abbrev pub sight_of : List Parameter → Sight
sight_of vs = record { value = λ x. pos (number_in vs x); extents = λ a. []; index = λ a at. pos 0 }

-- no value is past 2^24
abbrev pub AreSmall : List Parameter → Type 0
AreSmall vs = (x : Name) → number_in vs x ≤ 2 ^ 24

-- each of these names has a value of at most 2^24
pub record Gives (xs : List Name) (vs : List Parameter) : Type 0 where
  pub names : names_of vs ≡ xs
  pub small : AreSmall vs
