-- The statements of worked lists.
use Rattle.std.specs.Prelude.{ℕ, List, [], ◌∷◌, ◌++◌, map, ℤ, pos, negsuc, None}
use Rattle.int_rows.specs.declared.row.Aff.{Aff}
use Rattle.c_tree.specs.declared.statement.How.TheVariants.{Write}
use Rattle.c_meaning.specs.Memory.{Spot}
use Rattle.c_meaning.specs.Ground.{Ground, number, load, Step}
use Rattle.nest_tree.specs.declared.kernel.Nest.{Nest}
use Rattle.nest_tree.specs.declared.body.Access.{Access}
use Rattle.nest_tree.specs.declared.body.Body.{Body}
use Rattle.nest_tree.specs.declared.body.Body.TheVariants.{Const, At}
use Rattle.nest_tree.specs.declared.form.Form.TheVariants.{Other}
use Rattle.nest_tree.specs.Places.{place, Item}
use Rattle.nest_tree.specs.Terms.{Input}
use Rattle.nest_tree.specs.Kernels.{point}
use Rattle.nest_laws.specs.Acts.{act}

abbrev pub b : List ℕ
b = 98 ∷ []

abbrev pub c : List ℕ
c = 99 ∷ []

abbrev pub d : List ℕ
d = 100 ∷ []

abbrev pub e : List ℕ
e = 101 ∷ []

abbrev pub x : List ℕ
x = 120 ∷ []

abbrev pub form : List ℤ → ℤ → Aff
form cs k = record { coefs = cs; constant = k }

abbrev pub access : List ℕ → List Aff → Access
access a at = record { array = a; at = at }

-- an assignment in so many loops; its rows play no part in what it does at a point
abbrev pub writing : List ℕ → Access → Body → Nest
writing positions target value = record { levels = map (λ p. Other) positions; positions = positions; terms = []; rows = []; target = target; how = Write; value = value; whole = None }

-- an input with these parameters, without index arrays
abbrev pub input : List ℤ → Input
input params = record { params = params; cells = λ a at. None }

abbrev pub line : List ℕ → ℤ → Spot
line a k = record { array = a; at = k ∷ pos 0 ∷ pos 0 ∷ [] }

abbrev pub grid : List ℕ → ℤ → ℤ → Spot
grid a i j = record { array = a; at = i ∷ j ∷ pos 0 ∷ [] }

-- at this place, the cell gets what the other holds, or a number
abbrev pub gets : List ℤ → Spot → Spot → Item Step
gets at t s = record { place = at; step = record { target = t; how = Write; value = load s } }

abbrev pub is_set : List ℤ → Spot → ℕ → Item Step
is_set at t k = record { place = at; step = record { target = t; how = Write; value = number k } }

-- an old instance, at the place of new positions and levels
abbrev pub at_place : Input → Nest → List ℕ → List ℤ → List ℤ → Item Step
at_place i n positions new old = record { place = place positions new; step = act n (point i n old) }
