-- What a program runs on, as its meaning sees it.
use Rattle.std.specs.Prelude.{ℕ, ℤ, pos, List, [], reverse, Option, Some, None}
use Rattle.c_tree.specs.declared.program.Kind.{Kind}
use Rattle.c_tree.specs.declared.program.Kind.TheVariants.{Number, Position}
use Rattle.c_meaning.specs.Names.{Name}
use Rattle.c_meaning.specs.Scope.{Scope}
use Rattle.c_meaning.specs.Value.{Sight}
use Rattle.c_walk.specs.State.{Rest, State, state_of}
use Rattle.csr_data.specs.declared.values.Parameter.{Parameter}
use Rattle.csr_data.specs.declared.values.Table.{Table}
use Rattle.c_run.specs.declared.numbers.Variable.{Variable}
use Rattle.c_run.specs.declared.numbers.Numbers.{Numbers}
use Rattle.c_run.specs.declared.arrays.Arrays.{Arrays}
use Rattle.c_run.specs.declared.store.Store.{Store}
use Rattle.c_run.specs.Numbers.{is_number, value_in, layers}
use Rattle.c_run.specs.Arrays.{Shape, shape_in, extents_of, cell_at, signed}

-- the variables of the loops that were entered, the innermost first
abbrev pub loops_of : Numbers → List Variable
loops_of n = reverse n.loops.items

abbrev pub params_of : Numbers → List Parameter
params_of n = n.params.items

abbrev pub tables_of : Arrays → List Table
tables_of a = a.tables.items

-- how many extents an array of the kind has; 0 where it is of the other kind
abbrev pub dimensions_as : Kind → Kind → ℕ → ℕ
dimensions_as Number Number n = n
dimensions_as Position Position n = n
dimensions_as _ _ n = 0

abbrev pub dimensions_of : Kind → Option Shape → ℕ
dimensions_of k None = 0
dimensions_of k (Some s) = dimensions_as k s.kind s.dimensions

abbrev pub number_as : Kind → ℕ → ℤ
number_as Number c = pos 0
number_as Position c = signed c

-- the number that a cell of an index array holds
abbrev pub number_of : Option Shape → ℕ → ℤ
number_of None c = pos 0
number_of (Some s) c = number_as s.kind c

abbrev pub data_as : Kind → ℕ → ℕ
data_as Number c = c
data_as Position c = 0

-- what a cell of a data array holds
abbrev pub data_of : Option Shape → ℕ → ℕ
data_of None c = 0
data_of (Some s) c = data_as s.kind c

abbrev pub Shapes : Type 0
Shapes = Name → Option Shape

abbrev pub CellsAt : Type 0
CellsAt = Name → List ℤ → ℕ

module _ (vs : List Variable) (ps : List Parameter) (shapes : Shapes) (cells : CellsAt) where
  abbrev pub scope_in : Scope
  scope_in = record {
    numbers = is_number vs ps;
    index_arrays = λ x. dimensions_of Position (shapes x);
    data_arrays = λ x. dimensions_of Number (shapes x);
  }

  abbrev pub sight_in : Sight
  sight_in = record {
    value = value_in vs ps;
    extents = λ x. extents_of (shapes x);
    index = λ x at. number_of (shapes x) (cells x at);
  }

  abbrev pub rest_in : Rest
  rest_in = record { cells = λ x. data_of (shapes x.array) (cells x.array x.at); outer = layers vs ps }

  abbrev pub state_in : State
  state_in = state_of scope_in sight_in rest_in

abbrev pub scope_of_store : Store → Scope
scope_of_store s = scope_in (loops_of s.numbers) (params_of s.numbers) (shape_in (tables_of s.arrays)) (cell_at (tables_of s.arrays))

abbrev pub sight_of_store : Store → Sight
sight_of_store s = sight_in (loops_of s.numbers) (params_of s.numbers) (shape_in (tables_of s.arrays)) (cell_at (tables_of s.arrays))

abbrev pub rest_of_store : Store → Rest
rest_of_store s = rest_in (loops_of s.numbers) (params_of s.numbers) (shape_in (tables_of s.arrays)) (cell_at (tables_of s.arrays))

abbrev pub state_of_store : Store → State
state_of_store s = state_of (scope_of_store s) (sight_of_store s) (rest_of_store s)

-- what a run begins with: these parameters and arrays, in no loop
abbrev pub prepared : List Parameter → List Table → State
prepared ps ts = state_in [] ps (shape_in ts) (cell_at ts)
