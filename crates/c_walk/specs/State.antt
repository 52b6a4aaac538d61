-- What a program runs on: which names there are and what they stand for, the cells of data arrays, and the loops that
-- were entered.
use Rattle.std.specs.Prelude.{ℕ, ℤ, Bool, ◌||◌, List, [], ◌∷◌, Option, Some, None, if◌then◌else◌}
use Rattle.c_meaning.specs.Names.{Name, same_name}
use Rattle.c_meaning.specs.Value.{Sight, is_inside}
use Rattle.c_meaning.specs.Memory.{Spot, Memory, Cells, Env, sight_of, bound}
use Rattle.c_meaning.specs.Scope.{Scope}

-- what numbers there were before a loop was entered
pub record Layer : Type 0 where
  pub numbers : Name → Bool
  pub values : Env

-- what a view doesn't tell
pub record Rest : Type 0 where
  pub cells : Cells
  pub outer : List Layer

pub record State : Type 0 where
  pub scope : Scope
  pub sight : Sight
  pub cells : Cells
  pub outer : List Layer

abbrev pub state_of : Scope → Sight → Rest → State
state_of c s r = record { scope = c; sight = s; cells = r.cells; outer = r.outer }

-- the arrays
abbrev pub memory_in : State → Memory
memory_in s = record { extents = s.sight.extents; index = s.sight.index; cells = s.cells }

-- the same names and loops over other arrays
abbrev pub with_memory : Memory → State → State
with_memory m s = record { scope = s.scope; sight = sight_of s.sight.value m; cells = m.cells; outer = s.outer }

-- a loop variable is a number in the loop
abbrev pub with_number : Name → Scope → Scope
with_number x c = record c { numbers = λ y. same_name x y || c.numbers y }

-- in a turn of a loop
abbrev pub entered : Name → ℤ → State → State
entered x v s = record {
  scope = with_number x s.scope;
  sight = record s.sight { value = bound x v s.sight.value };
  cells = s.cells;
  outer = record { numbers = s.scope.numbers; values = s.sight.value } ∷ s.outer;
}

abbrev pub left_to : List Layer → State → State
left_to [] s = s
left_to (l ∷ ls) s = record {
  scope = record s.scope { numbers = l.numbers };
  sight = record s.sight { value = l.values };
  cells = s.cells;
  outer = ls;
}

-- out of the loop that was entered last
abbrev pub left : State → State
left s = left_to s.outer s

abbrev pub with_cells : Cells → Memory → Memory
with_cells k m = record { extents = m.extents; index = m.index; cells = k }

abbrev pub spot : Name → List ℤ → Spot
spot a at = record { array = a; at = at }

-- the cell of a data array, where the subscripts are inside
abbrev pub data_seen : State → Name → List ℤ → Option ℕ
data_seen s a at = if is_inside at (s.sight.extents a) then Some (s.cells (spot a at)) else None
