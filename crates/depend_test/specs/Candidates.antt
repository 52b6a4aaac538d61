-- The candidates for a dependence, in the order in which they are looked at.
use Rattle.std.specs.Prelude.{ℕ, ◌+◌, Bool, true, cond, ◌||◌, List, [], ◌∷◌, ◌++◌, map, slice_get, Option, Some, None}
use Rattle.std.specs.List.{flat_map}
use Rattle.nest_tree.specs.Carriers.{shared}
use Rattle.nest_tree.specs.declared.body.Access.{Access}
use Rattle.nest_tree.specs.declared.fault.Dependence.{Dependence}
use Rattle.nest_tree.specs.declared.kernel.Kernel.{Kernel}
use Rattle.depend_test.specs.Conflicts.{conflict}
use Rattle.depend_test.specs.First.{IsFirst}
use Rattle.depend_test.specs.Orders.{carriers}
use Rattle.depend_test.specs.Systems.{SameCell, cell_system, DecidesOrders, HasExcluded}
use Rattle.depend_test.specs.declared.side.Side.{Side}
use Rattle.depend_test.specs.declared.side.Moved.{Moved}
use Rattle.depend_test.specs.declared.first.Carried.{Carried}
use Rattle.depend_test.specs.declared.first.Orders.{Orders}

-- a piece of a statement and one of another, an access of each, and what may carry their old order and the new one
pub record Candidate : Type 0 where
  pub one : Side
  pub other : Side
  pub first : Access
  pub second : Access
  pub orders : Orders
  pub carried : Carried

-- a candidate is decided by the exclusion of a system with all its rows, or is excluded where an equality of subscripts alone is
pub data IsDecided (k : Kernel) (c : Candidate) : Bool → Type 0 where
  whole : (b : Bool) (w : SameCell k c.one c.other c.first c.second) → DecidesOrders (cell_system w) w.pair c.orders c.carried b → IsDecided k c b
  alone : (w : SameCell k c.one c.other c.first c.second) → HasExcluded w.pair.first.vars w.equal → IsDecided k c true

abbrev pub carried_of : Candidate → Carried
carried_of c = c.carried

abbrev pub IsFirstCarried : Kernel → List Candidate → Option Carried → Type 0
IsFirstCarried k = IsFirst (IsDecided k) carried_of

-- the lists that the things of a list give by their numbers, one behind another
abbrev pub at_each : {A C : Type 0} → (ℕ → A → List C) → ℕ → List A → List C
at_each f n [] = []
at_each f n (x ∷ xs) = f n x ++ at_each f (n + 1) xs

-- where both are there
abbrev pub with_both : {A B C : Type 0} → Option A → Option B → (A → B → List C) → List C
with_both None b f = []
with_both (Some x) None f = []
with_both (Some x) (Some y) f = f x y

-- each old carrier with each new one
abbrev pub carried_each : List ℕ → List ℕ → List Carried
carried_each olds news = flat_map (λ old. map (λ new. record { old = old; new = new }) news) olds

-- what may carry the old order of a statement before another, and the new one of a piece of the other before one of the first
abbrev pub orders_between : Moved → Moved → Side → Side → Orders
orders_between a b one other = record {
  old_shared = shared a.positions b.positions;
  old = carriers a.positions b.positions;
  new_shared = shared other.positions one.positions;
  new = carriers other.positions one.positions;
}

abbrev pub of_accesses : Side → Side → Orders → Access → Access → List Candidate
of_accesses one other o first second =
    map (λ c. record { one = one; other = other; first = first; second = second; orders = o; carried = c }) (carried_each o.old o.new)

-- by the accesses with these numbers, where both pieces have them
unfoldable pub of_pieces : Orders → ℕ → ℕ → Side → Side → List Candidate
of_pieces o i j one other = with_both (slice_get one.accesses i) (slice_get other.accesses j) (of_accesses one other o)

-- over the pieces of the second statement
unfoldable pub of_piece : Moved → Moved → ℕ → ℕ → Side → List Candidate
of_piece a b i j one = flat_map (λ other. of_pieces (orders_between a b one other) i j one other) b.sides

-- over the pieces of both statements
unfoldable pub of_numbers : Moved → Moved → ℕ → ℕ → List Candidate
of_numbers a b i j = flat_map (of_piece a b i j) a.sides

-- by an access of the second statement, if it conflicts with one of the first
abbrev pub of_conflict : Moved → Moved → ℕ → Access → ℕ → Access → List Candidate
of_conflict a b i cell j x = cond (conflict a.how cell i b.how x j) (of_numbers a b i j) []

-- over the accesses of the second statement that conflict with one of the first
unfoldable pub of_access : Moved → Moved → ℕ → Access → List Candidate
of_access a b i cell = at_each (of_conflict a b i cell) 0 b.accesses

-- a candidate with the numbers of its statements and the array that both name
pub record Between : Type 0 where
  pub from : ℕ
  pub to : ℕ
  pub access : Access
  pub candidate : Candidate

abbrev pub IsDecidedBetween : Kernel → Between → Bool → Type 0
IsDecidedBetween k b = IsDecided k b.candidate

-- the dependence of an open candidate
abbrev pub dependence : Between → Dependence
dependence b = record {
  from = b.from;
  to = b.to;
  array = b.access.array;
  old_level = b.candidate.carried.old;
  new_level = b.candidate.carried.new;
}

abbrev pub IsFirstDependence : Kernel → List Between → Option Dependence → Type 0
IsFirstDependence k = IsFirst (IsDecidedBetween k) dependence

abbrev pub between : ℕ → ℕ → Access → Candidate → Between
between from to cell c = record { from = from; to = to; access = cell; candidate = c }

-- by an access of the first statement
abbrev pub of_cell : ℕ → Moved → ℕ → Moved → ℕ → Access → List Between
of_cell from a to b i cell = map (between from to cell) (of_access a b i cell)

-- over the accesses of the first statement
unfoldable pub of_statements : ℕ → Moved → ℕ → Moved → List Between
of_statements from a to b = at_each (of_cell from a to b) 0 a.accesses

-- with another statement, where the command applies to one of the two
abbrev pub of_other : ℕ → Moved → ℕ → Moved → List Between
of_other from a to b = cond (a.applies || b.applies) (of_statements from a to b) []

-- with all statements
unfoldable pub of_statement : List Moved → ℕ → Moved → List Between
of_statement all from a = at_each (of_other from a) 0 all

-- of all statements
unfoldable pub candidates : List Moved → List Between
candidates all = at_each (of_statement all) 0 all
