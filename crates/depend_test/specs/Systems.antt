-- The systems in which two pieces stand.
use Rattle.std.specs.Prelude.{◌≡◌, ℕ, Bool, true, List, [], ◌∷◌, map, length, Any, Ok}
use Rattle.std.specs.List.{AllByRecursion}
use Rattle.int_rows.specs.declared.row.Row.{Row}
use Rattle.int_rows.specs.Exclusion.{exclusion}
use Rattle.int_rows.specs.Systems.{Rows, IsRowOf, IsSystem, excluded}
use Rattle.nest_tree.specs.declared.kernel.Kernel.{Kernel}
use Rattle.nest_tree.specs.declared.body.Access.{Access}
use Rattle.nest_systems.specs.Extending.{extended}
use Rattle.nest_systems.specs.Placing.{placed, seated_levels}
use Rattle.nest_systems.specs.Seating.{AreSeats}
use Rattle.depend_test.specs.Pairs.{first_places, second_places, pair_ends, pair_system}
use Rattle.depend_test.specs.Orders.{equal_rows, order_rows}
use Rattle.depend_test.specs.declared.side.Side.{Side}
use Rattle.depend_test.specs.declared.pair.Pair.{Pair}
use Rattle.depend_test.specs.declared.first.Carried.{Carried}
use Rattle.depend_test.specs.declared.first.Orders.{Orders}

-- two pieces in one system, with the forms of which orders are made: their old levels, and their own
pub record IsPair (k : Kernel) (one other : Side) (p : Pair) : Type 0 where
  pub first : AreSeats one.instance (first_places (length k.head.params) one.instance other.instance) (pair_ends one.instance other.instance) p.first
  pub second : AreSeats other.instance (second_places (length k.head.params) one.instance other.instance) (pair_ends one.instance other.instance) p.second
  pub system : p.system ≡ pair_system k one.instance other.instance p.first p.second
  pub first_old : p.first_old ≡ map (placed p.first) one.old
  pub second_old : p.second_old ≡ map (placed p.second) other.old
  pub first_new : p.first_new ≡ seated_levels p.first
  pub second_new : p.second_new ≡ seated_levels p.second

-- the rows that two accesses have equal subscripts
abbrev pub subscript_rows : Pair → Access → Access → List Row
subscript_rows p a b = equal_rows p.first.vars (length a.at) (map (placed p.first) a.at) (map (placed p.second) b.at)

-- two pieces in one system, and the rows that two of their accesses name one cell
pub record SameCell (k : Kernel) (one other : Side) (a b : Access) : Type 0 where
  pub pair : Pair
  pub equal : List Row
  pub is_pair : IsPair k one other pair
  pub are_equal : equal ≡ subscript_rows pair a b

abbrev pub cell_system : {k : Kernel} {one other : Side} {a b : Access} → SameCell k one other a b → Rows
cell_system w = extended w.pair.system w.equal

-- a system with the old order of the first piece before the second, as a carrier says
abbrev pub with_old : Rows → Pair → ℕ → ℕ → Rows
with_old s p shared carrier = extended s (order_rows p.first.vars carrier shared p.first_old p.second_old)

-- a system with the new order of the second piece before the first
abbrev pub with_new : Rows → Pair → ℕ → ℕ → Rows
with_new s p shared carrier = extended s (order_rows p.first.vars carrier shared p.second_new p.first_new)

-- a system with both orders
abbrev pub with_orders : Rows → Pair → Orders → Carried → Rows
with_orders s p o c = with_new (with_old s p o.old_shared c.old) p o.new_shared c.new

-- a system, all whose numbers are within the limit of set work, is decided by its exclusion: true, it is excluded; false, it is open
abbrev pub Decides : Rows → Bool → Type 0
Decides s b = IsSystem s × (excluded s ≡ Ok b)

abbrev pub DecidesNew : Rows → Pair → ℕ → ℕ → Bool → Type 0
DecidesNew s p shared carrier = Decides (with_new s p shared carrier)

abbrev pub DecidesOrders : Rows → Pair → Orders → Carried → Bool → Type 0
DecidesOrders s p o c = Decides (with_orders s p o c)

-- one of the equalities, all whose numbers are within that limit, is excluded alone
abbrev pub HasExcluded : ℕ → List Row → Type 0
HasExcluded vars rows = AllByRecursion (IsRowOf vars) rows × Any (λ r. exclusion vars (r ∷ []) ≡ Ok true) rows
