-- Two statements at points of theirs, and the point of the system that both share.
use Rattle.std.specs.Prelude.{◌≡◌, ℕ, zero, suc, ◌+◌, ◌≤◌, List, ◌++◌, map, length, ℤ}
use Rattle.int_rows.specs.declared.row.Aff.{Aff}
use Rattle.nest_tree.specs.declared.body.Access.{Access}
use Rattle.nest_tree.specs.declared.kernel.Kernel.{Kernel}
use Rattle.nest_tree.specs.declared.kernel.Nest.{Nest}
use Rattle.nest_tree.specs.Carriers.{AgreeOn, IsSmallerAt}
use Rattle.nest_tree.specs.Lists.{IsIn}
use Rattle.nest_tree.specs.Forms.{value, Meets}
use Rattle.nest_tree.specs.Kernels.{point, IsPointOf}
use Rattle.nest_tree.specs.Terms.{Input}
use Rattle.nest_systems.specs.Cells.{cells, subscripts}
use Rattle.nest_systems.specs.Statements.{plain_row}
use Rattle.point_laws.specs.Own.{AreOver, AreFound, chosen_values, end_values}
use Rattle.point_laws.specs.Ranges.{IsRanged, HasNoCounts}
use Rattle.point_laws.specs.Values.{AreSmall}
use Rattle.depend_test.specs.Orders.{order_rows}
use Rattle.depend_test.specs.Pairs.{pair_ends, pair_vars, pair_rows}
use Rattle.depend_test.specs.Sides.{IsSideOf}
use Rattle.depend_test.specs.Systems.{IsPair, subscript_rows}
use Rattle.depend_test.specs.declared.pair.Pair.{Pair}
use Rattle.depend_test.specs.declared.side.Side.{Side}

-- a statement, with forms of its old levels, at a point of it where all its terms find their cells
pub record IsSideAt (k : Kernel) (i : Input) (n : Nest) (old : List Aff) (s : Side) (vs : List ℤ) : Type 0 where
  pub side : IsSideOf k.head k.made n old s
  pub over : AreOver (length k.head.params + length vs) n.terms (map plain_row n.rows)
  pub forms : (f : Aff) → IsIn f (subscripts (cells n) ++ old) → length f.coefs ≤ length k.head.params + length vs + length n.terms
  pub deep : length vs ≡ length n.levels
  pub at : IsPointOf i n vs
  pub found : AreFound i n.terms vs
  pub small : AreSmall (length k.head.params + length vs + length s.instance.terms) s.instance.ranges

-- the values of the variables of a pair's system: the parameters, the levels of both, the terms of both, and the reads at the very end
abbrev pub pair_point : Input → Nest → Nest → List ℤ → List ℤ → Side → Side → List ℤ
pair_point i n m vs us one other =
    i.params ++ (vs ++ (us ++ (chosen_values i n.terms vs one.instance.chosen.order ++ (chosen_values i m.terms us other.instance.chosen.order ++ end_values i (pair_ends one.instance other.instance)))))

-- two statements at points of theirs, in one system, on an input whose arrays keep their ranges
pub record ArePairAt (k : Kernel) (i : Input) (n m : Nest) (fs gs : List Aff) (one other : Side) (w : Pair) (vs us : List ℤ) : Type 0 where
  pub ranged : IsRanged k.head k.made i
  pub counts : HasNoCounts k.head k.made
  pub first : IsSideAt k i n fs one vs
  pub second : IsSideAt k i m gs other us
  pub pair : IsPair k one other w

-- then all rows of the pair's system are met that speak of no order
abbrev pub PairIsMet : Type 0
PairIsMet =
    (k : Kernel) (i : Input) (n m : Nest) (fs gs : List Aff) (one other : Side) (w : Pair) (vs us : List ℤ) → ArePairAt k i n m fs gs one other w vs us
    → AreSmall (pair_vars (length k.head.params) one.instance other.instance) (pair_rows k one.instance other.instance w.first w.second)
    → Meets (pair_point i n m vs us one other) (pair_rows k one.instance other.instance w.first w.second)

-- and the rows that two of their accesses name one cell, where they have equal subscripts
abbrev pub SubscriptsAreMet : Type 0
SubscriptsAreMet =
    (k : Kernel) (i : Input) (n m : Nest) (fs gs : List Aff) (one other : Side) (w : Pair) (vs us : List ℤ) (a b : Access) → ArePairAt k i n m fs gs one other w vs us
    → IsIn a (cells n) → IsIn b (cells m) → map (value (point i n vs)) a.at ≡ map (value (point i m us)) b.at
    → AreSmall w.first.vars (subscript_rows w a b) → Meets (pair_point i n m vs us one other) (subscript_rows w a b)

-- level values stand before others, as a carrier says: a shared loop, counted from 1, or, by 0, the text, where they agree at all shared loops
abbrev pub StandBefore : ℕ → ℕ → List ℤ → List ℤ → Type 0
StandBefore zero shared vs us = AgreeOn shared vs us
StandBefore (suc level) shared vs us = IsSmallerAt (suc level) vs us

-- and the rows of the old order and of the new one, where the level values have these orders
abbrev pub OrdersAreMet : Type 0
OrdersAreMet =
    (k : Kernel) (i : Input) (n m : Nest) (fs gs : List Aff) (one other : Side) (w : Pair) (vs us : List ℤ) (carrier shared : ℕ) → ArePairAt k i n m fs gs one other w vs us
    → (StandBefore carrier shared (map (value (point i n vs)) fs) (map (value (point i m us)) gs)
    → AreSmall w.first.vars (order_rows w.first.vars carrier shared w.first_old w.second_old) → Meets (pair_point i n m vs us one other) (order_rows w.first.vars carrier shared w.first_old w.second_old))
    × (StandBefore carrier shared us vs
    → AreSmall w.first.vars (order_rows w.first.vars carrier shared w.second_new w.first_new) → Meets (pair_point i n m vs us one other) (order_rows w.first.vars carrier shared w.second_new w.first_new))
