-- Where a candidate is excluded, no two instances name one cell and change their order.
use Rattle.std.proofs.Common.{◌≡◌, ℕ, zero, suc, ◌<◌, Bool, true, List, [], ◌∷◌, ◌++◌, map, length, refl, ◌∙◌, ap, subst, arith, ℤ}
use Rattle.std.specs.Prelude.{slice_index_or, Ok}
use Rattle.int_rows.specs.declared.row.Aff.{Aff}
use Rattle.int_rows.specs.declared.row.Row.{Row}
use Rattle.int_rows.proofs.Following.{no_point}
use Rattle.int_rows.proofs.Excluded.{excluded_has_no_point}
use Rattle.nest_tree.specs.declared.kernel.Kernel.{Kernel}
use Rattle.nest_tree.specs.declared.kernel.Nest.{Nest}
use Rattle.nest_tree.specs.Lists.{IsIn}
use Rattle.nest_tree.specs.Forms.{value, Meets, MeetsRow}
use Rattle.nest_tree.specs.Kernels.{point}
use Rattle.nest_tree.specs.Terms.{Input}
use Rattle.nest_systems.specs.Cells.{cells}
use Rattle.point_laws.specs.Ranges.{IsRanged, HasNoCounts}
use Rattle.point_laws.specs.Values.{AreSmall}
use Rattle.point_laws.proofs.Values.{meets-append, meets-once, small-append}
use Rattle.depend_test.specs.Candidates.{Candidate, IsDecided, whole, alone}
use Rattle.depend_test.specs.Orders.{order_rows}
use Rattle.depend_test.specs.Systems.{SameCell, cell_system, with_orders, HasExcluded}
use Rattle.pair_laws.specs.Pairs.{IsSideAt, StandBefore, pair_point}
use Rattle.pair_laws.specs.Candidates.{ExcludedHasNoInstances}
use Rattle.pair_laws.proofs.Pairs.{old-met, new-met}
use Rattle.pair_laws.proofs.Cells.{at, system-vars, equal-rows-met, cell-met}

-- a row at a place of those that are met
row-met : (q : List ℤ) (rows : List Row) (j : ℕ) (r : Row) → Meets q rows → j < length rows → slice_index_or rows j r ≡ r → MeetsRow q (slice_index_or rows j r)
row-met q [] j r m l e = absurd (omega (arith, l))
row-met q (x ∷ rows) zero r m l e = m.0
row-met q (x ∷ rows) (suc j) r m l e = row-met q rows j r m.1 (omega (arith, l)) e

-- no row of those that are met is excluded alone
none_alone : (vars : ℕ) (q : List ℤ) (rows : List Row) → Meets q rows → HasExcluded vars rows → ⊥
none_alone vars q rows m h =
    let one = h.1 in
    let met : MeetsRow q one.1 = subst (MeetsRow q) one.3 (row-met q rows one.0 one.1 m one.2 one.3) in
    excluded_has_no_point vars (one.1 ∷ []) q one.4 (meets-once q (one.1 ∷ []) (met, tt))

module _ (k : Kernel) (i : Input) (n m : Nest) (fs gs : List Aff) (c : Candidate) (vs us : List ℤ) (ranged : IsRanged k.head k.made i) (counts : HasNoCounts k.head k.made)
    (first : IsSideAt k i n fs c.one vs) (second : IsSideAt k i m gs c.other us) (x : IsIn c.first (cells n)) (y : IsIn c.second (cells m)) (same : map (value (point i n vs)) c.first.at ≡ map (value (point i m us)) c.second.at)
    (old : StandBefore c.carried.old c.orders.old_shared (map (value (point i n vs)) fs) (map (value (point i m us)) gs)) (new : StandBefore c.carried.new c.orders.new_shared us vs) where
  abbrev q : List ℤ
  q = pair_point i n m vs us c.one c.other

  module _ (w : SameCell k c.one c.other c.first c.second) where
    abbrev vars : ℕ
    vars = w.pair.first.vars

    abbrev old_rows : List Row
    old_rows = order_rows vars c.carried.old c.orders.old_shared w.pair.first_old w.pair.second_old

    abbrev new_rows : List Row
    new_rows = order_rows vars c.carried.new c.orders.new_shared w.pair.second_new w.pair.first_new

    parts : AreSmall vars (with_orders (cell_system w) w.pair c.orders c.carried).rows → AreSmall vars (cell_system w).rows × AreSmall vars old_rows × AreSmall vars new_rows
    parts small =
        let a = small-append vars ((cell_system w).rows ++ old_rows) new_rows small in
        let b = small-append vars (cell_system w).rows old_rows a.0 in
        (b.0, b.1, a.1)

    equal-met : AreSmall vars w.equal → Meets q w.equal
    equal-met = equal-rows-met k i n m fs gs c.one c.other vs us ranged counts first second c.first c.second w x y same

    all-met : AreSmall vars (with_orders (cell_system w) w.pair c.orders c.carried).rows → Meets q ((with_orders (cell_system w) w.pair c.orders c.carried).rows)
    all-met small =
        let parts = parts small in
        let there = at k i n m fs gs c.one c.other vs us ranged counts first second c.first c.second w in
        meets-append q ((cell_system w).rows ++ old_rows) new_rows
        (meets-append q (cell_system w).rows old_rows (cell-met k i n m fs gs c.one c.other vs us ranged counts first second c.first c.second w x y same parts.0)
        (old-met k i n m fs gs c.one c.other w.pair vs us there c.carried.old c.orders.old_shared old parts.1))
        (new-met k i n m fs gs c.one c.other w.pair vs us there c.carried.new c.orders.new_shared new parts.2)

  excluded-none : (b : Bool) → b ≡ true → IsDecided k c b → ⊥
  excluded-none _ e (whole b w d) =
      let rows : List Row = (with_orders (cell_system w) w.pair c.orders c.carried).rows in
      let small : AreSmall w.pair.first.vars rows = subst (λ (v : ℕ). AreSmall v rows) (system-vars k i n m fs gs c.one c.other vs us ranged counts first second c.first c.second w) (d.0).each in
      no_point (with_orders (cell_system w) w.pair c.orders c.carried) q (d.1 ∙ ap Ok e) (meets-once q rows (all-met w small))
  excluded-none _ e (alone w h) = none_alone w.pair.first.vars q w.equal (equal-met w h.0) h

pub no_instances : ExcludedHasNoInstances
no_instances k i n m fs gs c vs us ranged counts decided first second x y same old new = excluded-none k i n m fs gs c vs us ranged counts first second x y same old new true refl decided
