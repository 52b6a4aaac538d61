-- The system of two accesses that name one cell is met where they do.
use Rattle.std.proofs.Common.{◌≡◌, ℕ, List, map, ◌∙◌, sym, ap, subst, ℤ}
use Rattle.int_rows.specs.declared.row.Aff.{Aff}
use Rattle.int_rows.specs.Systems.{Rows}
use Rattle.nest_tree.specs.declared.body.Access.{Access}
use Rattle.nest_tree.specs.declared.kernel.Kernel.{Kernel}
use Rattle.nest_tree.specs.declared.kernel.Nest.{Nest}
use Rattle.nest_tree.specs.Lists.{IsIn}
use Rattle.nest_tree.specs.Forms.{value, Meets}
use Rattle.nest_tree.specs.Kernels.{point}
use Rattle.nest_tree.specs.Terms.{Input}
use Rattle.nest_systems.specs.Cells.{cells}
use Rattle.point_laws.specs.Ranges.{IsRanged, HasNoCounts}
use Rattle.point_laws.specs.Values.{AreSmall}
use Rattle.point_laws.proofs.Values.{meets-append, small-append}
use Rattle.depend_test.specs.Pairs.{pair_rows}
use Rattle.depend_test.specs.Systems.{SameCell, cell_system}
use Rattle.depend_test.specs.declared.side.Side.{Side}
use Rattle.pair_laws.specs.Pairs.{IsSideAt, pair_point, ArePairAt}
use Rattle.pair_laws.proofs.Pairs.{rows-met, cells-met}

module _ (k : Kernel) (i : Input) (n m : Nest) (fs gs : List Aff) (one other : Side) (vs us : List ℤ) (ranged : IsRanged k.head k.made i) (counts : HasNoCounts k.head k.made)
    (first : IsSideAt k i n fs one vs) (second : IsSideAt k i m gs other us) (a b : Access) (w : SameCell k one other a b) where
  pub at : ArePairAt k i n m fs gs one other w.pair vs us
  at = record { ranged = ranged; counts = counts; first = first; second = second; pair = w.is_pair }

  abbrev q : List ℤ
  q = pair_point i n m vs us one other

  abbrev vars : ℕ
  vars = w.pair.first.vars

  -- the variables of the pair's system are those of its first seats
  pub system-vars : w.pair.system.vars ≡ vars
  system-vars = ap (λ (r : Rows). r.vars) w.is_pair.system ∙ sym w.is_pair.first.vars

  system-met : AreSmall vars w.pair.system.rows → Meets q w.pair.system.rows
  system-met s =
      let e : w.pair.system.rows ≡ pair_rows k one.instance other.instance w.pair.first w.pair.second = ap (λ (r : Rows). r.rows) w.is_pair.system in
      subst (Meets q) (sym e)
      (rows-met k i n m fs gs one other w.pair vs us at (subst (λ (v : ℕ). AreSmall v (pair_rows k one.instance other.instance w.pair.first w.pair.second)) w.is_pair.first.vars (subst (AreSmall vars) e s)))

  module _ (x : IsIn a (cells n)) (y : IsIn b (cells m)) (same : map (value (point i n vs)) a.at ≡ map (value (point i m us)) b.at) where
    pub equal-rows-met : AreSmall vars w.equal → Meets q w.equal
    equal-rows-met s = subst (Meets q) (sym w.are_equal) (cells-met k i n m fs gs one other w.pair vs us at a b x y same (subst (AreSmall vars) w.are_equal s))

    pub cell-met : AreSmall vars (cell_system w).rows → Meets q (cell_system w).rows
    cell-met s = let h = small-append vars w.pair.system.rows w.equal s in meets-append q w.pair.system.rows w.equal (system-met h.0) (equal-rows-met h.1)
