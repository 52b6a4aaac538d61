-- What rows imply holds wherever they are met.
use Rattle.std.specs.Prelude.{◌≡◌, ◌+◌, ◌≤◌, true, List, [], length, ℤ, pos, ◌≤ℤ◌}
use Rattle.c_tree.specs.declared.program.Program.{Program}
use Rattle.int_rows.specs.declared.row.Aff.{Aff}
use Rattle.int_rows.specs.declared.row.Row.{Row}
use Rattle.nest_tree.specs.declared.kernel.Term.{Term}
use Rattle.nest_tree.specs.Forms.{value, Meets}
use Rattle.nest_tree.specs.Terms.{Input}
use Rattle.point_laws.specs.Own.{AreOver, AreFound, point_at}
use Rattle.point_laws.specs.Ranges.{IsRanged}
use Rattle.scanning.specs.Projections.{is_implied}

-- where rows over parameters, levels and terms imply that a form is at least 0, it is: on each input whose arrays keep their ranges, and at all level values at which the rows are met and the terms find their cells
abbrev pub ImpliedHolds : Type 0
ImpliedHolds =
    (head : Program) (i : Input) (terms : List Term) (rows : List Row) (f : Aff) (vs : List ℤ) → IsRanged head [] i → AreOver (length head.params + length vs) terms rows
    → length f.coefs ≤ length head.params + length vs + length terms → Meets (point_at i terms vs) rows → AreFound i terms vs
    → is_implied head [] (length vs) terms rows f ≡ true → pos 0 ≤ℤ value (point_at i terms vs) f
