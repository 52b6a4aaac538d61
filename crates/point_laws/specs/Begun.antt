-- The rows that all systems have: parameters and extents are at least 0.
use Rattle.std.specs.Prelude.{ℕ, ◌≤◌, List, length, ℤ}
use Rattle.c_tree.specs.declared.program.Program.{Program}
use Rattle.nest_tree.specs.declared.made.Made.{Made}
use Rattle.nest_tree.specs.Forms.{Meets}
use Rattle.nest_tree.specs.Terms.{Input}
use Rattle.nest_systems.specs.Begun.{begun_rows}
use Rattle.point_laws.specs.Ranges.{IsRanged}
use Rattle.point_laws.specs.Values.{BeginsWith}

-- they are met at each point that begins with the parameters
abbrev pub BegunRowsAreMet : Type 0
BegunRowsAreMet = (head : Program) (made : List Made) (i : Input) (vars : ℕ) (q : List ℤ) → IsRanged head made i → length head.params ≤ vars → BeginsWith i.params q → Meets q (begun_rows head vars)
