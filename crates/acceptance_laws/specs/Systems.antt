-- The systems that acceptance judges by are met at points, wherever the arrays keep their ranges.
use Rattle.std.specs.Prelude.{◌≡◌, ◌≤◌, List, [], ◌++◌, ℤ, map, length, Some}
use Rattle.std.specs.List.{AllByRecursion}
use Rattle.c_tree.specs.declared.program.Program.{Program}
use Rattle.int_rows.specs.declared.row.Aff.{Aff}
use Rattle.source_limits.specs.declared.reads.Read.{Read}
use Rattle.c_meaning.specs.Names.{Name, line}
use Rattle.c_meaning.specs.Value.{Sight, cell_seen}
use Rattle.c_meaning.specs.Listing.{Scene}
use Rattle.nest_tree.specs.Forms.{value}
use Rattle.nest_tree.specs.Terms.{Input}
use Rattle.nest_laws.specs.Acts.{three}
use Rattle.point_laws.specs.Ranges.{IsRanged}
use Rattle.acceptance.specs.Around.{loop_names}
use Rattle.acceptance.specs.Forms.{Vars}
use Rattle.acceptance.specs.Inside as judged
use Rattle.acceptance.specs.Rows.{rows_in}
use Rattle.acceptance_laws.specs.Formed.{point}
use Rattle.acceptance_laws.specs.Rows.{IsMet, SystemIsMet}

-- what systems speak of in a scene: the parameters in the order of the signature, and the cells of the index arrays, none outside an array
abbrev pub seen : Program → Scene → Input
seen p c = record { params = map c.sight.value p.params; cells = λ a at. cell_seen c.sight a (three at) }

-- what is judged has the names of its sight: the parameters, the loops around, and further ones
pub record IsJudgedBy (s : judged.Sight) (v : Vars) : Type 0 where
  pub inner : List Name
  pub names : v.names ≡ s.head.params ++ (loop_names s.around ++ inner)
  pub same : s.names ≡ v.names

-- each read's form is over the names
abbrev pub HasTermsOf : Vars → Type 0
HasTermsOf v = AllByRecursion (λ (r : Read). length r.at.coefs ≤ length v.names) v.reads

-- the read finds its cell
abbrev pub Finds : Sight → List Name → Read → Type 0
Finds d names r = (w : ℤ) × (cell_seen d r.array (line (value (map d.value names) r.at)) ≡ Some w)

-- a sight in the loops of a scene: it sees the same arrays and parameters
pub record IsSightIn (p : Program) (c : Scene) (d : Sight) : Type 0 where
  pub arrays : d ≡ record { value = d.value; extents = c.sight.extents; index = c.sight.index }
  pub params : map d.value p.params ≡ map c.sight.value p.params

-- where the rows of what stands around hold and all reads find their cells, the system of what is known there has a point
abbrev pub RangedSystemsAreMet : Type 0
RangedSystemsAreMet =
    (c : Scene) (s : judged.Sight) (v : Vars) (f : Aff) (d : Sight) → IsRanged s.head [] (seen s.head c) → IsJudgedBy s v → HasTermsOf v → IsSightIn s.head c d
    → AllByRecursion (IsMet d v) (rows_in (length s.head.params) v 0 s.around) → AllByRecursion (Finds d v.names) v.reads → SystemIsMet s v f (point d v)
