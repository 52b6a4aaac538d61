-- Whether each access is inside its array: the in-bounds systems, in the order of the text.
use Rattle.std.specs.Prelude.{ℕ, suc, ◌-◌, negsuc, Bool, true, false, List, [], ◌∷◌, ◌++◌, map, length, filter, slice_get, Option, Some, None, Result, Ok, Err}
use Rattle.std.specs.List.{range_with_len}
use Rattle.c_tree.specs.declared.index.Cell.{Cell}
use Rattle.c_tree.specs.declared.index.Index.{Index}
use Rattle.c_tree.specs.declared.program.Program.{Program}
use Rattle.int_rows.specs.declared.row.Aff.{Aff}
use Rattle.int_rows.specs.declared.row.Excess.{Excess}
use Rattle.int_rows.specs.Systems.{Rows, pushed, excluded}
use Rattle.int_rows.specs.Exclusion.{when_left}
use Rattle.c_meaning.specs.Names.{Name}
use Rattle.source_limits.specs.declared.fault.Side.{Side}
use Rattle.source_limits.specs.declared.fault.Side.TheVariants.{Below, Past}
use Rattle.source_limits.specs.declared.fault.SourceExcess.TheVariants as excess
use Rattle.source_limits.specs.declared.fault.SourceFault.TheVariants.{Overflow, Outside}
use Rattle.source_limits.specs.declared.reads.Read.{Read}
use Rattle.nest_tree.specs.Forms.{less, number}
use Rattle.nest_systems.specs.declared.instance.Instance.{Instance}
use Rattle.nest_systems.specs.Spans.{unit_form}
use Rattle.nest_systems.specs.Extents.{extent_form}
use Rattle.nest_systems.specs.Statements.{plain_row}
use Rattle.point_laws.specs.Seats.{placed}
use Rattle.acceptance.specs.Expressions.{Expression, plain, plains}
use Rattle.acceptance.specs.Affine.{mentions}
use Rattle.acceptance.specs.Forms.{Vars, form, reads_of, is_among}
use Rattle.acceptance.specs.Visits.{Passed, Asked, bounds, test, assignment, Visit}
use Rattle.acceptance.specs.Around.{loop_names, around_expressions, own_expressions, cells_of}
use Rattle.acceptance.specs.Judged.{Judged, first}
use Rattle.acceptance.specs.Limits.{extents}
use Rattle.acceptance.specs.Systems.{instance_of, seats_of, own_system}
use Rattle.acceptance.specs.Rows.{rows_in, terms_of, vars_count}

-- where an access stands: what stands around, the number of its statement, all names of that statement, and all reads that are named up to its end
pub record Sight : Type 0 where
  pub head : Program
  pub around : List Passed
  pub number : ℕ
  pub names : List Name
  pub reads : List Read

abbrev pub sight_at : Program → Visit → Sight
sight_at p v =
    let names : List Name = p.params ++ (loop_names v.around ++ v.inner) in
    record { head = p; around = v.around; number = v.number; names = names; reads = reads_of p.matrices names (around_expressions v.around ++ own_expressions v.asked) }

-- the variables of a system: the names, and the reads of what stands around and of some expressions
abbrev pub vars_with : Sight → List Expression → Vars
vars_with s es = record { names = s.names; reads = filter (is_among (reads_of s.head.matrices s.names (around_expressions s.around ++ es))) s.reads }

-- the reads as forms
abbrev pub units : Vars → List Aff
units v = map (λ x. unit_form x (vars_count v)) (range_with_len (length v.names) (length v.reads))

-- what is known there, and the reads of a form
abbrev pub known : Sight → Vars → Aff → Instance
known s v f =
    let params : ℕ = length s.head.params in
    instance_of s.head [] (length s.names - params) (terms_of v) 0 (map plain_row (rows_in params v 0 s.around)) (units v ++ f ∷ [])

-- an access lies outside unless the system is excluded
abbrev pub unless_excluded : Sight → Name → Side → Result Bool Excess → Judged
unless_excluded s array side (Ok true) = None
unless_excluded s array side (Ok false) = Some (Outside s.number array side)
unless_excluded s array side (Err x) = Some (Overflow s.number (excess.Set x))

-- the form is nowhere at least 0
abbrev pub nowhere : Sight → Name → Side → Instance → Rows → Aff → Judged
nowhere s array side i system f =
    unless_excluded s array side (when_left (pushed system (record { equal = false; form = placed (seats_of s.head i) f })) excluded)

-- the form is nowhere below 0, and nowhere the extent or more
abbrev pub within_extent : Sight → Name → Instance → Aff → Aff → Result Rows Excess → Judged
within_extent s array i f extent (Err x) = Some (Overflow s.number (excess.Set x))
within_extent s array i f extent (Ok system) = first (nowhere s array Below i system (less (number (negsuc 0)) f) ∷ nowhere s array Past i system (less f extent) ∷ [])

-- a form lies in an extent, where there is one
abbrev pub inside_extent : Sight → Vars → Name → Aff → Option Aff → Judged
inside_extent s v array f None = None
inside_extent s v array f (Some extent) = let i : Instance = known s v f in within_extent s array i f extent (own_system s.head [] i)

-- an extent as a form of the parameters, where there is one
abbrev pub extent_of : Program → Option Index → Option Aff
extent_of p None = None
extent_of p (Some x) = extent_form p.params x

-- the extent of an array at a place
abbrev pub extent_at : Program → Name → ℕ → Option Aff
extent_at p array place = extent_of p (slice_get (extents p.arrays array) place)

-- a subscript, where what it names besides what stands around is found
abbrev pub inside : Sight → List Expression → Name → ℕ → Expression → Judged
inside s es array place e = let v : Vars = vars_with s es in inside_extent s v array (form e v) (extent_at s.head array place)

-- the terms of an expression
abbrev pub terms_inside : Sight → Expression → Judged
terms_inside s e = first (map (λ m. inside s [] m.array 0 m.at) (mentions s.head.matrices e))

-- the subscripts from a place on
abbrev pub each_inside : Sight → Name → ℕ → List Expression → List Judged
each_inside s array place [] = []
each_inside s array place (e ∷ es) = inside s (e ∷ []) array place e ∷ each_inside s array (suc place) es

-- a cell: the terms of all its subscripts, and then each subscript
abbrev pub cell_inside : Sight → Cell → Judged
cell_inside s c = first (map (terms_inside s) (plains c.at) ++ each_inside s c.array 0 (plains c.at))

-- all accesses of what is judged
abbrev pub asked_inside : Sight → Asked → Judged
asked_inside s (bounds x low high) = first (terms_inside s (plain low) ∷ terms_inside s (plain high) ∷ [])
asked_inside s (test t) = first (terms_inside s (plain t.left) ∷ terms_inside s (plain t.right) ∷ [])
asked_inside s (assignment target how value) = first (map (cell_inside s) (target ∷ cells_of value))

-- the first access of a visit that may lie outside
abbrev pub accesses : Program → Visit → Judged
accesses p v = asked_inside (sight_at p v) v.asked
