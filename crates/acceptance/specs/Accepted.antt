-- Which sources are accepted. A source is refused for the first of: an inspector; an extent that isn't affine in the parameters;
-- an expression that isn't affine or passes a limit, in the order of the text; an access that may lie outside its array, in the
-- order of the text. The kernel of any other source has one statement for each assignment.
use Rattle.std.specs.Prelude.{Bool, is_some, List, [], ◌∷◌, ◌++◌, map, Some, None, Result, Ok, Err}
use Rattle.std.specs.List.{list_all}
use Rattle.c_tree.specs.declared.program.Array.{Array}
use Rattle.c_tree.specs.declared.program.Program.{Program}
use Rattle.c_judge.specs.Limits.{count_of}
use Rattle.c_judge.specs.declared.limits.Counted.TheVariants as counted
use Rattle.source_limits.specs.declared.fault.Part.TheVariants as part
use Rattle.source_limits.specs.declared.fault.SourceWhat.TheVariants as what
use Rattle.source_limits.specs.declared.fault.SourceFault.{SourceFault}
use Rattle.source_limits.specs.declared.fault.SourceFault.TheVariants.{NotAffine}
use Rattle.source_limits.specs.Heads.{signature_of}
use Rattle.nest_tree.specs.declared.kernel.Kernel.{Kernel}
use Rattle.nest_tree.specs.declared.kernel.Nest.{Nest}
use Rattle.nest_systems.specs.Extents.{extent_form}
use Rattle.executors.specs.Executors.{executor_of}
use Rattle.acceptance.specs.Visits.{Asked, bounds, test, assignment, Visit, visits, outside}
use Rattle.acceptance.specs.Judged.{Judged, first, unless, at_most}
use Rattle.acceptance.specs.Limits.{limits}
use Rattle.acceptance.specs.Inside.{accesses}
use Rattle.acceptance.specs.Statements.{statement}

-- each extent is a form of the parameters
abbrev pub has_affine_extents : Program → Array → Bool
has_affine_extents p a = list_all (λ x. is_some (extent_form p.params x)) a.extents

-- all that is judged in the executor
abbrev pub asked_in : Program → List Visit
asked_in p = visits (executor_of p.executor) outside

-- the statement of an assignment that is judged
abbrev pub statement_of : Program → Visit → Asked → List Nest
statement_of p v (bounds x low high) = []
statement_of p v (test t) = []
statement_of p v (assignment target how value) = statement p v.around v.positions target how value ∷ []

-- the statements, in the order of the text
abbrev pub statements : Program → List Visit → List Nest
statements p [] = []
statements p (v ∷ vs) = statement_of p v v.asked ++ statements p vs

-- the kernel of a source
abbrev pub kernel_of : Program → Kernel
kernel_of p = record { head = signature_of p; made = []; nests = statements p (asked_in p) }

-- the first thing that is said against a source
abbrev pub refusal : Program → Judged
refusal p = first (
    at_most 0 what.Inspector (count_of counted.All p.inspector)
    ∷ unless (list_all (has_affine_extents p) p.arrays) (NotAffine 0 part.Subscript)
    ∷ first (map (limits p) (asked_in p))
    ∷ first (map (accesses p) (asked_in p))
    ∷ [])

abbrev pub unless_refused : Judged → Kernel → Result Kernel SourceFault
unless_refused (Some f) k = Err f
unless_refused None k = Ok k

-- the kernel of an accepted source, or the first fault
unfoldable pub accepted : Program → Result Kernel SourceFault
accepted p = unless_refused (refusal p) (kernel_of p)
