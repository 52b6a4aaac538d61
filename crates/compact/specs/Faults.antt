-- How the command is refused.
use Rattle.std.specs.Prelude.{◌≡◌, ◌⊎◌, ⊤, ℕ, true, false, List, [], ◌∷◌, length, Option, Some, None, Result, Ok, Err, slice_get}
use Rattle.chill_base.specs.declared.faults.Stop.{Stop}
use Rattle.chill_base.specs.declared.faults.Stop.TheVariants.{Refused}
use Rattle.int_rows.specs.declared.row.Excess.{Excess}
use Rattle.nest_tree.specs.declared.fault.CommandFault.{CommandFault}
use Rattle.nest_tree.specs.declared.fault.CommandFault.TheVariants.{Shape, Depends, Overflow}
use Rattle.nest_tree.specs.declared.fault.ShapeWhy.{ShapeWhy}
use Rattle.nest_tree.specs.declared.fault.ShapeWhy.TheVariants.{Limit}
use Rattle.nest_tree.specs.declared.kernel.Kernel.{Kernel}
use Rattle.nest_tree.specs.declared.kernel.Nest.{Nest}
use Rattle.nest_limits.specs.Brackets.{are_within}
use Rattle.depend_test.specs.Tested.{FindsAt, OnRefused}
use Rattle.compact.specs.declared.plan.Plan.{Plan}
use Rattle.compact.specs.Entered.{IsPlan}
use Rattle.compact.specs.Names.{names_shape}
use Rattle.compact.specs.Shapes.{first_shape, or_else}
use Rattle.compact.specs.Statement.{compacted, counts_of}

-- what is judged before anything is made: the target, and then the names
abbrev pub judged_shape : Kernel → ℕ → ℕ → List ℕ → Option ShapeWhy
judged_shape k s level prefix = or_else (first_shape k s level) (names_shape k prefix)

-- there is a new statement, and it has too many brackets or not
abbrev pub IsDeep : Kernel → Result Nest Excess → Type 0
IsDeep k (Ok n) = are_within (length k.head.params) (n ∷ []) ≡ false
IsDeep k (Err e) = ⊥

abbrev pub IsFlat : Kernel → Result Nest Excess → Type 0
IsFlat k (Ok n) = are_within (length k.head.params) (n ∷ []) ≡ true
IsFlat k (Err e) = ⊥

-- the new statement isn't put in, for this fault: its numbers pass a limit, it has too many brackets, or else the test of the level ends so
abbrev pub IsNewFault : Kernel → ℕ → ℕ → Result Nest Excess → CommandFault → Type 0
IsNewFault k s level new (Shape why) = IsDeep k new × (why ≡ Limit)
IsNewFault k s level new (Depends d) = IsFlat k new × FindsAt k s level (Some d)
IsNewFault k s level new (Overflow e) = (new ≡ Err e) ⊎ IsFlat k new

-- what the parts of that are: a statement with too many brackets, and the end of the test
abbrev pub IsTooDeep : ℕ → Nest → CommandFault → Type 0
IsTooDeep params n (Shape why) = (are_within params (n ∷ []) ≡ false) × (why ≡ Limit)
IsTooDeep params n (Depends d) = ⊥
IsTooDeep params n (Overflow e) = ⊥

abbrev pub IsLevelFault : Kernel → ℕ → ℕ → CommandFault → Type 0
IsLevelFault k s level (Shape why) = ⊥
IsLevelFault k s level (Depends d) = FindsAt k s level (Some d)
IsLevelFault k s level (Overflow e) = ⊤

-- so of the statement that a plan makes of statement s
pub record IsFaultOf (k : Kernel) (s level : ℕ) (p : Plan) (fault : CommandFault) : Type 0 where
  pub old : Nest
  pub found : slice_get k.nests s ≡ Some old
  pub is : IsNewFault k s level (compacted (counts_of (length k.head.params) old level) p.target.group p.names old) fault

-- there is a plan, and this is the fault behind it
pub record IsPlanFault (k : Kernel) (s level : ℕ) (prefix : List ℕ) (fault : CommandFault) : Type 0 where
  pub plan : Plan
  pub is_plan : IsPlan k s level prefix plan
  pub of : IsFaultOf k s level plan fault

-- a shape that is judged is answered; where there is none, a fault is one behind the plan
abbrev pub AnswersFirst : Kernel → ℕ → ℕ → List ℕ → Option ShapeWhy → Result (Unit {0}) (Stop CommandFault) → Type 0
AnswersFirst k s level prefix (Some why) r = r ≡ Err (Refused (Shape why))
AnswersFirst k s level prefix None r = OnRefused r (IsPlanFault k s level prefix)
