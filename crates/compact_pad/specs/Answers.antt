-- How a padding is refused.
use Rattle.std.specs.Prelude.{◌≡◌, ⊤, ℕ, List, Option, Some, None, Result, Ok, Err}
use Rattle.chill_base.specs.declared.faults.Stop.{Stop}
use Rattle.chill_base.specs.declared.faults.Stop.TheVariants.{Refused, NoMemory}
use Rattle.nest_tree.specs.declared.fault.CommandFault.{CommandFault}
use Rattle.nest_tree.specs.declared.fault.CommandFault.TheVariants.{Shape, Depends, Overflow}
use Rattle.nest_tree.specs.declared.fault.ShapeWhy.{ShapeWhy}
use Rattle.nest_tree.specs.declared.kernel.Kernel.{Kernel}
use Rattle.depend_test.specs.Tested.{OnRefused}
use Rattle.pad_layouts.specs.declared.plan.Plan.{Plan}
use Rattle.compact_pad.specs.Names.{name_shape}
use Rattle.compact_pad.specs.Tested.{tested_levels, IsLevelsFault}

-- the shape comes where there is one, and where there is none, what comes is Ok
abbrev pub Judges : {A : Type 0} → Option ShapeWhy → Result A (Stop ShapeWhy) → Type 0
Judges shape (Ok x) = shape ≡ None
Judges shape (Err (Refused why)) = shape ≡ Some why
Judges shape (Err NoMemory) = ⊤

-- the names are judged, and then the levels are tested
abbrev pub IsPadFault : Kernel → ℕ → Plan → List ℕ → CommandFault → Type 0
IsPadFault k s p name (Shape why) = name_shape k p.layout name ≡ Some why
IsPadFault k s p name (Depends d) = (name_shape k p.layout name ≡ None) × IsLevelsFault k s (tested_levels p.layout) (Depends d)
IsPadFault k s p name (Overflow e) = (name_shape k p.layout name ≡ None) × IsLevelsFault k s (tested_levels p.layout) (Overflow e)

-- where there is no plan, its shape is answered; where there is one, a fault is one of its names or tests
abbrev pub AnswersFirst : Kernel → ℕ → List ℕ → Result Plan ShapeWhy → Result (Unit {0}) (Stop CommandFault) → Type 0
AnswersFirst k s name (Err why) r = r ≡ Err (Refused (Shape why))
AnswersFirst k s name (Ok p) r = OnRefused r (IsPadFault k s p name)
