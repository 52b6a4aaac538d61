-- What is refused by the names or by the tests, is refused by the padding.
use Rattle.std.proofs.Common.{◌≡◌, ℕ, List, [], ◌∷◌, inl, inr}
use Rattle.std.specs.Prelude.{Option, Some, None, Result, Ok, Err}
use Rattle.chill_base.specs.declared.faults.Stop.{Stop}
use Rattle.chill_base.specs.declared.faults.Stop.TheVariants.{Refused, NoMemory}
use Rattle.nest_tree.specs.declared.fault.CommandFault.{CommandFault}
use Rattle.nest_tree.specs.declared.fault.CommandFault.TheVariants.{Shape, Depends, Overflow}
use Rattle.nest_tree.specs.declared.fault.ShapeWhy.{ShapeWhy}
use Rattle.nest_tree.specs.declared.kernel.Kernel.{Kernel}
use Rattle.depend_test.specs.Tested.{OnRefused}
use Rattle.pad_layouts.specs.declared.plan.Plan.{Plan}
use Rattle.compact_pad.specs.Answers.{IsPadFault}
use Rattle.compact_pad.specs.Names.{name_shape}
use Rattle.compact_pad.specs.Tested.{tested_levels, IsLevelsFault}

-- no test ends in a shape
no-shape : (k : Kernel) (s : ℕ) (levels : List ℕ) (why : ShapeWhy) → IsLevelsFault k s levels (Shape why) → ⊥
no-shape k s [] why f = f
no-shape k s (level ∷ levels) why f = elim f [ inl h ↦ h | inr h ↦ no-shape k s levels why h.1 ]

pub tested-fault : {A : Type 0} (k : Kernel) (s : ℕ) (p : Plan) (name : List ℕ) (r : Result A (Stop CommandFault)) → name_shape k p.layout name ≡ None
    → OnRefused r (IsLevelsFault k s (tested_levels p.layout)) → OnRefused r (IsPadFault k s p name)
tested-fault k s p name (Ok x) e f = tt
tested-fault k s p name (Err (Refused (Shape why))) e f = absurd (no-shape k s (tested_levels p.layout) why f)
tested-fault k s p name (Err (Refused (Depends d))) e f = (e, f)
tested-fault k s p name (Err (Refused (Overflow x))) e f = (e, f)
tested-fault k s p name (Err NoMemory) e f = tt
