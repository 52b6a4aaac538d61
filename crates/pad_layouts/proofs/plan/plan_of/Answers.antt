use Rattle.std.proofs.Common.{◌≡◌, ℕ, sym}
use Rattle.std.specs.Prelude.{Result, Ok, Err, Some, IfOk, slice_get}
use Rattle.nest_tree.specs.declared.fault.ShapeWhy.{ShapeWhy}
use Rattle.nest_tree.specs.declared.kernel.Kernel.{Kernel}
use Rattle.nest_tree.specs.declared.kernel.Nest.{Nest}
use Rattle.pad_layouts.specs.declared.plan.Plan.{Plan}
use Rattle.pad_layouts.specs.Plans.{IsPlan, IsPlanAt}
use Rattle.pad_layouts.proofs.plan.plan_of.Goals as goal

at-if : (k : Kernel) (s : ℕ) (n : Nest) (r : Result Plan ShapeWhy) → slice_get k.nests s ≡ Some n → IfOk r (λ p. IsPlan k.head n p) → IfOk r (λ p. IsPlanAt k s p)
at-if k s n (Ok p) e h = record { nest = n; found = e; plan = h }
at-if k s n (Err w) e h = tt

pub returns-in-Some-clause-is : goal.returns-in-Some-clause-is
returns-in-Some-clause-is c = at-if c.args.kernel.now c.args.statement c.in-Some.nest.now c.nest_plan.result (sym c.in-Some.ensures.value) c.nest_plan.ensures.is
