-- What is compacted of a statement.
use Rattle.std.proofs.Common.{◌≡◌, ℕ, ◌≤◌, length}
use Rattle.std.specs.Prelude.{Some, Result, Ok, Err, IfOk, slice_get}
use Rattle.nest_tree.specs.declared.fault.ShapeWhy.{ShapeWhy}
use Rattle.nest_tree.specs.declared.kernel.Kernel.{Kernel}
use Rattle.nest_tree.specs.declared.kernel.Nest.{Nest}
use Rattle.compact.specs.declared.matching.Target.{Target}
use Rattle.compact.specs.Matching.{target_of}
use Rattle.compact.specs.Shapes.{IsTarget}

pub target-found : (k : Kernel) (s level : ℕ) (n : Nest) (r : Result Target ShapeWhy) → slice_get k.nests s ≡ Some n → IfOk r (λ t. 1 ≤ level) → IfOk r (λ t. level ≤ length n.levels)
    → IfOk r (λ t. target_of level n ≡ Some t) → IfOk r (λ t. n.whole ≡ Some t.matrix) → IfOk r (λ t. IsTarget k s level t)
target-found k s level n (Ok t) found low high is whole = record { nest = n; found = found; low = low; high = high; target = is; whole = whole }
target-found k s level n (Err why) found low high is whole = tt
