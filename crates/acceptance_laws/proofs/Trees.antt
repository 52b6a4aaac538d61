-- Nothing in a program's executor has a fault where all that is judged is safe.
use Rattle.std.proofs.Common.{subst, ◌≡◌, [], refl, sym}
use Rattle.nest_laws.specs.Trees.{Tree, IsFine}
use Rattle.executors.specs.Executors.{executor_of}
use Rattle.executor_laws.proofs.Trees.{tree_is}
use Rattle.acceptance.specs.Visits.{outside}
use Rattle.acceptance_laws.specs.Trees.{SafeExecutorIsFine}
use Rattle.acceptance_laws.proofs.Seen.{safe_fine}

pub safe_executor : SafeExecutorIsFine
safe_executor p c k ok =
    subst (λ (t : Tree). IsFine t []) (sym (tree_is p.executor c)) (safe_fine p.matrices (executor_of p.executor) outside c [] p.params k tt ok refl tt)
