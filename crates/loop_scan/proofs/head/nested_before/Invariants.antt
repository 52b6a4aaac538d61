use Rattle.std.proofs.Common.{◌≡◌, length}
use Rattle.loop_scan.specs.Nested.{nested_before}
use Rattle.loop_scan.proofs.head.nested_before.Given as goal

abbrev pub invariant-loop-tree : goal.invariant-loop-tree
invariant-loop-tree l = nested_before l.greatest l.rest l.all ≡ nested_before l.greatest l.initial.rest l.initial.all

abbrev pub decreases-loop-tree : goal.decreases-loop-tree
decreases-loop-tree l = length l.rest
