use Rattle.std.proofs.Common.{◌+◌, length}
use Rattle.std.specs.Prelude.{IsTrue}
use Rattle.c_tree.specs.declared.data.Expr.{size-Expr}
use Rattle.nest_core.specs.Shapes.{is_body_over}
use Rattle.source_check.proofs.nest.+body.Given as goal

abbrev pub invariant-loop-i : goal.invariant-loop-i
invariant-loop-i l = IsTrue (is_body_over (length l.vars.names.now + length l.vars.reads.now) l.whole)

abbrev pub decreases-body : goal.decreases-body
decreases-body l = size-Expr l.value.now
