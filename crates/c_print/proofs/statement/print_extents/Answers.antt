use Rattle.std.proofs.Common.{◌++◌, ◌-◌, refl, arith}
use Rattle.std.specs.Prelude.{codes}
use Rattle.c_print.specs.Statement.{index_text}
use Rattle.c_print.proofs.Pieces.{two}
use Rattle.c_print.proofs.Backwards.{begins, turn, ends}
use Rattle.c_print.proofs.Texts.{further_extents}
use Rattle.c_print.proofs.statement.print_extents.Goals as goal

pub loop-at-init : goal.loop-at-init
loop-at-init c = begins further_extents c.args.extents.now c.args.out.now refl

pub loop-at-preserved : goal.loop-at-preserved
loop-at-preserved c =
    turn further_extents (λ e. codes ", " ++ index_text e) c.args.extents.now (c.loop-at.at - 1) c.loop-at.at c.index-extents-at.result c.args.out.now c.loop-at.out c.put.new.self (λ _ _. refl) c.loop-at.invariant (omega arith) c.index-extents-at.is
    (two (codes ", ") (index_text c.index-extents-at.result) c.loop-at.out c.in_ok-print_index.ensures c.in_ok-put.ensures refl refl)

pub returns : goal.returns
returns c = ends further_extents c.args.extents.now _ _ _ c.loop-at.invariant c.loop-at-test.false
