use Rattle.std.specs.Prelude.{Err}
use Rattle.std.proofs.lemmas.Result.{err_from_is_err_and}
use Rattle.compact.proofs.Found.{found-below, matrix-below, level-fault}
use Rattle.compact.proofs.command.compact_by.Goals as goal

pub returns-in_err-test-clause-faults : goal.returns-in_err-test-clause-faults
returns-in_err-test-clause-faults c =
    let p = err_from_is_err_and c.from_residual-in_err-test.result c.from_residual-in_err-test.ensures.1 in
    rw (p.1, p.2)
    (level-fault c.args.kernel.now c.args.statement c.args.level c.args.prefix c.args.plan.now c.requires.plan {A = Unit {0}} c.in_ok-nest.nest (Err c.in_err-test.field-0.0) c.in_ok-nest.ensures.new c.in_ok-nest.ensures.within
    c.in_err-test.ensures.faults)

pub enter-requires-clause-statement : goal.enter-requires-clause-statement
enter-requires-clause-statement c = let t = c.requires.plan.target in found-below c.args.kernel.now.nests c.args.statement t.nest t.found

pub enter-requires-clause-matrix : goal.enter-requires-clause-matrix
enter-requires-clause-matrix c = matrix-below c.args.kernel.now c.args.statement c.args.level c.args.plan.now.target c.requires.shaped c.requires.plan.target
