use Rattle.std.proofs.Common.{refl}
use Rattle.std.specs.Prelude.{Err}
use Rattle.nest_tree.specs.declared.kernel.Nest.{Nest}
use Rattle.compact.proofs.Found.{found-at, new-found, deep-fault, limit-fault}
use Rattle.compact.proofs.command.new_statement.Goals as goal

pub returns-in-Ok : goal.returns-in-Ok
returns-in-Ok c =
    let k = c.args.kernel.now in
    let old = c.index-as_slice-statement.result in
    let found = found-at k.nests c.args.statement old c.requires.target.nest c.requires.target.found (rw c.as_slice.ensures at c.index-as_slice-statement.is) in
    let e = c.in-Ok.ensures in
    record {
      new = new-found k c.args.statement c.args.level c.args.plan.now old found c.in-Ok.new c.within.result e.gives e.shaped c.within.ensures.value;
      within = c.within.ensures.within;
      faults = deep-fault k c.args.statement c.args.level c.args.plan.now old found c.in-Ok.new c.within.result e.gives c.within.ensures.faults;
    }

pub returns-in-Err-clause-faults : goal.returns-in-Err-clause-faults
returns-in-Err-clause-faults c =
    let k = c.args.kernel.now in
    let old = c.index-as_slice-statement.result in
    let found = found-at k.nests c.args.statement old c.requires.target.nest c.requires.target.found (rw c.as_slice.ensures at c.index-as_slice-statement.is) in
    limit-fault k c.args.statement c.args.level c.args.plan.now old found {A = Nest} c.in-Err.stop (Err c.overflow.result) c.in-Err.ensures.gives (rw c.overflow.ensures refl)
