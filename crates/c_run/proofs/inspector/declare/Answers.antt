use Rattle.std.proofs.Common.{sym, ◌∙◌}
use Rattle.c_run.specs.Store.{loops_of, params_of, tables_of}
use Rattle.c_run.proofs.Inspections.{declares, has_no_memory, has_fault}
use Rattle.c_run.proofs.inspector.declare.Goals as goal

pub returns-in-Ok-declare-clause-does : goal.returns-in-Ok-declare-clause-does
returns-in-Ok-declare-clause-does c = declares (loops_of c.args.store.now.numbers) (params_of c.args.store.now.numbers) (tables_of c.args.store.now.arrays) c.args.name c.args.kind c.args.inner.now c.args.place c.requires.few c.in-Ok.extents (tables_of c.declare.new.self) tt c.requires.new (sym c.in-Ok.is ∙ c.inner_extents.ensures) c.in-Ok-declare.ensures.declared

pub returns-in-Err-declare-clause-does : goal.returns-in-Err-declare-clause-does
returns-in-Err-declare-clause-does c = has_no_memory (loops_of c.args.store.now.numbers) (params_of c.args.store.now.numbers) (tables_of c.args.store.now.arrays) c.args.name c.args.kind c.args.inner.now c.args.place c.requires.few c.in-Ok.extents (tables_of c.declare.new.self) (sym c.in-Ok.is ∙ c.inner_extents.ensures) c.in-Err-declare.ensures.kept

pub returns-in-Err-clause-does : goal.returns-in-Err-clause-does
returns-in-Err-clause-does c = has_fault (loops_of c.args.store.now.numbers) (params_of c.args.store.now.numbers) (tables_of c.args.store.now.arrays) c.args.name c.args.kind c.args.inner.now c.args.place c.requires.few c.in-Err.fault (sym c.in-Err.is ∙ c.inner_extents.ensures)
