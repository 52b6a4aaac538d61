use Rattle.std.proofs.Common.{Err}
use Rattle.c_meaning.specs.Run.{run}
use Rattle.c_run.specs.declared.fault.Section.TheVariants.{Executor}
use Rattle.c_run.specs.Store.{state_of_store, sight_of_store}
use Rattle.c_run.proofs.Ends.{ran, refuses_at, has_memory, still_ready}
use Rattle.c_run.proofs.sections.execute_on.Goals as goal

pub unreachable-requires : goal.unreachable-requires
unreachable-requires c = has_memory c.args.program.now.executor (sight_of_store c.args.store.now).value (state_of_store c.args.store.now) (state_of_store c.run_statements.new.memory) c.in-Err.halt c.requires.simple c.in-NoMemory.is (ran c.args.program.now.executor (sight_of_store c.args.store.now).value c.new.result (state_of_store c.args.store.now) (state_of_store c.run_statements.new.memory) (Err c.in-Err.halt) c.new.ensures c.in-Err.ensures.does)

pub returns-in-Ok-clause-ready : goal.returns-in-Ok-clause-ready
returns-in-Ok-clause-ready c = still_ready c.args.program.now (state_of_store c.args.store.now) (state_of_store c.run_statements.new.memory) c.run_statements.ensures.does.frame c.requires

pub returns-in-Fault-clause-ends : goal.returns-in-Fault-clause-ends
returns-in-Fault-clause-ends c = refuses_at Executor (run c.args.program.now.executor (sight_of_store c.args.store.now).value) (state_of_store c.args.store.now) (state_of_store c.run_statements.new.memory) c.in-Err.halt c.in-Fault.place c.in-Fault.fault c.fault_of.result c.in-Fault.is c.fault_of.ensures (ran c.args.program.now.executor (sight_of_store c.args.store.now).value c.new.result (state_of_store c.args.store.now) (state_of_store c.run_statements.new.memory) (Err c.in-Err.halt) c.new.ensures c.in-Err.ensures.does)

pub returns-in-Fault-clause-ready : goal.returns-in-Fault-clause-ready
returns-in-Fault-clause-ready c = still_ready c.args.program.now (state_of_store c.args.store.now) (state_of_store c.run_statements.new.memory) c.run_statements.ensures.does.frame c.requires
