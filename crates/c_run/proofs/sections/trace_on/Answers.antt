use Rattle.std.proofs.Common.{Ok, Err}
use Rattle.c_meaning.specs.Run.{run}
use Rattle.c_run.specs.declared.fault.Section.TheVariants.{Executor}
use Rattle.c_trace.specs.Steps.{step_line}
use Rattle.c_run.specs.Store.{state_of_store, scope_of_store, sight_of_store}
use Rattle.c_run.proofs.Ends.{ran, refuses_at, has_memory, still_ready, took_all, took_before, took_front}
use Rattle.c_run.proofs.sections.trace_on.Goals as goal

pub unreachable-requires : goal.unreachable-requires
unreachable-requires g c = has_memory c.args.program.now.executor (sight_of_store c.args.store.now).value (state_of_store c.args.store.now) (state_of_store c.run_statements.new.memory) c.in-Err.halt c.requires.simple c.in-NoMemory.is (ran c.args.program.now.executor (sight_of_store c.args.store.now).value c.new.result (state_of_store c.args.store.now) (state_of_store c.run_statements.new.memory) (Err c.in-Err.halt) c.new.ensures c.in-Err.ensures.does)

pub returns-in-Ok-clause-ready : goal.returns-in-Ok-clause-ready
returns-in-Ok-clause-ready g c = still_ready c.args.program.now (state_of_store c.args.store.now) (state_of_store c.run_statements.new.memory) c.run_statements.ensures.does.frame c.requires

pub returns-in-Fault-clause-ends : goal.returns-in-Fault-clause-ends
returns-in-Fault-clause-ends g c =
    let ends = refuses_at Executor (run c.args.program.now.executor (sight_of_store c.args.store.now).value) (state_of_store c.args.store.now) (state_of_store c.run_statements.new.memory) c.in-Err.halt c.in-Fault.place c.in-Fault.fault c.fault_of.result c.in-Fault.is c.fault_of.ensures (ran c.args.program.now.executor (sight_of_store c.args.store.now).value c.new.result (state_of_store c.args.store.now) (state_of_store c.run_statements.new.memory) (Err c.in-Err.halt) c.new.ensures c.in-Err.ensures.does) in
    (ends.0, ends.1, took_before (step_line (scope_of_store c.args.store.now).data_arrays) c.args.program.now.executor (sight_of_store c.args.store.now).value c.new.result (state_of_store c.args.store.now) (g.S.Sink.state c.args.sink.now) (g.S.Sink.state c.run_statements.new.listener) c.new.ensures c.in-Err.halt c.in-Fault.place c.in-Fault.fault c.in-Fault.is c.in-Err.ensures.told)

pub returns-in-Fault-clause-ready : goal.returns-in-Fault-clause-ready
returns-in-Fault-clause-ready g c = still_ready c.args.program.now (state_of_store c.args.store.now) (state_of_store c.run_statements.new.memory) c.run_statements.ensures.does.frame c.requires

pub returns-in-Ok-clause-ends : goal.returns-in-Ok-clause-ends
returns-in-Ok-clause-ends g c =
    let ends = (ran c.args.program.now.executor (sight_of_store c.args.store.now).value c.new.result (state_of_store c.args.store.now) (state_of_store c.run_statements.new.memory) (Ok c.in-Ok.field-0) c.new.ensures c.in-Ok.ensures.does).ends in
    (ends.0, ends.1, took_all (step_line (scope_of_store c.args.store.now).data_arrays) c.args.program.now.executor (sight_of_store c.args.store.now).value c.new.result (state_of_store c.args.store.now) (g.S.Sink.state c.args.sink.now) (g.S.Sink.state c.run_statements.new.listener) c.new.ensures c.in-Ok.field-0 c.in-Ok.ensures.told)

pub returns-in-WriteFault-clause-ready : goal.returns-in-WriteFault-clause-ready
returns-in-WriteFault-clause-ready g c = still_ready c.args.program.now (state_of_store c.args.store.now) (state_of_store c.run_statements.new.memory) c.run_statements.ensures.does.frame c.requires

pub returns-in-WriteFault-clause-ends : goal.returns-in-WriteFault-clause-ends
returns-in-WriteFault-clause-ends g c = took_front (step_line (scope_of_store c.args.store.now).data_arrays) c.args.program.now.executor (sight_of_store c.args.store.now).value c.new.result (state_of_store c.args.store.now) (g.S.Sink.state c.args.sink.now) (g.S.Sink.state c.run_statements.new.listener) c.new.ensures c.in-Err.halt c.in-WriteFault.is c.in-Err.ensures.told
