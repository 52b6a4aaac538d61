use Rattle.std.proofs.Common.{length, ap, ◌∙◌}
use Rattle.c_meaning.specs.Run.{run}
use Rattle.c_walk.specs.Ready.{are_ready}
use Rattle.c_walk.specs.State.{State}
use Rattle.c_run.specs.declared.fault.Section.TheVariants.{Inspector}
use Rattle.c_run.specs.Inspects.{rescoped}
use Rattle.c_run.specs.Store.{scope_of_store, sight_of_store, state_of_store}
use Rattle.c_run.proofs.Ends.{refuses_at}
use Rattle.c_run.proofs.Signatures.{still_there}
use Rattle.c_run.proofs.sections.inspect_on.Goals as goal

pub returns-in-Ok-clause-ready : goal.returns-in-Ok-clause-ready
returns-in-Ok-clause-ready c = λ ok.
    let p = c.args.program.now in let h = c.requires in
    let does = c.in-Ok.ensures.does in
    record {
      loops = ap (λ (s : State). length s.outer) does.does.frame ∙ h.loops;
      fits = ap (λ k. are_ready p.executor k 0) does.scope ∙ h.executor;
      simple = h.simple;
      few = h.few_behind;
      arrays = still_there p (scope_of_store c.args.store.now) (scope_of_store c.inspect.new.store) does.scope h.arrays;
    }

pub returns-in-Fault-clause-ends : goal.returns-in-Fault-clause-ends
returns-in-Fault-clause-ends c =
    let old = state_of_store c.args.store.now in
    refuses_at Inspector (run c.args.program.now.inspector (sight_of_store c.args.store.now).value) old (rescoped old.scope (state_of_store c.inspect.new.store)) c.in-Err.halt c.in-Fault.place c.in-Fault.fault c.fault_of.result c.in-Fault.is c.fault_of.ensures c.in-Err.ensures.does.does
