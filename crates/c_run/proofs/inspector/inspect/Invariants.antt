use Rattle.std.proofs.Common.{◌≡◌, ◌+◌, drop, map, []}
use Rattle.std.specs.Prelude.{IsTrue}
use Rattle.c_meaning.specs.Run.{part, widths, sequence}
use Rattle.c_walk.proofs.Pieces.{Remains}
use Rattle.c_run.specs.Ready.{are_inspectable, scope_behind}
use Rattle.c_run.specs.Inspects.{rescoped}
use Rattle.c_run.specs.Store.{state_of_store, scope_of_store, sight_of_store}
use Rattle.c_run.proofs.inspector.inspect.Given as goal

abbrev pub invariant-loop-statement : goal.invariant-loop-statement
invariant-loop-statement l = record {
  count : l.position + widths (map part (drop l.statement-index l.statement-items)) ≡ widths (map part l.list);
  fits : IsTrue (are_inspectable (drop l.statement-index l.statement-items) (scope_of_store l.store));
  behind : scope_behind (drop l.statement-index l.statement-items) (scope_of_store l.store) ≡ scope_behind l.list (scope_of_store l.initial.store);
  remains : Remains (sequence (map part l.list) (sight_of_store l.initial.store).value [] 0) (state_of_store l.initial.store) (sequence (map part (drop l.statement-index l.statement-items)) (sight_of_store l.initial.store).value [] l.position) (rescoped (scope_of_store l.initial.store) (state_of_store l.store));
}
