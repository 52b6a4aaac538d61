use Rattle.std.proofs.Common.{◌≡◌, ◌+◌, ◌-ℤ◌, ◌++◌, ◌∷◌, [], drop, map}
use Rattle.c_meaning.specs.Memory.{bound}
use Rattle.c_meaning.specs.Listing.{above_zero}
use Rattle.c_meaning.specs.Run.{part, widths, sequence, turns}
use Rattle.c_walk.specs.State.{state_of}
use Rattle.c_walk.proofs.Pieces.{Remains}
use Rattle.c_walk.proofs.Told.{Untold}
use Rattle.c_walk.proofs.walk.+walk.Given as goal

abbrev pub invariant-run_statements-loop-statement : goal.invariant-run_statements-loop-statement
invariant-run_statements-loop-statement g l = record {
  count : l.position + widths (map part (drop l.statement-index l.statement-items)) ≡ l.first + widths (map part l.list);
  remains : Remains (sequence (map part l.list) (g.M.View.sight l.initial.memory).value l.at l.first) (state_of (g.M.View.scope l.initial.memory) (g.M.View.sight l.initial.memory) (g.M.Memory.rest l.initial.memory))
      (sequence (map part (drop l.statement-index l.statement-items)) (g.M.View.sight l.initial.memory).value l.at l.position) (state_of (g.M.View.scope l.memory) (g.M.View.sight l.memory) (g.M.Memory.rest l.memory));
  untold : Untold (g.L.Listener.line (g.M.View.scope l.initial.memory).data_arrays) (sequence (map part l.list) (g.M.View.sight l.initial.memory).value l.at l.first) (state_of (g.M.View.scope l.initial.memory) (g.M.View.sight l.initial.memory) (g.M.Memory.rest l.initial.memory)) (g.L.Listener.heard l.initial.listener)
      (sequence (map part (drop l.statement-index l.statement-items)) (g.M.View.sight l.initial.memory).value l.at l.position) (state_of (g.M.View.scope l.memory) (g.M.View.sight l.memory) (g.M.Memory.rest l.memory)) (g.L.Listener.heard l.listener);
}

abbrev pub invariant-run_turns-loop-value : goal.invariant-run_turns-loop-value
invariant-run_turns-loop-value g l = record {
  remains : Remains (turns (above_zero (l.to -ℤ l.from)) l.from (λ v. sequence (map part l.body) (bound l.var v (g.M.View.sight l.initial.memory).value) (l.at ++ v ∷ []) 0))
      (state_of (g.M.View.scope l.initial.memory) (g.M.View.sight l.initial.memory) (g.M.Memory.rest l.initial.memory))
      (turns (above_zero (l.to -ℤ l.value)) l.value (λ v. sequence (map part l.body) (bound l.var v (g.M.View.sight l.initial.memory).value) (l.at ++ v ∷ []) 0))
      (state_of (g.M.View.scope l.memory) (g.M.View.sight l.memory) (g.M.Memory.rest l.memory));
  untold : Untold (g.L.Listener.line (g.M.View.scope l.initial.memory).data_arrays) (turns (above_zero (l.to -ℤ l.from)) l.from (λ v. sequence (map part l.body) (bound l.var v (g.M.View.sight l.initial.memory).value) (l.at ++ v ∷ []) 0)) (state_of (g.M.View.scope l.initial.memory) (g.M.View.sight l.initial.memory) (g.M.Memory.rest l.initial.memory)) (g.L.Listener.heard l.initial.listener)
      (turns (above_zero (l.to -ℤ l.value)) l.value (λ v. sequence (map part l.body) (bound l.var v (g.M.View.sight l.initial.memory).value) (l.at ++ v ∷ []) 0)) (state_of (g.M.View.scope l.memory) (g.M.View.sight l.memory) (g.M.Memory.rest l.memory)) (g.L.Listener.heard l.listener);
}
