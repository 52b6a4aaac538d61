use Rattle.std.proofs.Common.{◌∙◌, sym, ap, is_ok}
use Rattle.c_meaning.specs.Scope.{data_cell_fits}
use Rattle.c_meaning.specs.Value.{subscripts_of}
use Rattle.c_meaning.proofs.Fitting.{and_left, and_right}
use Rattle.c_meaning.proofs.Readings.{some_extents}
use Rattle.c_meaning.specs.Memory.{is_in_array}
use Rattle.c_walk.specs.State.{state_of, memory_in}
use Rattle.c_walk.specs.Ready.{data_fits}
use Rattle.c_walk.proofs.Shown.{are_shown, both}
use Rattle.c_walk.proofs.Hearing.{is_made, told_made, told_unwritten}
use Rattle.c_walk.proofs.steps.assign.Goals as goal

pub data_cell-requires : goal.data_cell-requires
data_cell-requires g c = some_extents c.args.target.now.at (g.M.View.scope c.args.memory.now) _ (and_left _ _ c.requires)

pub hear-requires-clause-target : goal.hear-requires-clause-target
hear-requires-clause-target g c =
    both (data_cell_fits c.args.target.now (g.M.View.scope c.args.memory.now)) (is_ok (subscripts_of c.args.target.now.at (g.M.View.sight c.args.memory.now))) (and_left _ _ c.requires)
    (ap is_ok (sym c.eval_subscripts.ensures ∙ c.in-Ok-eval_subscripts.is))

pub hear-requires-clause-value : goal.hear-requires-clause-value
hear-requires-clause-value g c =
    are_shown c.args.value.now (state_of (g.M.View.scope c.args.memory.now) (g.M.View.sight c.args.memory.now) (g.M.Memory.rest c.args.memory.now)) c.in-Ok.worth
    (and_right (data_cell_fits c.args.target.now (g.M.View.scope c.args.memory.now)) (data_fits c.args.value.now (g.M.View.scope c.args.memory.now)) c.requires) (sym c.eval_data.ensures ∙ c.in-Ok.is)

pub set_data-requires-clause-has : goal.set_data-requires-clause-has
set_data-requires-clause-has g c = some_extents c.args.target.now.at (g.M.View.scope c.args.memory.now) _ (and_left _ _ c.requires)

pub returns-in-Ok-hear-clause-told : goal.returns-in-Ok-hear-clause-told
returns-in-Ok-hear-clause-told g c =
    let made = is_made c.args.target.now c.args.how c.args.value.now (state_of (g.M.View.scope c.args.memory.now) (g.M.View.sight c.args.memory.now) (g.M.Memory.rest c.args.memory.now)) c.in-Ok.worth c.in-Ok-eval_subscripts.at c.in-Some.old (sym c.eval_data.ensures ∙ c.in-Ok.is) (sym c.eval_subscripts.ensures ∙ c.in-Ok-eval_subscripts.is) (sym c.data_cell.ensures ∙ c.in-Some.is) in
    told_made c.args.target.now c.args.how c.args.value.now (state_of (g.M.View.scope c.args.memory.now) (g.M.View.sight c.args.memory.now) (g.M.Memory.rest c.args.memory.now)) (g.L.Listener.line (g.M.View.scope c.args.memory.now).data_arrays) c.args.place.now (g.L.Listener.heard c.args.listener.now) (g.L.Listener.heard c.hear.new.self) made.0 tt tt made.1 (c.in-Ok-hear.ensures (λ x. is_in_array x (memory_in (state_of (g.M.View.scope c.args.memory.now) (g.M.View.sight c.args.memory.now) (g.M.Memory.rest c.args.memory.now)))) made.0 made.1)

pub returns-in-Err-hear-clause-told : goal.returns-in-Err-hear-clause-told
returns-in-Err-hear-clause-told g c =
    let made = is_made c.args.target.now c.args.how c.args.value.now (state_of (g.M.View.scope c.args.memory.now) (g.M.View.sight c.args.memory.now) (g.M.Memory.rest c.args.memory.now)) c.in-Ok.worth c.in-Ok-eval_subscripts.at c.in-Some.old (sym c.eval_data.ensures ∙ c.in-Ok.is) (sym c.eval_subscripts.ensures ∙ c.in-Ok-eval_subscripts.is) (sym c.data_cell.ensures ∙ c.in-Some.is) in
    told_unwritten c.args.target.now c.args.how c.args.value.now (state_of (g.M.View.scope c.args.memory.now) (g.M.View.sight c.args.memory.now) (g.M.Memory.rest c.args.memory.now)) (g.L.Listener.line (g.M.View.scope c.args.memory.now).data_arrays) c.args.place.now (g.L.Listener.heard c.args.listener.now) (g.L.Listener.heard c.hear.new.self) made.0 c.in-Err-hear.field-0 made.1 (c.in-Err-hear.ensures (λ x. is_in_array x (memory_in (state_of (g.M.View.scope c.args.memory.now) (g.M.View.sight c.args.memory.now) (g.M.Memory.rest c.args.memory.now)))) made.0 made.1)
