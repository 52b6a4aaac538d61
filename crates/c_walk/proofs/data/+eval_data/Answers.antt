-- What each call asks, and what is gathered at each part.
use Rattle.std.proofs.Common.{rules, sym, ap, ◌∙◌, subst, arith}
use Rattle.c_tree.specs.declared.data.Expr.{the_lemmas}
use Rattle.c_walk.specs.State.{state_of}
use Rattle.c_walk.specs.Ready.{data_fits}
use Rattle.c_walk.specs.Data.{worth_of}
use Rattle.c_walk.proofs.DataFits.{cell-At, left-Plus, right-Plus, left-Minus, right-Minus, left-Times, right-Times}
use Rattle.c_walk.proofs.Worths.{Gathers, begins, adds, takes, multiplies, ends_constant, ends_cell}
use Rattle.c_walk.proofs.data.+eval_data.Goals as goal

pub loop-rest-init : goal.loop-rest-init
loop-rest-init g t c =
    record { size = omega arith; fit = c.requires; gathers = begins c.args.e.now (state_of (g.M.View.scope c.args.memory.now) (g.M.View.sight c.args.memory.now) (g.M.Memory.rest c.args.memory.now)) }

pub returns-in-Const : goal.returns-in-Const
returns-in-Const g t c =
    ends_constant c.args.e.now c.loop-rest.rest.now (state_of (g.M.View.scope c.args.memory.now) (g.M.View.sight c.args.memory.now) (g.M.Memory.rest c.args.memory.now)) c.in-Const.n c.loop-rest.tail c.apply_answer.result c.loop-rest.invariant.gathers c.in-Const.is c.apply_answer.ensures

pub read_data-requires : goal.read_data-requires
read_data-requires g t c =
    cell-At (g.M.View.scope c.args.memory.now) _ _ c.in-At.is c.loop-rest.invariant.fit

pub returns-in-At : goal.returns-in-At
returns-in-At g t c =
    ends_cell c.args.e.now c.loop-rest.rest.now (state_of (g.M.View.scope c.args.memory.now) (g.M.View.sight c.args.memory.now) (g.M.Memory.rest c.args.memory.now)) c.in-At.cell c.read_data.result c.loop-rest.tail c.apply_answer-in-At.result c.loop-rest.invariant.gathers c.in-At.is c.read_data.ensures c.apply_answer-in-At.ensures

pub eval_data-requires : goal.eval_data-requires
eval_data-requires g t c κs within =
    (search (rules, the_lemmas), (search rules, ap (λ e. data_fits e (g.M.View.scope c.args.memory.now)) c.get.ensures ∙ right-Plus (g.M.View.scope c.args.memory.now) _ _ _ c.in-Plus.is c.loop-rest.invariant.fit))

pub loop-rest-preserved-in-Plus : goal.loop-rest-preserved-in-Plus
loop-rest-preserved-in-Plus g t c =
    record {
      size = search (rules, the_lemmas);
      fit = ap (λ e. data_fits e (g.M.View.scope c.args.memory.now)) c.get-rest.ensures ∙ left-Plus (g.M.View.scope c.args.memory.now) _ _ _ c.in-Plus.is c.loop-rest.invariant.fit;
      gathers = subst (λ l. Gathers c.args.e.now l c.gather_answer-tail.result (state_of (g.M.View.scope c.args.memory.now) (g.M.View.sight c.args.memory.now) (g.M.Memory.rest c.args.memory.now))) (sym c.get-rest.ensures)
          (adds c.args.e.now c.loop-rest.rest.now c.in-Plus.left c.in-Plus.part (state_of (g.M.View.scope c.args.memory.now) (g.M.View.sight c.args.memory.now) (g.M.Memory.rest c.args.memory.now)) c.eval_data.result c.loop-rest.tail c.gather_answer-tail.result c.loop-rest.invariant.gathers (c.eval_data.ensures ∙ ap (λ e. worth_of e (state_of (g.M.View.scope c.args.memory.now) (g.M.View.sight c.args.memory.now) (g.M.Memory.rest c.args.memory.now))) c.get.ensures) c.in-Plus.is c.gather_answer-tail.ensures);
    }

pub eval_data-requires-in-Minus : goal.eval_data-requires-in-Minus
eval_data-requires-in-Minus g t c κs within =
    (search (rules, the_lemmas), (search rules, ap (λ e. data_fits e (g.M.View.scope c.args.memory.now)) c.get-in-Minus.ensures ∙ right-Minus (g.M.View.scope c.args.memory.now) _ _ _ c.in-Minus.is c.loop-rest.invariant.fit))

pub loop-rest-preserved-in-Minus : goal.loop-rest-preserved-in-Minus
loop-rest-preserved-in-Minus g t c =
    record {
      size = search (rules, the_lemmas);
      fit = ap (λ e. data_fits e (g.M.View.scope c.args.memory.now)) c.get-rest-in-Minus.ensures ∙ left-Minus (g.M.View.scope c.args.memory.now) _ _ _ c.in-Minus.is c.loop-rest.invariant.fit;
      gathers = subst (λ l. Gathers c.args.e.now l c.gather_answer-tail-in-Minus.result (state_of (g.M.View.scope c.args.memory.now) (g.M.View.sight c.args.memory.now) (g.M.Memory.rest c.args.memory.now))) (sym c.get-rest-in-Minus.ensures)
          (takes c.args.e.now c.loop-rest.rest.now c.in-Minus.left c.in-Minus.part (state_of (g.M.View.scope c.args.memory.now) (g.M.View.sight c.args.memory.now) (g.M.Memory.rest c.args.memory.now)) c.eval_data-in-Minus.result c.loop-rest.tail c.gather_answer-tail-in-Minus.result c.loop-rest.invariant.gathers (c.eval_data-in-Minus.ensures ∙ ap (λ e. worth_of e (state_of (g.M.View.scope c.args.memory.now) (g.M.View.sight c.args.memory.now) (g.M.Memory.rest c.args.memory.now))) c.get-in-Minus.ensures) c.in-Minus.is c.gather_answer-tail-in-Minus.ensures);
    }

pub eval_data-requires-in-Times : goal.eval_data-requires-in-Times
eval_data-requires-in-Times g t c κs within =
    (search (rules, the_lemmas), (search rules, ap (λ e. data_fits e (g.M.View.scope c.args.memory.now)) c.get-in-Times.ensures ∙ right-Times (g.M.View.scope c.args.memory.now) _ _ _ c.in-Times.is c.loop-rest.invariant.fit))

pub loop-rest-preserved : goal.loop-rest-preserved
loop-rest-preserved g t c =
    record {
      size = search (rules, the_lemmas);
      fit = ap (λ e. data_fits e (g.M.View.scope c.args.memory.now)) c.get-rest-in-Times.ensures ∙ left-Times (g.M.View.scope c.args.memory.now) _ _ _ c.in-Times.is c.loop-rest.invariant.fit;
      gathers = subst (λ l. Gathers c.args.e.now l c.gather_answer-tail-in-Times.result (state_of (g.M.View.scope c.args.memory.now) (g.M.View.sight c.args.memory.now) (g.M.Memory.rest c.args.memory.now))) (sym c.get-rest-in-Times.ensures)
          (multiplies c.args.e.now c.loop-rest.rest.now c.in-Times.left c.in-Times.part (state_of (g.M.View.scope c.args.memory.now) (g.M.View.sight c.args.memory.now) (g.M.Memory.rest c.args.memory.now)) c.eval_data-in-Times.result c.loop-rest.tail c.gather_answer-tail-in-Times.result c.loop-rest.invariant.gathers (c.eval_data-in-Times.ensures ∙ ap (λ e. worth_of e (state_of (g.M.View.scope c.args.memory.now) (g.M.View.sight c.args.memory.now) (g.M.Memory.rest c.args.memory.now))) c.get-in-Times.ensures) c.in-Times.is c.gather_answer-tail-in-Times.ensures);
    }
