use Rattle.std.proofs.Common.{rules, ◌<◌, sym, ◌∙◌}
use Rattle.std.proofs.lemmas.Result.{err_from_is_err_and}
use Rattle.int_sets.proofs.Calls.{excludes-start, excludes-found, excludes-end, excludes-turn, excludes-stops}
use Rattle.int_sets.proofs.system.System.excluded.Goals as goal

pub loop-left-init : goal.loop-left-init
loop-left-init c = rw c.vars-left.ensures (excludes-start _ c.in_ok-system.system c.in_ok-system.ensures)

pub returns-then-is_impossible : goal.returns-then-is_impossible
returns-then-is_impossible c = excludes-found c.args.self.now c.loop-left.left c.loop-left.system (sym c.is_impossible.ensures ∙ c.if-is_impossible.true) c.loop-left.invariant

pub loop-left-preserved : goal.loop-left-preserved
loop-left-preserved c =
    let some : 0 < c.loop-left.left = search rules in
    excludes-turn c.args.self.now c.loop-left.left c.loop-left.system c.drop_plain.new.self some c.in_ok-drop_plain.ensures (sym c.is_impossible.ensures ∙ c.if-is_impossible.false)
    c.eliminate.new.self c.in_ok-eliminate.ensures.answer c.loop-left.invariant

pub returns-in_err-eliminate : goal.returns-in_err-eliminate
returns-in_err-eliminate c =
    let some : 0 < c.loop-left.left = search rules in
    let p = err_from_is_err_and c.from_residual-in_err-eliminate.result c.from_residual-in_err-eliminate.ensures.1 in
    rw (p.1, p.2)
    (excludes-stops c.args.self.now c.loop-left.left c.loop-left.system c.drop_plain.new.self some c.in_ok-drop_plain.ensures (sym c.is_impossible.ensures ∙ c.if-is_impossible.false)
    c.eliminate.new.self c.in_err-eliminate.field-0.0 c.in_err-eliminate.ensures.answer c.loop-left.invariant)

pub returns : goal.returns
returns c = rw c.is_impossible-2.ensures (excludes-end c.args.self.now c.loop-left.left c.loop-left.system (search rules) c.loop-left.invariant)
