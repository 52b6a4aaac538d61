use Rattle.std.proofs.Common.{◌≡◌, length}
use Rattle.std.proofs.lemmas.Result.{err_from_is_err_and}
use Rattle.int_sets.proofs.Calls.{IsSystem-substituted, substituted-ok, substituted-stops}
use Rattle.int_sets.proofs.system.System.substitute.Goals as goal

pub returns-in_err-self-inside-clause-answer : goal.returns-in_err-self-inside-clause-answer
returns-in_err-self-inside-clause-answer c =
    let p = err_from_is_err_and c.from_residual.result c.from_residual.ensures.1 in
    rw (p.1, p.2, ← c.self.view_is) (substituted-stops c.args.var c.args.by.now _ c.in_err-self-inside.field-0.0 c.in_err-self-inside.ensures)

pub invariant_of-self : goal.invariant_of-self
invariant_of-self c =
    let width : length c.args.by.now.coefs ≡ c.self.inside.list.vars = rw (← c.self.view_is) at c.requires.width in
    let made = c.in_ok-self-inside.ensures in
    rw made.1 (IsSystem-substituted c.self.inside.list.vars c.args.var c.args.by.now c.self.inside.list.rows c.self.invariant width made.0)

pub returns-clause-answer : goal.returns-clause-answer
returns-clause-answer c =
    let made = c.in_ok-self-inside.ensures in
    rw (← c.self.view_is, made.1) (substituted-ok c.args.var c.args.by.now _ made.0)
