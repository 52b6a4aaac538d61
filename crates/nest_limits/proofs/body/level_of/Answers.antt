use Rattle.std.proofs.Common.{sym, ap}
use Rattle.nest_limits.specs.Brackets.{Printed}
use Rattle.nest_limits.proofs.Printing.{printed-Const, printed-At, printed-Plus, printed-Minus, printed-Times}
use Rattle.nest_limits.proofs.body.level_of.Goals as goal

pub returns-in-Const : goal.returns-in-Const
returns-in-Const c first terms = ap (λ (p : Printed). p.level) (sym (printed-Const first terms _ _ c.in-Const.is))

pub returns-in-At : goal.returns-in-At
returns-in-At c first terms = ap (λ (p : Printed). p.level) (sym (printed-At first terms _ _ c.in-At.is))

pub returns-in-Plus : goal.returns-in-Plus
returns-in-Plus c first terms = ap (λ (p : Printed). p.level) (sym (printed-Plus first terms _ _ _ c.in-Plus.is))

pub returns-in-Minus : goal.returns-in-Minus
returns-in-Minus c first terms = ap (λ (p : Printed). p.level) (sym (printed-Minus first terms _ _ _ c.in-Minus.is))

pub returns-in-Times : goal.returns-in-Times
returns-in-Times c first terms = ap (λ (p : Printed). p.level) (sym (printed-Times first terms _ _ _ c.in-Times.is))
