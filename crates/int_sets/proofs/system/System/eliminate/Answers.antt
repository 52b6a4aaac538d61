use Rattle.std.proofs.Common.{refl, sym, ap, ◌∙◌, ◌≡◌, true, false, subst}
use Rattle.std.specs.Prelude.{Ok}
use Rattle.std.proofs.lemmas.Result.{err_from_is_err_and}
use Rattle.int_rows.specs.Systems.{Rows, IsSystem, with_rows}
use Rattle.int_sets.proofs.Calls.{IsSystem-eliminated, eliminated-ok, eliminated-many, eliminated-stops}
use Rattle.int_sets.proofs.system.System.eliminate.Goals as goal

pub returns-in_err-kept-clause-answer : goal.returns-in_err-kept-clause-answer
returns-in_err-kept-clause-answer c =
    let p = err_from_is_err_and c.from_residual.result c.from_residual.ensures.1 in
    rw (p.1, p.2, ← c.self.view_is) (eliminated-stops c.args.var _ c.in_err-kept.field-0.0 c.in_err-kept.ensures)

pub returns-then-is_many-clause-answer : goal.returns-then-is_many-clause-answer
returns-then-is_many-clause-answer c =
    let many : c.in_ok-kept.kept.many ≡ true = sym c.is_many.ensures ∙ c.if-is_many.true in
    let made = rw many at c.in_ok-kept.ensures in
    (rw (← c.self.view_is) (eliminated-many c.args.var _ c.in_ok-kept.kept.kept.rows made.0 made.1), refl)

pub invariant_of-self : goal.invariant_of-self
invariant_of-self c =
    let few : c.in_ok-kept.kept.many ≡ false = sym c.is_many.ensures ∙ c.if-is_many.false in
    let made = rw few at c.in_ok-kept.ensures in
    let same : with_rows c.self.inside.list c.in_ok-kept.kept.kept.rows ≡ c.in_ok-kept.kept.kept = λ i. record { vars = sym made.2 i; rows = c.in_ok-kept.kept.kept.rows } in
    rw c.into_rows.ensures (subst IsSystem same (IsSystem-eliminated c.self.inside.list.vars c.args.var c.self.inside.list.rows _ c.self.invariant made.0 made.1))

pub returns-clause-answer : goal.returns-clause-answer
returns-clause-answer c =
    let few : c.in_ok-kept.kept.many ≡ false = sym c.is_many.ensures ∙ c.if-is_many.false in
    let made = rw few at c.in_ok-kept.ensures in
    let same : with_rows c.self.inside.list c.in_ok-kept.kept.kept.rows ≡ c.in_ok-kept.kept.kept = λ i. record { vars = sym made.2 i; rows = c.in_ok-kept.kept.kept.rows } in
    rw (← c.self.view_is, c.into_rows.ensures) (eliminated-ok c.args.var _ c.in_ok-kept.kept.kept.rows made.0 made.1 ∙ ap (λ (t : Rows). Ok t) same)
