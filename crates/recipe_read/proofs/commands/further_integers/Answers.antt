use Rattle.std.proofs.Common.{◌≡◌, ◌++◌, ◌∷◌, [], Some, refl, sym, ap, ◌∙◌, subst, arith}
use Rattle.std.proofs.lemmas.Int.{to_z-of_z}
use Rattle.std.proofs.lemmas.Result.{err_from_is_err_and}
use Rattle.recipe_read.specs.Cursor.{integer}
use Rattle.recipe_read.specs.Commands.{further}
use Rattle.recipe_read.proofs.Lists.{Goes, start, goes_on, goes_out, fails}
use Rattle.recipe_read.proofs.commands.further_integers.Goals as goal

pub loop-found-init : goal.loop-found-init
loop-found-init c = start integer c.args.found c.args.line.now

pub returns-in_err-integer : goal.returns-in_err-integer
returns-in_err-integer c =
    let p = err_from_is_err_and c.from_residual.result c.from_residual.ensures.1 in
    rw (p.1, p.2) (fails integer c.loop-found.found c.loop-found.line c.takes.new.self _ _ _ c.loop-found.invariant (sym c.loop-found-test.ensures.sees) c.takes.ensures.after (omega (arith, c.loop-found-test.ensures.shorter refl)) c.in_err-integer.ensures.reads)

pub loop-found-preserved : goal.loop-found-preserved
loop-found-preserved c =
    let item = ap integer (sym c.takes.ensures.after) ∙ c.in_ok-integer.ensures.reads in
    let pushed : c.push.new.self ≡ c.loop-found.found ++ c.in_ok-integer.field-0 ∷ [] = grind (arith, to_z-of_z, c.in_ok-push.ensures.ok) in
    let on = goes_on integer c.loop-found.found c.loop-found.line _ _ _ c.loop-found.invariant (sym c.loop-found-test.ensures.sees) item (omega (arith, c.loop-found-test.ensures.shorter refl, c.in_ok-integer.ensures.no_longer)) in
    subst (λ found. Goes integer found c.integer.new.self (further integer c.args.found c.args.line.now)) (sym pushed) on

pub returns : goal.returns
returns c = goes_out integer c.loop-found.found c.loop-found.line _ c.loop-found.invariant (sym c.loop-found-test.ensures.sees) ∙ ap (λ z. Some (c.loop-found.found, z)) (sym (c.loop-found-test.ensures.stays refl))
