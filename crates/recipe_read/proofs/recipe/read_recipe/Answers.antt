use Rattle.std.proofs.Common.{◌≡◌, ◌+◌, ◌<◌, length, take, drop, ap, ◌∙◌, arith}
use Rattle.std.proofs.lemmas.Bool.Decides.{nat_tests}
use Rattle.recipe_read.proofs.Recipes.{line_len, goes_on, goes_wrong, too_many, all_read}
use Rattle.recipe_read.proofs.recipe.read_recipe.Goals as goal

pub returns-in-Err-Refused : goal.returns-in-Err-Refused
returns-in-Err-Refused c =
    let some : 0 < length c.loop-rest.rest.now = grind (arith, nat_tests, c.loop-rest-test.ensures) in
    let here : take c.run_len-len.result c.loop-rest.rest.now ≡ take (line_len c.loop-rest.rest.now) c.loop-rest.rest.now = ap (λ n. take n c.loop-rest.rest.now) c.run_len-len.ensures.len in
    goes_wrong c.args.text.now c.loop-rest.rest.now _ _ _ _ c.loop-rest.invariant ((rw c.in-Err-Refused.field-0-is at c.in-Err-Refused.ensures.bad) tt) some here

pub loop-rest-preserved : goal.loop-rest-preserved
loop-rest-preserved c =
    let some : 0 < length c.loop-rest.rest.now = grind (arith, nat_tests, c.loop-rest-test.ensures) in
    let len : c.run_len-len.result ≡ line_len c.loop-rest.rest.now = c.run_len-len.ensures.len in
    let after : c.behind_line-rest.result.now ≡ drop (line_len c.loop-rest.rest.now + 1) c.loop-rest.rest.now = c.behind_line-rest.ensures ∙ ap (λ n. drop (n + 1) c.loop-rest.rest.now) len in
    let here : take c.run_len-len.result c.loop-rest.rest.now ≡ take (line_len c.loop-rest.rest.now) c.loop-rest.rest.now = ap (λ n. take n c.loop-rest.rest.now) len in
    goes_on c.args.text.now c.loop-rest.rest.now _ _ _ _ _ _ _ c.loop-rest.invariant c.in-Ok.ensures.good c.in-Ok.ensures.counted c.in-Ok.ensures.kept some here after

pub returns-then-count-gt-MOST_COMMANDS : goal.returns-then-count-gt-MOST_COMMANDS
returns-then-count-gt-MOST_COMMANDS c =
    let none : length c.loop-rest.rest.now ≡ 0 = grind (arith, nat_tests, c.is_empty.ensures) in
    too_many _ _ _ _ _ c.loop-rest.invariant none c.if-count-gt-MOST_COMMANDS.true

pub returns : goal.returns
returns c =
    let none : length c.loop-rest.rest.now ≡ 0 = grind (arith, nat_tests, c.is_empty.ensures) in
    all_read _ _ _ _ _ c.loop-rest.invariant none c.if-count-gt-MOST_COMMANDS.false
