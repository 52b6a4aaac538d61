use Rattle.std.proofs.Common.{rules, ap₂, codes, ◌≡◌, ◌∙◌}
use Rattle.std.proofs.lemmas.Result.{IfOk-weaker}
use Rattle.clap.specs.Words.{app_of, rule_of, with_rule}
use Rattle.command_words.specs.Words.{required, bare}
use Rattle.command_words.proofs.words.command.Goals as goal

pub returns : goal.returns
returns c =
    let verb_is : rule_of c.required-verb.result ≡ required (codes "verb") = search rules in
    let first_is : rule_of c.required-first.result ≡ required (codes "first") = search rules in
    let second_is : rule_of c.required-second.result ≡ required (codes "second") = search rules in
    let bare_is : app_of c.disable_help_flag.result ≡ bare = search rules in
    IfOk-weaker c.arg-3.result _ _ (λ r h. h.shape (search rules) ∙ ap₂ with_rule
    (c.in_ok-arg-2.ensures.shape (search rules) ∙ ap₂ with_rule
    (c.in_ok-arg.ensures.shape (search rules) ∙ ap₂ with_rule bare_is verb_is) first_is) second_is) c.arg-3.ensures
