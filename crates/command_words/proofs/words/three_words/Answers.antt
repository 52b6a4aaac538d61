use Rattle.std.proofs.Common.{rules, ap, ap₂, codes, ◌≡◌, ◌∙◌, ◌∷◌, [], sym}
use Rattle.clap.specs.Words.{is_simple, takes, matches_of, first_of, found_of}
use Rattle.clap.proofs.WalkLemmas.{first_value-rows}
use Rattle.command_words.proofs.Three.{simple, line, taken, text_of, verb_is, first_is, second_is}
use Rattle.command_words.proofs.words.three_words.Goals as goal

pub returns-in_err-matches-clause-err : goal.returns-in_err-matches-clause-err
returns-in_err-matches-clause-err c =
    let l = line _ c.requires in
    let e = c.in_err-matches.ensures.passes (ap₂ takes c.in_ok-command.ensures l.is ∙ taken l.a l.b l.c l.first l.second l.third) in
    search (rules, e)

pub returns-clause-ok : goal.returns-clause-ok
returns-clause-ok c =
    let l = line _ c.requires in
    let rows = (c.in_ok-matches.ensures.matches (ap is_simple c.in_ok-command.ensures ∙ simple)).0 ∙ ap₂ matches_of c.in_ok-command.ensures l.is in
    let x : c.unwrap_or.result.now ≡ l.a = ap (λ s. s.now) c.unwrap_or.ensures ∙ text_of _ _ l.a (c.get_str.ensures ∙ first_value-rows (found_of c.in_ok-matches.matches) (codes "verb") ∙ ap (first_of (codes "verb")) rows ∙ verb_is l.a l.b l.c l.first l.second l.third) in
    let y : c.unwrap_or-2.result.now ≡ l.b = ap (λ s. s.now) c.unwrap_or-2.ensures ∙ text_of _ _ l.b (c.get_str-2.ensures ∙ first_value-rows (found_of c.in_ok-matches.matches) (codes "first") ∙ ap (first_of (codes "first")) rows ∙ first_is l.a l.b l.c l.first l.second l.third) in
    let z : c.unwrap_or-3.result.now ≡ l.c = ap (λ s. s.now) c.unwrap_or-3.ensures ∙ text_of _ _ l.c (c.get_str-3.ensures ∙ first_value-rows (found_of c.in_ok-matches.matches) (codes "second") ∙ ap (first_of (codes "second")) rows ∙ second_is l.a l.b l.c l.first l.second l.third) in
    l.is ∙ sym (ap (λ t. t ∷ c.unwrap_or-2.result.now ∷ c.unwrap_or-3.result.now ∷ []) x
    ∙ ap (λ t. l.a ∷ t ∷ c.unwrap_or-3.result.now ∷ []) y ∙ ap (λ t. l.a ∷ l.b ∷ t ∷ []) z)
