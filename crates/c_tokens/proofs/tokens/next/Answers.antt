use Rattle.std.proofs.Common.{◌∙◌}
use Rattle.std.proofs.lemmas.List.{take_rest}
use Rattle.c_tokens.proofs.Front.{past_token, past_gap}
use Rattle.c_tokens.proofs.tokens.next.Goals as goal

pub returns-then-is_some-clause-same : goal.returns-then-is_some-clause-same
returns-then-is_some-clause-same c =
    let f = c.first_piece-front in
    let e = past_token c.pieces.margin c.pieces.text.now f.result f.ensures.value f.ensures.within f.ensures.past (cc) in
    rw (take_rest c.pieces.text.now f.result.len) (e ∙ c.pieces.invariant)

pub pieces-preserved : goal.pieces-preserved
pieces-preserved c =
    let f = c.first_piece-front in
    let e = past_gap c.pieces.margin c.pieces.text.now f.result f.ensures.value f.ensures.within (cc) in
    rw (take_rest c.pieces.text.now f.result.len) (e ∙ c.pieces.invariant)
