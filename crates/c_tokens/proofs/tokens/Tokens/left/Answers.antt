use Rattle.std.proofs.Common.{◌≡◌, length, ap, ◌∙◌, arith}
use Rattle.c_tokens.specs.Pieces.{prepend, tokens_after}
use Rattle.c_tokens.proofs.Front.{left_fit, one_left, none_left}
use Rattle.c_tokens.proofs.tokens.Tokens.left.Goals as goal

pub overflow_add-count : goal.overflow_add-count
overflow_add-count c =
    let fit = left_fit c.self.inside.token c.self.inside.rest.now in
    let one = one_left c.tokens.token (tokens_after c.tokens.rest.now) (cc) in
    omega (arith, fit, one, c.tokens.invariant.counted)

pub tokens-preserved : goal.tokens-preserved
tokens-preserved c =
    let one = one_left c.tokens.token (tokens_after c.tokens.rest.now) (cc) in
    record { counted = omega (arith, one, ap length c.next.ensures.same, c.tokens.invariant.counted); end = c.next.ensures.end }

pub tokens-smaller : goal.tokens-smaller
tokens-smaller c =
    let one = one_left c.tokens.token (tokens_after c.tokens.rest.now) (cc) in
    omega (arith, one, ap length c.next.ensures.same)

pub returns : goal.returns
returns c =
    let none = none_left c.tokens.token c.tokens.rest.now (cc) c.tokens.invariant.end in
    let all : c.tokens.count ≡ length (prepend c.self.inside.token (tokens_after c.self.inside.rest.now)) = omega (arith, none, c.tokens.invariant.counted) in
    all ∙ ap length c.self.view_is
