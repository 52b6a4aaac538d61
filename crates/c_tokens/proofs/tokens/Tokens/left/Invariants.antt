use Rattle.std.proofs.Common.{◌≡◌, ◌+◌, [], length, None}
use Rattle.c_tokens.specs.Pieces.{prepend, tokens_after}
use Rattle.c_tokens.proofs.tokens.Tokens.left.Given as goal

abbrev pub invariant-tokens : goal.invariant-tokens
invariant-tokens l = record {
  counted : l.count + length (prepend l.token (tokens_after l.rest)) ≡ length (prepend l.initial.token (tokens_after l.initial.rest));
  end : l.token ≡ None → l.rest ≡ [];
}

abbrev pub decreases-tokens : goal.decreases-tokens
decreases-tokens l = length (prepend l.token (tokens_after l.rest))
