use Rattle.std.proofs.Common.{◌≡◌, length}
use Rattle.c_tokens.specs.Pieces.{tokens_from}
use Rattle.c_tokens.proofs.tokens.next.Given as goal

abbrev pub invariant-pieces : goal.invariant-pieces
invariant-pieces l = tokens_from 0 l.margin l.text ≡ tokens_from 0 l.fn.margin l.fn.text

abbrev pub decreases-pieces : goal.decreases-pieces
decreases-pieces l = length l.text
