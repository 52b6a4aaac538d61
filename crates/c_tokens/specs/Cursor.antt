-- What a cursor over a text shows, and what it keeps.
use Rattle.std.specs.Prelude.{◌≡◌, List, [], None}
use Rattle.c_tokens.specs.declared.token.Token.{Token}
use Rattle.c_tokens.specs.declared.tokens.Tokens.TheInside.{Inside}
use Rattle.c_tokens.specs.Pieces.{prepend, tokens_after}

-- the token at hand, and those behind it
abbrev pub tokens_left : Inside → List Token
tokens_left c = prepend c.token (tokens_after c.rest.now)

-- without a token at hand the text is at its end
abbrev pub IsAtToken : Inside → Type 0
IsAtToken c = c.token ≡ None → c.rest.now ≡ []
