-- The marks of a text are its tokens, with their places.
use Rattle.std.proofs.Common.{◌≡◌, ℕ, zero, suc, ◌+◌, ◌-◌, List, [], ◌∷◌, length, map, refl, sym, ap, ◌∙◌}
use Rattle.std.proofs.lemmas.List.{length-map}
use Rattle.std.specs.Prelude.{Option, Some, None}
use Rattle.c_tokens.specs.declared.token.Token.{Token}
use Rattle.c_tokens.specs.declared.pieces.Margin.{Margin}
use Rattle.c_tokens.specs.declared.pieces.Margin.TheVariants as m
use Rattle.c_tokens.specs.Pieces.{piece, prepend, tokens_from, tokens_of}
use Rattle.token_places.specs.declared.marks.Mark.{Mark}
use Rattle.token_places.specs.Marks.{marked, marks_from, marks_of}

abbrev token_of : Mark → Token
token_of m = m.token

one : (o : Option Token) (at len : ℕ) (ms : List Mark) → map token_of (marked o at len ms) ≡ prepend o (map token_of ms)
one None at len ms = refl
one (Some x) at len ms = refl

from : (at left : ℕ) (margin : Margin) (z : List ℕ) → map token_of (marks_from at left margin z) ≡ tokens_from left margin z
from at left margin [] = refl
from at (suc left) margin (b ∷ z) = from (at + 1) left margin z
from at zero margin (b ∷ z) =
    let p = piece margin (b ∷ z) in
    one p.token at p.len (marks_from (at + 1) (p.len - 1) p.margin z) ∙ ap (λ ts. prepend p.token ts) (from (at + 1) (p.len - 1) p.margin z)

pub marks_are_tokens : (text : List ℕ) → map (λ m. m.token) (marks_of text) ≡ tokens_of text
unfolding marks_of tokens_of
marks_are_tokens text = from 0 0 m.Start text

-- there are as many
pub as_many : (text : List ℕ) → length (marks_of text) ≡ length (tokens_of text)
as_many text = sym (length-map (marks_of text) token_of) ∙ ap length (marks_are_tokens text)
