-- The tokens of a text with their places, found in the pass that finds the tokens.
use Rattle.std.specs.Prelude.{ℕ, zero, suc, ◌+◌, ◌-◌, List, [], ◌∷◌, Option, Some, None}
use Rattle.c_tokens.specs.declared.token.Token.{Token}
use Rattle.c_tokens.specs.declared.pieces.Margin.{Margin}
use Rattle.c_tokens.specs.declared.pieces.Margin.TheVariants as m
use Rattle.c_tokens.specs.Pieces.{piece}
use Rattle.token_places.specs.declared.marks.Mark.{Mark}

-- the mark of a piece behind so many bytes, if it is a token, before the others
abbrev pub marked : Option Token → ℕ → ℕ → List Mark → List Mark
marked None at len ms = ms
marked (Some token) at len ms = record { token = token; at = at; len = len } ∷ ms

-- the marks of a text behind so many bytes, of which some still belong to a piece that was taken
abbrev pub marks_from : (at left : ℕ) → Margin → List ℕ → List Mark
marks_from at left margin [] = []
marks_from at (suc left) margin (b ∷ z) = marks_from (at + 1) left margin z
marks_from at zero margin (b ∷ z) =
    let p = piece margin (b ∷ z) in marked p.token at p.len (marks_from (at + 1) (p.len - 1) p.margin z)

-- the tokens of a text with their places
unfoldable pub marks_of : List ℕ → List Mark
marks_of = marks_from 0 0 m.Start
