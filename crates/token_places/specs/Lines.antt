-- The line that tells the place of a token and its spelling.
use Rattle.std.specs.Prelude.{◌≡◌, ◌<◌, ◌-◌, ℕ, ◌&&◌, nat_le, if◌then◌else◌, List, [], ◌∷◌, ◌++◌, length, map, take, drop, slice_get, Option, codes}
use Rattle.std.specs.Option.{option_map}
use Rattle.std.specs.Fmt.{decimal}
use Rattle.chill_base.specs.declared.faults.Stop.{Stop}
use Rattle.chill_base.specs.declared.faults.Stop.TheVariants.{Refused, NoMemory}
use Rattle.c_tokens.specs.declared.token.Token.{Token}
use Rattle.c_tokens.specs.declared.token.Token.TheVariants as t
use Rattle.c_tokens.specs.Pieces.{tokens_of}
use Rattle.token_places.specs.declared.marks.Mark.{Mark}
use Rattle.token_places.specs.declared.marks.TooFew.{TooFew}
use Rattle.token_places.specs.declared.caret.Caret.{Caret}
use Rattle.token_places.specs.Marks.{marks_of}
use Rattle.token_places.specs.Carets.{caret_of}

-- a byte as it is shown: `?` for one that can't be printed
abbrev pub printable : ℕ → ℕ
printable b = if nat_le 32 b && nat_le b 126 then b else 63

-- the bytes of a token; of a bad place the first 20
abbrev pub shown : Token → List ℕ → List ℕ
shown t.Bad bytes = map printable (take 20 bytes)
shown _ bytes = bytes

abbrev pub caret_text : Caret → List ℕ
caret_text c = codes "line " ++ decimal c.line ++ codes ", column " ++ decimal c.column

-- where a token stands in a text, and how it is spelled there
abbrev pub mark_line : List ℕ → Mark → List ℕ
mark_line text m = caret_text (caret_of (take m.at text)) ++ codes ": " ++ shown m.token (take m.len (drop m.at text)) ++ 10 ∷ []

-- the line of a text's token of that number, counted from 1
abbrev pub line_of : List ℕ → ℕ → Option (List ℕ)
line_of text number = option_map (mark_line text) (slice_get (marks_of text) (number - 1))

-- it has fewer tokens, and so many
pub record HasFewer (text : List ℕ) (number : ℕ) (few : TooFew) : Type 0 where
  pub count : few.tokens ≡ length (tokens_of text)
  pub fewer : few.tokens < number

-- a fact on the refusal, if it isn't want of memory
abbrev pub IfTooFew : (TooFew → Type 0) → Stop TooFew → Type 0
IfTooFew P (Refused few) = P few
IfTooFew P NoMemory = Unit {0}
