-- The tokens of a text, found in one pass from the left.
use Rattle.std.specs.Prelude.{ℕ, zero, suc, ◌+◌, ◌-◌, ◌*◌, ◌^◌, Bool, false, not, ◌&&◌, ◌||◌, if◌then◌else◌, ◌==◌, nat_le, nat_lt, List, [], ◌∷◌, length, take, drop, fold, slice_index, Option, Some, None, codes, eqb}
use Rattle.std.specs.Char.{is_ascii_digit, is_ascii_alphanumeric}
use Rattle.std.specs.List.{list_all, prefix_len, starts_with}
use Rattle.c_tokens.specs.declared.token.Sign.{Sign}
use Rattle.c_tokens.specs.declared.token.Sign.TheVariants as s
use Rattle.c_tokens.specs.declared.token.Token.{Token}
use Rattle.c_tokens.specs.declared.token.Token.TheVariants as t
use Rattle.c_tokens.specs.declared.pieces.Margin.{Margin}
use Rattle.c_tokens.specs.declared.pieces.Margin.TheVariants as m
use Rattle.c_tokens.specs.declared.pieces.Piece.{Piece}
use Rattle.c_tokens.specs.Signs.{spelling, sign_at, word_of, is_keyword, is_among}
use Rattle.c_tokens.specs.Lines.{prelude}

-- ---- bytes

abbrev pub is_line_feed : ℕ → Bool
is_line_feed b = b == 10

abbrev pub is_blank : ℕ → Bool
is_blank b = b == 32 || b == 9

abbrev pub is_space : ℕ → Bool
is_space b = is_blank b || b == 13 || is_line_feed b

-- letters, digits and `_`
abbrev pub is_word_byte : ℕ → Bool
is_word_byte b = is_ascii_alphanumeric b || b == 95

-- ---- runs of letters, digits and `_`

-- the number that digits are, read from the left
abbrev pub value : List ℕ → ℕ
value = fold (λ n b. 10 * n + (b - 48)) 0

abbrev pub are_digits : List ℕ → Bool
are_digits = list_all is_ascii_digit

abbrev pub has_leading_zero : List ℕ → Bool
has_leading_zero run = slice_index run 0 == 48 && nat_lt 1 (length run)

-- a decimal number of at most 2^64-1 without leading zeros
abbrev pub number : List ℕ → Token
number run = if are_digits run && not (has_leading_zero run) && nat_lt (value run) (2 ^ 64) then t.Number (value run) else t.Bad

-- a name, which has at most 63 bytes and is no keyword of C
abbrev pub name : List ℕ → Token
name run = if is_keyword run then t.Sign s.Reserved else (if nat_le (length run) 63 then t.Name run else t.Bad)

abbrev pub word_by : Option Sign → List ℕ → Token
word_by (Some sign) run = t.Sign sign
word_by None run = name run

-- what a whole run is
unfoldable pub token_of_run : List ℕ → Token
token_of_run run = if is_ascii_digit (slice_index run 0) then number run else word_by (word_of run) run

-- ---- the piece at the front of a text that isn't empty

abbrev pub run_len : List ℕ → ℕ
run_len = prefix_len is_word_byte

-- up to the line feed
abbrev pub line_len : List ℕ → ℕ
line_len = prefix_len (λ b. not (is_line_feed b))

-- no token, so many bytes long
abbrev pub gap : ℕ → Piece
gap len = record { token = None; len = len; margin = m.Past }

-- a token, so many bytes long
abbrev pub taken : Token → ℕ → Piece
taken token len = record { token = Some token; len = len; margin = m.Past }

-- no token can be taken here: one bad token, and nothing after it
abbrev pub stuck : List ℕ → Piece
stuck text = taken t.Bad (length text)

abbrev pub margin_after : ℕ → Margin → Margin
margin_after b m.Past = if is_line_feed b then m.Start else m.Past
margin_after b _ = if is_line_feed b then m.Start else (if is_blank b then m.Blank else m.Past)

abbrev pub space : Margin → ℕ → Piece
space margin b = record { token = None; len = 1; margin = margin_after b margin }

-- the place behind the first `*/`, for a text that begins at `at`
abbrev pub closing : ℕ → List ℕ → Option ℕ
closing at [] = None
closing at (b ∷ z) = if b == 42 && slice_index z 0 == 47 then Some (at + 2) else closing (at + 1) z

abbrev pub closed : Option ℕ → List ℕ → Piece
closed (Some len) text = gap (len + 2)
closed None text = stuck text

-- a comment to the end of the line, or from `/*` up to `*/`
unfoldable pub comment : List ℕ → Piece
comment text =
    if slice_index text 1 == 47 then gap (line_len text)
    else (if slice_index text 1 == 42 then closed (closing 0 (drop 2 text)) text else stuck text)

abbrev pub sign_by : Option Sign → List ℕ → Piece
sign_by (Some sign) text = taken (t.Sign sign) (length (spelling sign))
sign_by None text = stuck text

unfoldable pub sign : List ℕ → Piece
sign text = sign_by (sign_at text) text

-- a line that is skipped whole: one whose first bytes but for blanks are `#include`, or that is a line of the prelude
abbrev pub is_skipped : Margin → List ℕ → Bool
is_skipped m.Start text = starts_with eqb text (codes "#include") || is_among prelude (take (line_len text) text)
is_skipped m.Blank text = starts_with eqb text (codes "#include")
is_skipped m.Past text = false

unfoldable pub hash : Margin → List ℕ → Piece
hash margin text = if is_skipped margin text then gap (line_len text) else sign text

unfoldable pub piece : Margin → List ℕ → Piece
piece margin text =
    let b = slice_index text 0 in
    if is_space b then space margin b
    else (if b == 47 then comment text
    else (if b == 35 then hash margin text
    else (if is_word_byte b then taken (token_of_run (take (run_len text) text)) (run_len text)
    else sign text)))

-- ---- the whole text

abbrev pub prepend : Option Token → List Token → List Token
prepend None ts = ts
prepend (Some x) ts = x ∷ ts

-- the tokens of a text of which so many bytes belong to a piece that was taken
abbrev pub tokens_from : ℕ → Margin → List ℕ → List Token
tokens_from left margin [] = []
tokens_from (suc left) margin (b ∷ z) = tokens_from left margin z
tokens_from zero margin (b ∷ z) =
    let p = piece margin (b ∷ z) in prepend p.token (tokens_from (p.len - 1) p.margin z)

-- the tokens of a text
unfoldable pub tokens_of : List ℕ → List Token
tokens_of = tokens_from 0 m.Start

-- the tokens of what follows a token in its line
abbrev pub tokens_after : List ℕ → List Token
tokens_after = tokens_from 0 m.Past
