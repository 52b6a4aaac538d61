-- Worked places.
use Rattle.std.specs.Prelude.{◌≡◌, ℕ, List, ◌++◌, Some, None, refl, codes}
use Rattle.c_tokens.specs.Signs.{sign_at, word_of, is_keyword}
use Rattle.c_tokens.specs.Pieces.{piece, comment, sign, hash, token_of_run}
use Rattle.token_places.specs.Marks.{marks_of}
use Rattle.token_places.specs.Lines.{caret_text, line_of}

abbrev told : (line column : ℕ) → List ℕ → List ℕ
told line column spelled = caret_text (record { line = line; column = column }) ++ codes ": " ++ spelled ++ codes "\n"

-- the sign behind a comment, in the second line
sign_in_line : line_of (codes "a /*\n*/ =<1") 2 ≡ Some (told 2 4 (codes "="))
unfolding marks_of piece comment sign hash token_of_run sign_at word_of is_keyword
sign_in_line = refl

-- a bad place is the last token, and shows 20 bytes at most
bad_place : line_of (codes "x\n@\t345678901234567890123") 2 ≡ Some (told 2 1 (codes "@?345678901234567890"))
unfolding marks_of piece comment sign hash token_of_run sign_at word_of is_keyword
bad_place = refl

none_behind : line_of (codes "x\n@\t345678901234567890123") 3 ≡ None
unfolding marks_of piece comment sign hash token_of_run sign_at word_of is_keyword
none_behind = refl
