-- Lines in pieces.
use Rattle.std.specs.Prelude.{ℕ, ℤ, List, [], ◌∷◌, ◌++◌, map, codes}
use Rattle.std.specs.Fmt.{decimal, signed_decimal}
use Rattle.outcomes.specs.declared.words.Word.{Word}
use Rattle.outcomes.specs.declared.words.Word.TheVariants as is

-- the numbers, each behind a dot
abbrev pub behind_dots : List ℤ → List ℕ
behind_dots [] = []
behind_dots (z ∷ zs) = codes "." ++ (signed_decimal z ++ behind_dots zs)

-- a place as it is written: its numbers with dots between them
abbrev pub place_text : List ℤ → List ℕ
place_text [] = []
place_text (z ∷ zs) = signed_decimal z ++ behind_dots zs

abbrev pub word_text : Word → List ℕ
word_text (is.Text text) = text.now
word_text (is.Number number) = decimal number
word_text (is.Wide number) = decimal number.now
word_text (is.Signed number) = signed_decimal number
word_text (is.Name name) = name.now
word_text (is.Place place) = place_text place.now

-- texts one after another
abbrev pub joined : List (List ℕ) → List ℕ
joined [] = []
joined (x ∷ []) = x
joined (x ∷ y ∷ xs) = x ++ joined (y ∷ xs)

-- the pieces, one after another
abbrev pub text_of : List Word → List ℕ
text_of words = joined (map word_text words)
