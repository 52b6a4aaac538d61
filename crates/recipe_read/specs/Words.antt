-- The words of a recipe, and the names.
use Rattle.std.specs.Prelude.{ℕ, Bool, false, not, ◌&&◌, ◌||◌, if◌then◌else◌, ◌==◌, nat_le, List, [], ◌∷◌, ◌++◌, codes, length, slice_index, Option, Some, None}
use Rattle.std.specs.Char.{is_ascii_alphabetic}
use Rattle.std.specs.Str.{bytes_eq}
use Rattle.chill_base.specs.declared.padding.Padding.{Padding}
use Rattle.recipe_read.specs.declared.words.Verb.{Verb}
use Rattle.recipe_read.specs.declared.words.Verb.TheVariants.{Permute, Tile, Skew, Shift, Fuse, Distribute, Unroll, Datacopy, MakeDense, Compact, CompactAndPad}
use Rattle.chill_base.specs.declared.padding.Padding.TheVariants.{Block, Diag, Rows}

abbrev pub Text : Type 0
Text = List ℕ

-- what a table has for a word
abbrev pub find : {A : Type 0} → List (Text × A) → Text → Option A
find [] word = None
find (entry ∷ more) word = if bytes_eq entry.0 word then Some entry.1 else find more word

-- the command that a word begins
unfoldable pub verb_of : Text → Option Verb
verb_of = find (
    (codes "permute", Permute) ∷ (codes "tile", Tile) ∷ (codes "skew", Skew) ∷ (codes "shift", Shift) ∷
    (codes "fuse", Fuse) ∷ (codes "distribute", Distribute) ∷ (codes "unroll", Unroll) ∷ (codes "datacopy", Datacopy) ∷
    (codes "make_dense", MakeDense) ∷ (codes "compact", Compact) ∷ (codes "compact_and_pad", CompactAndPad) ∷ [])

unfoldable pub padding_of : Text → Option Padding
padding_of = find ((codes "block", Block) ∷ (codes "diag", Diag) ∷ (codes "rows", Rows) ∷ [])

-- the word is one of these
abbrev pub is_among : List Text → Text → Bool
is_among [] word = false
is_among (entry ∷ more) word = bytes_eq entry word || is_among more word

-- a keyword of C99
abbrev pub keywords : List Text
keywords =
    codes "auto" ∷ codes "break" ∷ codes "case" ∷ codes "char" ∷ codes "const" ∷ codes "continue" ∷ codes "default" ∷ codes "do" ∷
    codes "double" ∷ codes "else" ∷ codes "enum" ∷ codes "extern" ∷ codes "float" ∷ codes "for" ∷ codes "goto" ∷ codes "if" ∷
    codes "inline" ∷ codes "int" ∷ codes "long" ∷ codes "register" ∷ codes "restrict" ∷ codes "return" ∷ codes "short" ∷ codes "signed" ∷
    codes "sizeof" ∷ codes "static" ∷ codes "struct" ∷ codes "switch" ∷ codes "typedef" ∷ codes "union" ∷ codes "unsigned" ∷ codes "void" ∷
    codes "volatile" ∷ codes "while" ∷ codes "_Bool" ∷ codes "_Complex" ∷ codes "_Imaginary" ∷ []

-- what else the language has for words
abbrev pub own_words : List Text
own_words =
    codes "min" ∷ codes "max" ∷ codes "floord" ∷ codes "ceild" ∷ codes "GROW" ∷ codes "INDEX1" ∷ codes "INDEX2" ∷ codes "DATA1" ∷
    codes "DATA2" ∷ codes "DATA3" ∷ codes "int64_t" ∷ codes "uint64_t" ∷ []

unfoldable pub is_reserved : Text → Bool
is_reserved = is_among (keywords ++ own_words)

abbrev pub is_letter : ℕ → Bool
is_letter b = is_ascii_alphabetic b || b == 95

-- a word is a name if it begins with a letter or `_`, has at most 63 bytes, and isn't one of the language's
abbrev pub is_name : Text → Bool
is_name word = not (length word == 0) && is_letter (slice_index word 0) && nat_le (length word) 63 && not (is_reserved word)

unfoldable pub name_of : Text → Option Text
name_of word = if is_name word then Some word else None
