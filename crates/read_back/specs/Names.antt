-- Names that a text can have, and the texts that may stand behind one.
use Rattle.std.specs.Prelude.{◌≡◌, ◌≤◌, ℕ, true, false, List, length, slice_index}
use Rattle.std.specs.List.{list_all}
use Rattle.c_tokens.specs.declared.token.Token.TheVariants as t
use Rattle.c_tokens.specs.Pieces.{is_blank, is_word_byte, token_of_run}

abbrev pub Text : Type 0
Text = List ℕ

abbrev pub Name : Type 0
Name = List ℕ

-- a run of letters, digits and `_` that is a name: it begins with no digit, is no word of the language or of C, and has
-- at most 63 bytes
pub record IsName (x : Name) : Type 0 where
  pub some : 1 ≤ length x
  pub run : list_all is_word_byte x ≡ true
  pub is : token_of_run x ≡ t.Name x

-- the text doesn't begin with a letter, a digit or `_`, so a name or a number before it ends there
abbrev pub Ends : Text → Type 0
Ends text = is_word_byte (slice_index text 0) ≡ false

-- blanks and tabs alone
abbrev pub AreBlanks : Text → Type 0
AreBlanks text = list_all is_blank text ≡ true
