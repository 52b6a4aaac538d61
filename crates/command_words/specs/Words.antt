-- Three plain words, and the command that takes them.
use Rattle.std.specs.Prelude.{◌==◌, ◌&&◌, Bool, true, false, not, List, [], ◌∷◌, codes}
use Rattle.clap.specs.Words.{App, Rule, Text, new_app, new_rule, with_rule}

-- the word isn't empty and doesn't begin with `-`
abbrev pub is_word : Text → Bool
is_word [] = false
is_word (x ∷ xs) = not (x == 45)

-- three such words
abbrev pub are_words : List Text → Bool
are_words (a ∷ b ∷ c ∷ []) = is_word a && (is_word b && is_word c)
are_words _ = false

-- one required word
abbrev pub required : Text → Rule
required id = record (new_rule id) { required = true }

-- no word for the program, and no help
abbrev pub without_help : App → App
without_help a = record a { top = record a.top { no_binary_name = true; disable_help_flag = true } }

abbrev pub bare : App
bare = without_help (new_app (codes "chill"))

-- the command: three required words
abbrev pub three_words : App
three_words = with_rule (with_rule (with_rule bare (required (codes "verb"))) (required (codes "first"))) (required (codes "second"))
