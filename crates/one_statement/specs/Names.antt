-- Names that arrays which commands make can't have.
use Rattle.std.specs.Prelude.{ℕ, Bool, false, not, ◌&&◌, ◌||◌, nat_eq, List, [], ◌∷◌, length, bytes_eq, Option, Some}
use Rattle.std.specs.Char.{is_ascii_digit}
use Rattle.std.specs.List.{list_all, list_any}
use Rattle.c_tokens.specs.declared.token.Token.{Token}
use Rattle.c_tokens.specs.declared.token.Token.TheVariants as token
use Rattle.c_tokens.specs.Pieces.{tokens_of}
use Rattle.c_tokens.specs.Tokens.{first}
use Rattle.c_tree.specs.declared.program.Array.{Array}
use Rattle.nest_tree.specs.declared.kernel.Kernel.{Kernel}
use Rattle.nest_tree.specs.declared.made.Made.{Made}

-- the token is this name
abbrev pub is_named : List ℕ → Option Token → Bool
is_named name (Some (token.Name found)) = bytes_eq found name
is_named name _ = false

-- a text that begins with the name isn't read as the name: it is a word of the language
abbrev pub is_word : List ℕ → Bool
is_word name = not (is_named name (first (tokens_of name)))

abbrev pub all_digits : List ℕ → Bool
all_digits bs = list_all is_ascii_digit bs

-- t and one or more digits
abbrev pub is_loop_name : List ℕ → Bool
is_loop_name [] = false
is_loop_name (b ∷ bs) = nat_eq b 116 && (not (nat_eq (length bs) 0) && all_digits bs)

abbrev pub is_param : List (List ℕ) → List ℕ → Bool
is_param params name = list_any (λ p. bytes_eq p name) params

abbrev pub is_array : List Array → List ℕ → Bool
is_array arrays name = list_any (λ (a : Array). bytes_eq a.name name) arrays

abbrev pub is_made : List Made → List ℕ → Bool
is_made made name = list_any (λ (m : Made). bytes_eq m.name name) made

-- the kernel has a parameter or an array of this name
unfoldable pub is_used : Kernel → List ℕ → Bool
is_used k name = is_param k.head.params name || (is_array k.head.arrays name || is_made k.made name)

-- the name is no word of the language, and no parameter, no array and no loop variable of a printed program has it
unfoldable pub is_free : Kernel → List ℕ → Bool
is_free k name = not (is_word name) && (not (is_loop_name name) && not (is_used k name))
