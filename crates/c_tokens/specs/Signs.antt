-- How signs and words are spelled, and which of them stands at the front of a text.
use Rattle.std.specs.Prelude.{◌≡◌, ℕ, ◌≤◌, Bool, false, ◌||◌, if◌then◌else◌, ◌⊎◌, List, [], ◌∷◌, ◌++◌, length, Option, Some, None, codes, eqb, bytes_eq}
use Rattle.std.specs.List.{starts_with}
use Rattle.c_tokens.specs.declared.token.Sign.{Sign}
use Rattle.c_tokens.specs.declared.token.Sign.TheVariants as s

-- The text of a sign. `Reserved` stands for many words and has no text of its own.
abbrev pub spelling : Sign → List ℕ
spelling s.Pragma = codes "#pragma"
spelling s.Open = codes "("
spelling s.Close = codes ")"
spelling s.OpenSquare = codes "["
spelling s.CloseSquare = codes "]"
spelling s.OpenBrace = codes "{"
spelling s.CloseBrace = codes "}"
spelling s.Comma = codes ","
spelling s.Semicolon = codes ";"
spelling s.Assign = codes "="
spelling s.AddAssign = codes "+="
spelling s.SubtractAssign = codes "-="
spelling s.Plus = codes "+"
spelling s.Minus = codes "-"
spelling s.Star = codes "*"
spelling s.Less = codes "<"
spelling s.AtMost = codes "<="
spelling s.More = codes ">"
spelling s.AtLeast = codes ">="
spelling s.Same = codes "=="
spelling s.And = codes "&&"
spelling s.Increment = codes "++"
spelling s.Void = codes "void"
spelling s.For = codes "for"
spelling s.If = codes "if"
spelling s.Int64 = codes "int64_t"
spelling s.Uint64 = codes "uint64_t"
spelling s.Min = codes "min"
spelling s.Max = codes "max"
spelling s.Floord = codes "floord"
spelling s.Ceild = codes "ceild"
spelling s.Grow = codes "GROW"
spelling s.Index1 = codes "INDEX1"
spelling s.Index2 = codes "INDEX2"
spelling s.Data1 = codes "DATA1"
spelling s.Data2 = codes "DATA2"
spelling s.Data3 = codes "DATA3"
spelling s.Reserved = []

-- the signs, longer ones first
abbrev pub signs : List Sign
signs = s.Pragma ∷ s.AddAssign ∷ s.SubtractAssign ∷ s.Increment ∷ s.AtMost ∷ s.AtLeast ∷ s.Same ∷ s.And
    ∷ s.Open ∷ s.Close ∷ s.OpenSquare ∷ s.CloseSquare ∷ s.OpenBrace ∷ s.CloseBrace ∷ s.Comma ∷ s.Semicolon
    ∷ s.Assign ∷ s.Plus ∷ s.Minus ∷ s.Star ∷ s.Less ∷ s.More ∷ []

-- the words that the language's rules have
abbrev pub words : List Sign
words = s.Void ∷ s.For ∷ s.If ∷ s.Int64 ∷ s.Uint64 ∷ s.Min ∷ s.Max ∷ s.Floord ∷ s.Ceild ∷ s.Grow
    ∷ s.Index1 ∷ s.Index2 ∷ s.Data1 ∷ s.Data2 ∷ s.Data3 ∷ []

-- the keywords of C that no rule of the language has
abbrev pub keywords : List (List ℕ)
keywords = codes "auto" ∷ codes "break" ∷ codes "case" ∷ codes "char" ∷ codes "const" ∷ codes "continue" ∷ codes "default"
    ∷ codes "do" ∷ codes "double" ∷ codes "else" ∷ codes "enum" ∷ codes "extern" ∷ codes "float" ∷ codes "goto"
    ∷ codes "inline" ∷ codes "int" ∷ codes "long" ∷ codes "register" ∷ codes "restrict" ∷ codes "return" ∷ codes "short"
    ∷ codes "signed" ∷ codes "sizeof" ∷ codes "static" ∷ codes "struct" ∷ codes "switch" ∷ codes "typedef" ∷ codes "union"
    ∷ codes "unsigned" ∷ codes "volatile" ∷ codes "while" ∷ codes "_Bool" ∷ codes "_Complex" ∷ codes "_Imaginary" ∷ []

-- the first of the signs with which the text begins
abbrev pub first_of : List Sign → List ℕ → Option Sign
first_of [] text = None
first_of (s ∷ ss) text = if starts_with eqb text (spelling s) then Some s else first_of ss text

-- the first of the signs that is spelled so
abbrev pub spelled : List Sign → List ℕ → Option Sign
spelled [] word = None
spelled (s ∷ ss) word = if bytes_eq word (spelling s) then Some s else spelled ss word

-- is the text one of the lines
abbrev pub is_among : List (List ℕ) → List ℕ → Bool
is_among [] text = false
is_among (l ∷ ls) text = bytes_eq text l || is_among ls text

-- the sign that is taken at the front of a text
unfoldable pub sign_at : List ℕ → Option Sign
sign_at = first_of signs

-- the word of the language that is spelled so
unfoldable pub word_of : List ℕ → Option Sign
word_of = spelled words

unfoldable pub is_keyword : List ℕ → Bool
is_keyword = is_among keywords

-- ---- what a sign at the front means

-- the sign is one of the list
abbrev pub IsOneOf : List Sign → Sign → Type 0
IsOneOf [] x = ⊥
IsOneOf (s ∷ ss) x = (x ≡ s) ⊎ IsOneOf ss x

-- the text begins with the sign
abbrev pub Begins : List ℕ → Sign → Type 0
Begins text s = (after : List ℕ) × (text ≡ spelling s ++ after)

-- a sign at the front, and no other one there is longer
pub record IsLongestSign (text : List ℕ) (s : Sign) : Type 0 where
  pub listed : IsOneOf signs s
  pub begins : Begins text s
  pub longest : (other : Sign) → IsOneOf signs other → Begins text other → length (spelling other) ≤ length (spelling s)
