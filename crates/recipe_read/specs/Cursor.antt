-- What the readers of a line take. A reader answers a value and the bytes behind it, or nothing.
use Rattle.std.specs.Prelude.{◌≡◌, ℕ, ◌+◌, ◌*◌, ◌-◌, Bool, not, ◌&&◌, ◌||◌, if◌then◌else◌, ◌==◌, nat_le, length, take, drop, fold, slice_index, nat_lt, Option, Some, None, Result, Ok, Err, ℤ, pos, neg_ℤ}
use Rattle.std.specs.Char.{is_ascii_digit, is_ascii_alphanumeric}
use Rattle.std.specs.List.{prefix_len}
use Rattle.chill_base.specs.declared.faults.Stop.{Stop}
use Rattle.chill_base.specs.declared.faults.Stop.TheVariants.{Refused, NoMemory}
use Rattle.chill_base.specs.declared.padding.Padding.{Padding}
use Rattle.recipe_read.specs.declared.cursor.BadLine.{BadLine}
use Rattle.recipe_read.specs.declared.cursor.Class.{Class}
use Rattle.recipe_read.specs.declared.cursor.Class.TheVariants.{Blank, Digit, Word, InLine}
use Rattle.recipe_read.specs.declared.words.Verb.{Verb}
use Rattle.recipe_read.specs.Words.{Text, verb_of, padding_of, name_of}

abbrev pub Reader : Type 0 → Type 0
Reader A = Text → Option (A × Text)

abbrev pub and_then : {A B : Type 0} → Option (A × Text) → (A → Reader B) → Option (B × Text)
and_then None f = None
and_then (Some p) f = f p.0 p.1

infixl 10 ◌>>=◌
abbrev pub ◌>>=◌ : {A B : Type 0} → Reader A → (A → Reader B) → Reader B
r >>= f = λ z. and_then (r z) f

infixl 10 ◌>>◌
abbrev pub ◌>>◌ : {A B : Type 0} → Reader A → Reader B → Reader B
r >> s = r >>= (λ _. s)

abbrev pub pure : {A : Type 0} → A → Reader A
pure a = λ z. Some (a, z)

-- ---- bytes

abbrev pub is_in : Class → ℕ → Bool
is_in Blank b = b == 32
is_in Digit b = is_ascii_digit b
is_in Word b = is_ascii_alphanumeric b || b == 95
is_in InLine b = not (b == 10)

-- the bytes of the class at the front, and what is behind them
abbrev pub run : Class → Text → Text
run class z = take (prefix_len (is_in class) z) z

abbrev pub past : Class → Text → Text
past class z = drop (prefix_len (is_in class) z) z

-- what comes behind the blanks
unfoldable pub trim : Text → Text
trim z = past Blank z

-- what is made of the run at the front, if it is of use
abbrev pub taken : {A : Type 0} → Option A → Text → Option (A × Text)
taken None rest = None
taken (Some a) rest = Some (a, rest)

-- ---- signs

-- the sign stands at the front
abbrev pub begins : ℕ → Text → Bool
begins sign z = not (length z == 0) && (slice_index z 0 == sign)

-- the sign comes next
unfoldable pub sees : ℕ → Text → Bool
sees sign z = begins sign (trim z)

unfoldable pub after : ℕ → Text → Text
after sign z = if sees sign z then drop 1 (trim z) else z

unfoldable pub sign : ℕ → Reader (Unit {0})
sign c z = if sees c z then Some (tt, after c z) else None

-- ---- numbers

-- what digits write
unfoldable pub value : Text → ℕ
value = fold (λ n d. 10 * n + (d - 48)) 0

-- the number, if a recipe may have it
abbrev pub small : ℕ → Option ℕ
small n = if nat_le n 2147483647 then Some n else None

-- there is a digit, and no 0 before others
abbrev pub is_number : Text → Bool
is_number digits = not (length digits == 0) && not (nat_lt 1 (length digits) && (slice_index digits 0 == 48))

unfoldable pub number_of : Text → Option ℕ
number_of digits = if is_number digits then small (value digits) else None

unfoldable pub number_here : Reader ℕ
number_here z = taken (number_of (run Digit z)) (past Digit z)

unfoldable pub number : Reader ℕ
number z = number_here (trim z)

-- a `-` belongs to its number, so that no blank stands between them
unfoldable pub integer : Reader ℤ
integer z = if sees 45 z then (number_here >>= λ n. pure (neg_ℤ (pos n))) (after 45 z) else (number >>= λ n. pure (pos n)) z

-- ---- words

-- the word with which a command begins: no blank stands before it
unfoldable pub command_word : Reader Verb
command_word z = taken (verb_of (run Word z)) (past Word z)

unfoldable pub name : Reader Text
name z = taken (name_of (run Word (trim z))) (past Word (trim z))

unfoldable pub layout : Reader Padding
layout z = taken (padding_of (run Word (trim z))) (past Word (trim z))

-- ---- what a function that reads ensures: the reader's outcome, unless memory runs out

abbrev pub Reads : {A : Type 0} → Option (A × Text) → Result A (Stop BadLine) → Text → Type 0
Reads outcome (Ok a) new = outcome ≡ Some (a, new)
Reads outcome (Err (Refused _)) new = outcome ≡ None
Reads outcome (Err NoMemory) new = Unit {0}
