-- Readers of tokens: a value and the tokens after it, or the tokens from the first one that doesn't fit.
use Rattle.std.specs.Prelude.{ℕ, zero, suc, ◌^◌, nat_le, ◌&&◌, Bool, false, if◌then◌else◌, List, length, Option, Some, None, Ok, Err, ℤ, pos, bytes_eq}
use Rattle.c_tokens.specs.declared.token.Token.{Token}
use Rattle.c_tokens.specs.declared.token.Token.TheVariants as t
use Rattle.c_tokens.specs.Tokens.{Outcome, first, rest}

abbrev pub Reader : Type 0 → Type 0
Reader A = List Token → Outcome A

abbrev pub and_then : {A B : Type 0} → Outcome A → (A → Reader B) → Outcome B
and_then (Ok p) f = f p.0 p.1
and_then (Err e) f = Err e

infixl 10 ◌>>=◌
abbrev pub ◌>>=◌ : {A B : Type 0} → Reader A → (A → Reader B) → Reader B
p >>= f = λ ts. and_then (p ts) f

infixl 10 ◌>>◌
abbrev pub ◌>>◌ : {A B : Type 0} → Reader A → Reader B → Reader B
p >> q = p >>= (λ _. q)

abbrev pub pure : {A : Type 0} → A → Reader A
pure a = λ ts. Ok (a, ts)

abbrev pub refuse : {A : Type 0} → Reader A
refuse = λ ts. Err ts

abbrev pub peek : Reader (Option Token)
peek = λ ts. Ok (first ts, ts)

abbrev pub skip : Reader (Unit {0})
skip = λ ts. Ok (tt, rest ts)

-- ---- pieces that follow one another. `next a token` reads one more piece behind those that made a, or is None
-- where a is all.

abbrev pub turn : {A : Type 0} → Option (Reader A) → (A → Reader A) → A → Reader A
turn None again a = pure a
turn (Some f) again a = f >>= again

-- at most so many turns
unfoldable pub turns : {A : Type 0} → (A → Option Token → Option (Reader A)) → ℕ → A → Reader A
turns next zero a = pure a
turns next (suc n) a = λ ts. turn (next a (first ts)) (turns next n) a ts

-- Every turn but the last takes a token, so there are at most as many as tokens, and one.
unfoldable pub many : {A : Type 0} → (A → Option Token → Option (Reader A)) → A → Reader A
many next a = λ ts. turns next (suc (length ts)) a ts

-- ---- names and numbers

abbrev pub name_by : Option Token → Reader (List ℕ)
name_by (Some (t.Name x)) = skip >> pure x
name_by _ = refuse

unfoldable pub name : Reader (List ℕ)
name = peek >>= name_by

abbrev pub is_name : List ℕ → Option Token → Bool
is_name x (Some (t.Name y)) = bytes_eq y x
is_name x _ = false

-- this very name
unfoldable pub word : List ℕ → Reader (Unit {0})
word x = λ ts. if is_name x (first ts) then Ok (tt, rest ts) else Err ts

-- a number of at most 2^62
abbrev pub constant_by : Option Token → Reader ℤ
constant_by (Some (t.Number n)) = if nat_le n (2 ^ 62) then skip >> pure (pos n) else refuse
constant_by _ = refuse

unfoldable pub constant : Reader ℤ
constant = peek >>= constant_by

-- the same, and at least 1
abbrev pub divisor_by : Option Token → Reader ℤ
divisor_by (Some (t.Number n)) = if nat_le 1 n && nat_le n (2 ^ 62) then skip >> pure (pos n) else refuse
divisor_by _ = refuse

unfoldable pub divisor : Reader ℤ
divisor = peek >>= divisor_by
