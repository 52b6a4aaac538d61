-- What a cursor over tokens answers, in terms of the tokens that are left.
use Rattle.std.specs.Prelude.{◌≡◌, Bool, false, if◌then◌else◌, List, [], ◌∷◌, Option, Some, None, Result, Ok, Err}
use denote.Enum.Bare.{sameb}
use Rattle.c_tokens.specs.contracts.token.Sign.{the_type}
use Rattle.c_tokens.specs.declared.token.Sign.{Sign}
use Rattle.c_tokens.specs.declared.token.Token.{Token}
use Rattle.c_tokens.specs.declared.token.Token.TheVariants as t
use Rattle.c_tokens.specs.declared.tokens.Unexpected.{Unexpected}

-- are both one sign
unfoldable pub same_sign : Sign → Sign → Bool
same_sign = sameb the_type

-- the next token, unless none is left
abbrev pub first : List Token → Option Token
first [] = None
first (x ∷ xs) = Some x

-- the tokens after the next
abbrev pub rest : List Token → List Token
rest [] = []
rest (x ∷ xs) = xs

abbrev pub is_sign : Sign → Option Token → Bool
is_sign s (Some (t.Sign x)) = same_sign x s
is_sign s _ = false

-- does this sign come next
abbrev pub sees : Sign → List Token → Bool
sees s ts = is_sign s (first ts)

-- what a reader gives: a value and the tokens after it, or the tokens from the first that doesn't fit
abbrev pub Outcome : Type 0 → Type 0
Outcome A = Result (A × List Token) (List Token)

-- the sign is taken where it comes next
unfoldable pub expect : Sign → List Token → Outcome (Unit {0})
expect s ts = if sees s ts then Ok (tt, rest ts) else Err ts

-- an outcome as a call gives it: its value is answered, and the cursor stands where the reader does
abbrev pub Gives : {A : Type 0} → Outcome A → Result A Unexpected → List Token → Type 0
Gives outcome (Ok a) new = outcome ≡ Ok (a, new)
Gives outcome (Err e) new = outcome ≡ Err new
