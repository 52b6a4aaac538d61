-- The tokens of a text, from the piece at its front on.
use Rattle.std.proofs.Common.{◌≡◌, ℕ, zero, suc, ◌+◌, ◌-◌, ◌≤◌, List, [], ◌∷◌, length, drop, refl, ap, sym, subst, ◌∙◌, arith}
use Rattle.std.specs.Prelude.{◌≢◌, true, false, Option, Some, None, is_some}
use Rattle.c_tokens.specs.declared.token.Token.{Token}
use Rattle.c_tokens.specs.declared.pieces.Margin.{Margin}
use Rattle.c_tokens.specs.declared.pieces.Margin.TheVariants.{Past}
use Rattle.c_tokens.specs.declared.pieces.Piece.{Piece}
use Rattle.c_tokens.specs.Pieces.{piece, prepend, tokens_from, tokens_after}
use Rattle.c_tokens.specs.Tokens.{first}

tokens_from-drop : (n : ℕ) (margin : Margin) (z : List ℕ) → tokens_from n margin z ≡ tokens_from 0 margin (drop n z)
tokens_from-drop zero margin z = refl
tokens_from-drop (suc n) margin [] = refl
tokens_from-drop (suc n) margin (b ∷ z) = tokens_from-drop n margin z

drop-cons : (n b : ℕ) (z : List ℕ) → 1 ≤ n → drop (n - 1) z ≡ drop n (b ∷ z)
drop-cons zero b z h = absurd (omega arith)
drop-cons (suc n) b z h = let e : suc n - 1 ≡ n = omega arith in ap (λ k. drop k z) e

-- behind the piece at the front the rest goes on by itself
pub past_piece : (margin : Margin) (text : List ℕ) → 1 ≤ length text → 1 ≤ (piece margin text).len
    → prepend (piece margin text).token (tokens_from 0 (piece margin text).margin (drop (piece margin text).len text)) ≡ tokens_from 0 margin text
past_piece margin [] some moves = absurd (omega arith)
past_piece margin (b ∷ z) some moves =
    let p = piece margin (b ∷ z) in
    rw (tokens_from-drop (p.len - 1) p.margin z, drop-cons p.len b z moves) refl

-- the token at hand is the first that is left
pub first_left : (token : Option Token) (text : List ℕ) → (token ≡ None → text ≡ []) → first (prepend token (tokens_after text)) ≡ token
first_left (Some x) text h = refl
first_left None text h = rw (h refl) refl

-- each token has a byte of its own
pub at_most_bytes : (n : ℕ) (margin : Margin) (z : List ℕ) → length (tokens_from n margin z) ≤ length z
at_most_bytes n margin [] = omega arith
at_most_bytes (suc n) margin (b ∷ z) = omega (arith, at_most_bytes n margin z)
at_most_bytes zero margin (b ∷ z) =
    let p = piece margin (b ∷ z) in one_more p.token (tokens_from (p.len - 1) p.margin z) (length z) (at_most_bytes (p.len - 1) p.margin z)
  where
    one_more : (o : Option Token) (ts : List Token) (n : ℕ) → length ts ≤ n → length (prepend o ts) ≤ suc n
    one_more None ts n h = omega arith
    one_more (Some x) ts n h = omega arith

none_of : (o : Option Token) → is_some o ≡ false → o ≡ None
none_of None h = refl
none_of (Some x) h = absurd cc

some_of : (o : Option Token) → is_some o ≡ true → o ≢ None
some_of None h = absurd cc
some_of (Some x) h = λ e. absurd cc

-- the same, where the piece is a token or is none
pub past_token : (margin : Margin) (text : List ℕ) (p : Piece) → p ≡ piece margin text → (1 ≤ p.len) × (p.len ≤ length text) → (p.token ≢ None → p.margin ≡ Past) → is_some p.token ≡ true
    → prepend p.token (tokens_after (drop p.len text)) ≡ tokens_from 0 margin text
past_token margin text p is within past some =
    let h = past_piece margin text (omega arith) (subst (λ (q : Piece). 1 ≤ q.len) is within.0) in
    ap (λ (m : Margin). prepend p.token (tokens_from 0 m (drop p.len text))) (sym (past (some_of p.token some)))
    ∙ subst (λ (q : Piece). prepend q.token (tokens_from 0 q.margin (drop q.len text)) ≡ tokens_from 0 margin text) (sym is) h

pub past_gap : (margin : Margin) (text : List ℕ) (p : Piece) → p ≡ piece margin text → (1 ≤ p.len) × (p.len ≤ length text) → is_some p.token ≡ false
    → tokens_from 0 p.margin (drop p.len text) ≡ tokens_from 0 margin text
past_gap margin text p is within none =
    let h = past_piece margin text (omega arith) (subst (λ (q : Piece). 1 ≤ q.len) is within.0) in
    ap (λ (o : Option Token). prepend o (tokens_from 0 p.margin (drop p.len text))) (sym (none_of p.token none))
    ∙ subst (λ (q : Piece). prepend q.token (tokens_from 0 q.margin (drop q.len text)) ≡ tokens_from 0 margin text) (sym is) h

-- the tokens that are left are few enough to be counted
pub left_fit : (token : Option Token) (text : List ℕ) → length (prepend token (tokens_after text)) ≤ length text + 1
left_fit None text = omega (arith, at_most_bytes 0 Past text)
left_fit (Some x) text = omega (arith, at_most_bytes 0 Past text)

-- a token at hand is one of those that are left
pub one_left : (o : Option Token) (ts : List Token) → is_some o ≡ true → length (prepend o ts) ≡ length ts + 1
one_left None ts h = absurd cc
one_left (Some x) ts h = omega arith

-- without a token at hand none is left
pub none_left : (o : Option Token) (text : List ℕ) → is_some o ≡ false → (o ≡ None → text ≡ []) → length (prepend o (tokens_after text)) ≡ 0
none_left None text h end = rw (end refl) refl
none_left (Some x) text h end = absurd cc
