-- The names and numbers among the tokens of a text.
use Rattle.std.proofs.Common.{◌≡◌, ℕ, zero, suc, ◌+◌, ◌-◌, ◌<◌, ◌≤◌, ◌^◌, Bool, true, false, not, cond, ◌&&◌, List, [], ◌∷◌, length, take, drop, refl, ap, sym, subst, ◌∙◌, arith, Option, Some, None}
use Rattle.std.specs.Prelude.{slice_index, nat_le, nat_lt, if◌then◌else◌, ◌==◌}
use Rattle.std.specs.List.{AllByRecursion, list_all, prefix_len}
use Rattle.std.specs.Char.{is_ascii_digit}
use Rattle.std.proofs.lemmas.Bool.Decides.{nat_tests}
use Rattle.c_tokens.specs.declared.token.Sign.{Sign}
use Rattle.c_tokens.specs.declared.token.Sign.TheVariants as s
use Rattle.c_tokens.specs.declared.token.Token.{Token}
use Rattle.c_tokens.specs.declared.token.Token.TheVariants as t
use Rattle.c_tokens.specs.declared.pieces.Margin.{Margin}
use Rattle.c_tokens.specs.declared.pieces.Margin.TheVariants as m
use Rattle.c_tokens.specs.declared.pieces.Piece.{Piece}
use Rattle.c_tokens.specs.Signs.{sign_at, word_of, is_keyword}
use Rattle.c_tokens.specs.Pieces.{is_space, is_word_byte, run_len, value, are_digits, has_leading_zero, number, name, word_by, token_of_run, taken, space, closing, closed, comment, sign_by, sign, is_skipped, hash, piece, prepend, tokens_from, tokens_of}
use Rattle.read_back.specs.Names.{Text, IsName}

-- a name or number that a text can have
abbrev pub IsLegal : Token → Type 0
IsLegal (t.Name x) = IsName x
IsLegal (t.Number n) = n < 2 ^ 64
IsLegal (t.Sign x) = Unit {0}
IsLegal t.Bad = Unit {0}

abbrev pub AreLegal : List Token → Type 0
AreLegal ts = AllByRecursion IsLegal ts

-- ---- runs

below_limit : (n : ℕ) → nat_lt n (2 ^ 64) ≡ true → n < 2 ^ 64
below_limit n h = grind (arith, nat_tests)

number_legal : (run : Text) → IsLegal (number run)
number_legal run = by_test (are_digits run && not (has_leading_zero run)) (nat_lt (value run) (2 ^ 64)) refl
  where
    by_test : (a b : Bool) → nat_lt (value run) (2 ^ 64) ≡ b → IsLegal (if (a && b) then t.Number (value run) else t.Bad)
    by_test true true h = below_limit (value run) h
    by_test true false h = tt
    by_test false b h = tt

-- what a run that begins with no digit is
word_is : (run : Text) (o : Option Sign) → is_ascii_digit (slice_index run 0) ≡ false → word_of run ≡ o → token_of_run run ≡ word_by o run
unfolding token_of_run
word_is run o h k = rw (h, k) refl

digits_are : (run : Text) → is_ascii_digit (slice_index run 0) ≡ true → token_of_run run ≡ number run
unfolding token_of_run
digits_are run h = rw h refl

name_is : (run : Text) (k l : Bool) → is_keyword run ≡ k → nat_le (length run) 63 ≡ l → name run ≡ (if k then t.Sign s.Reserved else (if l then t.Name run else t.Bad))
name_is run k l e f = rw (e, f) refl

name_legal : (run : Text) (k l : Bool) → 1 ≤ length run → list_all is_word_byte run ≡ true → token_of_run run ≡ (if k then t.Sign s.Reserved else (if l then t.Name run else t.Bad)) → IsLegal (token_of_run run)
name_legal run true l some h e = subst IsLegal (sym e) tt
name_legal run false true some h e = subst IsLegal (sym e) (record { some = some; run = h; is = e })
name_legal run false false some h e = subst IsLegal (sym e) tt

word_legal : (run : Text) (o : Option Sign) → 1 ≤ length run → list_all is_word_byte run ≡ true → is_ascii_digit (slice_index run 0) ≡ false → word_of run ≡ o → IsLegal (token_of_run run)
word_legal run (Some x) some h d e = subst IsLegal (sym (word_is run (Some x) d e)) tt
word_legal run None some h d e =
    name_legal run (is_keyword run) (nat_le (length run) 63) some h (word_is run None d e ∙ name_is run (is_keyword run) (nat_le (length run) 63) refl refl)

run_legal : (run : Text) (d : Bool) → 1 ≤ length run → list_all is_word_byte run ≡ true → is_ascii_digit (slice_index run 0) ≡ d → IsLegal (token_of_run run)
run_legal run true some h e = subst IsLegal (sym (digits_are run e)) (number_legal run)
run_legal run false some h e = word_legal run (word_of run) some h e refl

take_more : (n b : ℕ) (z : Text) → take (1 + n) (b ∷ z) ≡ b ∷ take n z
take_more n b z = let e : 1 + n ≡ suc n = omega arith in ap (λ n. take n (b ∷ z)) e

front_passes : (p : ℕ → Bool) (z : Text) → list_all p (take (prefix_len p z) z) ≡ true
front_passes p [] = refl
front_passes p (b ∷ z) = by_test (front_passes p z) (p b) refl
  where
    by_test : list_all p (take (prefix_len p z) z) ≡ true → (c : Bool) → p b ≡ c → list_all p (take (cond c (1 + prefix_len p z) 0) (b ∷ z)) ≡ true
    by_test more true e = ap (list_all p) (take_more (prefix_len p z) b z) ∙ (rw (e, more) refl)
    by_test more false e = refl

front_some : (p : ℕ → Bool) (b : ℕ) (z : Text) → p b ≡ true → 1 ≤ length (take (prefix_len p (b ∷ z)) (b ∷ z))
front_some p b z h =
    let e : take (prefix_len p (b ∷ z)) (b ∷ z) ≡ b ∷ take (prefix_len p z) z = ap (λ c. take (cond c (1 + prefix_len p z) 0) (b ∷ z)) h ∙ take_more (prefix_len p z) b z in
    let n : length (take (prefix_len p (b ∷ z)) (b ∷ z)) ≡ length (b ∷ take (prefix_len p z) z) = ap length e in
    omega arith

-- ---- pieces

abbrev IsLegalPiece : Option Token → Type 0
IsLegalPiece None = Unit {0}
IsLegalPiece (Some x) = IsLegal x

abbrev Legal : Piece → Type 0
Legal p = IsLegalPiece p.token

either : (c : Bool) (p q : Piece) → (c ≡ true → Legal p) → Legal q → Legal (if c then p else q)
either true p q h k = h refl
either false p q h k = k

sign_by_legal : (o : Option Sign) (z : Text) → Legal (sign_by o z)
sign_by_legal (Some x) z = tt
sign_by_legal None z = tt

sign_legal : (z : Text) → Legal (sign z)
unfolding sign
sign_legal z = sign_by_legal (sign_at z) z

closed_legal : (o : Option ℕ) (z : Text) → Legal (closed o z)
closed_legal (Some n) z = tt
closed_legal None z = tt

comment_legal : (z : Text) → Legal (comment z)
unfolding comment
comment_legal z = either (slice_index z 1 == 47) _ _ (λ e. tt) (either (slice_index z 1 == 42) _ _ (λ e. closed_legal (closing 0 (drop 2 z)) z) tt)

hash_legal : (margin : Margin) (z : Text) → Legal (hash margin z)
unfolding hash
hash_legal margin z = either (is_skipped margin z) _ _ (λ e. tt) (sign_legal z)

piece_legal : (margin : Margin) (b : ℕ) (z : Text) → Legal (piece margin (b ∷ z))
unfolding piece
piece_legal margin b z =
    let text : Text = b ∷ z in
    either (is_space b) (space margin b) _ (λ e. tt)
    (either (b == 47) (comment text) _ (λ e. comment_legal text)
    (either (b == 35) (hash margin text) _ (λ e. hash_legal margin text)
    (either (is_word_byte b) (taken (token_of_run (take (run_len text) text)) (run_len text)) (sign text)
    (λ e. run_legal (take (run_len text) text) (is_ascii_digit (slice_index (take (run_len text) text) 0)) (front_some is_word_byte b z e) (front_passes is_word_byte text) refl)
    (sign_legal text))))

-- ---- texts

prepend_legal : (o : Option Token) (ts : List Token) → IsLegalPiece o → AreLegal ts → AreLegal (prepend o ts)
prepend_legal None ts h k = k
prepend_legal (Some x) ts h k = (h, k)

from_legal : (n : ℕ) (margin : Margin) (z : Text) → AreLegal (tokens_from n margin z)
from_legal n margin [] = tt
from_legal (suc n) margin (b ∷ z) = from_legal n margin z
from_legal zero margin (b ∷ z) =
    let p : Piece = piece margin (b ∷ z) in
    prepend_legal p.token (tokens_from (p.len - 1) p.margin z) (piece_legal margin b z) (from_legal (p.len - 1) p.margin z)

-- the names and numbers of a text are such as a text can have
pub tokens_legal : (text : Text) → AreLegal (tokens_of text)
unfolding tokens_of
tokens_legal text = from_legal 0 m.Start text
