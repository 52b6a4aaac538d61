-- Decimal numbers are read back.
use Rattle.std.proofs.Common.{◌≡◌, ℕ, zero, suc, ◌+◌, ◌-◌, ◌*◌, ◌^◌, ◌<◌, ◌≤◌, Bool, true, false, ◌&&◌, List, [], ◌∷◌, ◌++◌, length, get_or, refl, ap, ◌∙◌, arith, rules}
use Rattle.std.specs.Prelude.{slice_index, decimal, nat_lt, fold, ◌==◌}
use Rattle.std.specs.List.{list_all}
use Rattle.std.specs.Char.{is_ascii_digit}
use Rattle.std.proofs.lemmas.Bool.Decides.{nat_tests}
use Rattle.std.proofs.lemmas.Fmt.{decimal_digit, decimal_nonempty, first_decimal, digits_decimal, digits_value-decimal}
use Rattle.std.proofs.lemmas.Str.Parse.{IsNumeralModel, numerals_by_fold}
use Rattle.c_tokens.specs.declared.token.Token.{Token}
use Rattle.c_tokens.specs.declared.token.Token.TheVariants as t
use Rattle.c_tokens.specs.declared.pieces.Margin.{Margin}
use Rattle.c_tokens.specs.Pieces.{is_word_byte, value, are_digits, has_leading_zero, number, token_of_run, tokens_from, tokens_after}
use Rattle.read_back.specs.Names.{Text, Ends}
use Rattle.read_back.proofs.Runs.{run_lexes}

abbrev value_from : ℕ → List ℕ → ℕ
value_from n ds = fold (λ n b. 10 * n + (b - 48)) n ds

own : IsNumeralModel (λ ds. are_digits ds ≡ true) (value_from 0)
own = numerals_by_fold _ (search rules) value_from (search rules)

digit_is_word : (b : ℕ) → is_ascii_digit b ≡ true → is_word_byte b ≡ true
digit_is_word b h = rw h refl

all_words : (ds : List ℕ) → are_digits ds ≡ true → list_all is_word_byte ds ≡ true
all_words [] h = refl
all_words (b ∷ bs) h = both (λ k. all_words bs k) (is_ascii_digit b) refl h
  where
    both : (are_digits bs ≡ true → list_all is_word_byte bs ≡ true) → (c : Bool) → is_ascii_digit b ≡ c → (c && are_digits bs) ≡ true → list_all is_word_byte (b ∷ bs) ≡ true
    both more true e k = rw (digit_is_word b e, more k) refl
    both more false e k = absurd cc

first_digit : (ds : List ℕ) → 1 ≤ length ds → are_digits ds ≡ true → is_ascii_digit (slice_index ds 0) ≡ true
first_digit [] some h = absurd (omega arith)
first_digit (b ∷ bs) some h = both (is_ascii_digit b) h
  where
    both : (c : Bool) → (c && are_digits bs) ≡ true → c ≡ true
    both true k = refl
    both false k = absurd cc

no_zero_first : (n : ℕ) → n < 2 ^ 64 → has_leading_zero (decimal n) ≡ false
no_zero_first zero small = rw (decimal_digit 0 (omega arith)) refl
no_zero_first (suc n) small =
    let first : 48 < get_or (decimal (suc n)) 0 0 = first_decimal (suc n) (omega arith) small in
    let not_zero : (slice_index (decimal (suc n)) 0 == 48) ≡ false = grind (arith, nat_tests) in
    rw not_zero refl

small_test : (n : ℕ) → n < 2 ^ 64 → nat_lt n (2 ^ 64) ≡ true
small_test n h = grind (arith, nat_tests)

number_is : (run : List ℕ) (n : ℕ) → are_digits run ≡ true → has_leading_zero run ≡ false → value run ≡ n → n < 2 ^ 64 → number run ≡ t.Number n
number_is run n digits zero_free is small = rw (digits, zero_free, is, small_test n small) refl

token_of_digits : (run : List ℕ) → is_ascii_digit (slice_index run 0) ≡ true → token_of_run run ≡ number run
unfolding token_of_run
token_of_digits run h = rw h refl

pub number_lexes : (margin : Margin) (n : ℕ) (rest : Text) → n < 2 ^ 64 → Ends rest → tokens_from 0 margin (decimal n ++ rest) ≡ t.Number n ∷ tokens_after rest
number_lexes margin n rest small e =
    let digits : are_digits (decimal n) ≡ true = digits_decimal own n small in
    let some : 1 ≤ length (decimal n) = omega (arith, decimal_nonempty n small) in
    let is : value (decimal n) ≡ n = digits_value-decimal own n small in
    run_lexes margin (decimal n) rest some (all_words (decimal n) digits) e
    ∙ ap (λ (x : Token). x ∷ tokens_after rest) (token_of_digits (decimal n) (first_digit (decimal n) some digits) ∙ number_is (decimal n) n digits (no_zero_first n small) is small)

-- a number begins with a digit
pub number_begins : (n : ℕ) → n < 2 ^ 64 → is_word_byte (slice_index (decimal n) 0) ≡ true
number_begins n small =
    digit_is_word (slice_index (decimal n) 0) (first_digit (decimal n) (omega (arith, decimal_nonempty n small)) (digits_decimal own n small))
