-- Numbers that are read digit by digit.
use Rattle.std.proofs.Common.{◌≡◌, ℕ, zero, suc, ◌+◌, ◌-◌, ◌*◌, ◌<◌, ◌≤◌, [], ◌∷◌, length, take, get_or, fold, None, arith}
use Rattle.std.proofs.lemmas.List.Sums.{fold_more}
use Rattle.std.proofs.lemmas.Bool.Decides.{nat_tests}
use Rattle.recipe_read.specs.Words.{Text}
use Rattle.recipe_read.specs.Cursor.{value, small}

-- more digits write no smaller number
at_least : (n : ℕ) (digits : Text) → n ≤ fold (λ n d. 10 * n + (d - 48)) n digits
at_least n [] = omega arith
at_least n (d ∷ digits) = let h = at_least (10 * n + (d - 48)) digits in omega (arith, h)

front_least : (n : ℕ) (digits : Text) (k : ℕ) → fold (λ n d. 10 * n + (d - 48)) n (take k digits) ≤ fold (λ n d. 10 * n + (d - 48)) n digits
front_least n digits zero = at_least n digits
front_least n [] (suc k) = omega arith
front_least n (d ∷ digits) (suc k) = front_least (10 * n + (d - 48)) digits k

pub step_value : (digits : Text) (i : ℕ) → i < length digits → value (take (i + 1) digits) ≡ 10 * value (take i digits) + (get_or digits i 0 - 48)
unfolding value
step_value digits i h = fold_more (λ n d. 10 * n + (d - 48)) 0 digits i 0 h

-- where the first digits write a number that is too large, so do all
pub past_limit : (digits : Text) (k n : ℕ) → n ≡ value (take k digits) → 2147483647 < n → small (value digits) ≡ None
unfolding value
past_limit digits k n e h =
    let least = front_least 0 digits k in
    grind (arith, nat_tests)
