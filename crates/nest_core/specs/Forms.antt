-- Affine forms: their numbers, and what they become where each level is replaced by a form of new variables.
use Rattle.std.specs.Prelude.{ℕ, suc, ◌+◌, Bool, cond, ◌==◌, List, [], ◌∷◌, ◌++◌, take, drop, length, replicate, ℤ, pos, ◌+ℤ◌, ◌*ℤ◌, slice_index_or, Option, Some, None, Result, Ok, Err}
use Rattle.std.specs.List.{list_all}
use Rattle.int_rows.specs.declared.row.Aff.{Aff}
use Rattle.nest_core.specs.declared.form.Frame.{Frame}
use Rattle.int_rows.specs.declared.row.Excess.{Excess}
use Rattle.int_rows.specs.declared.row.Excess.TheVariants.{Large}
use Rattle.nest_core.specs.Numbers.{is_small, judged_number}
use Rattle.nest_core.specs.Making.{after, before}

-- the number at a place: a coefficient, or behind them the constant
abbrev pub number_at : ℕ → Aff → ℤ
number_at v f = slice_index_or f.coefs v f.constant

-- how many variables the old forms have
abbrev pub old_vars : Frame → ℕ
old_vars s = s.params + s.levels + s.terms

abbrev pub new_vars : Frame → ℕ
new_vars s = s.params + s.new_levels + s.terms + s.new_terms

-- the form has one coefficient for each variable
abbrev pub has_vars : ℕ → Aff → Bool
has_vars n f = length f.coefs == n

-- the coefficients of the old levels
unfoldable pub level_coefs : Frame → List ℤ → List ℤ
level_coefs s cs = take s.levels (drop s.params cs)

-- the coefficients over the new variables, without those of the old levels
unfoldable pub lifted : Frame → List ℤ → List ℤ
lifted s cs = take s.params cs ++ replicate s.new_levels (pos 0) ++ drop (s.params + s.levels) cs ++ replicate s.new_terms (pos 0)

-- what each level gives at a place: its coefficient times the number of its form
abbrev pub summands : ℕ → List ℤ → List Aff → List ℤ
summands v [] _ = []
summands v (c ∷ cs) [] = []
summands v (c ∷ cs) (f ∷ fs) = (c *ℤ number_at v f) ∷ summands v cs fs

abbrev pub int_sum : List ℤ → ℤ
int_sum [] = pos 0
int_sum (x ∷ xs) = x +ℤ int_sum xs

-- the sum of numbers, where each of these and the sum is within the limit
unfoldable pub judged_sum : List ℤ → Option ℤ
judged_sum xs = cond (list_all is_small xs) (judged_number (int_sum xs)) None

abbrev pub or_large : ℕ → Option ℤ → Result ℤ Excess
or_large v (Some z) = Ok z
or_large v None = Err (Large v)

-- the new number at place v
unfoldable pub number_made : List ℤ → List Aff → ℕ → ℤ → Result ℤ Excess
number_made cs old v start = or_large v (judged_sum (start ∷ summands v cs old))

-- the new numbers from place v on
abbrev pub numbers_made : List ℤ → List Aff → ℕ → List ℤ → Result (List ℤ) Excess
numbers_made cs old v [] = Ok []
numbers_made cs old v (z ∷ zs) = before (number_made cs old v z) (numbers_made cs old (suc v) zs)

-- the form with each old level replaced by its form in `old`; `Large` at the first place whose number, or a product met in making it, is past the limit
unfoldable pub rewritten : Frame → List Aff → Aff → Result Aff Excess
rewritten s old f =
    let cs = level_coefs s f.coefs in
    let starts = lifted s f.coefs in
    after (numbers_made cs old 0 starts) (λ numbers. after (number_made cs old (length starts) f.constant) (λ z. Ok (record { coefs = numbers; constant = z })))

-- the number at place v, where it is within the limit
unfoldable pub number_judged : ℕ → ℤ → Result ℤ Excess
number_judged v z = or_large v (judged_number z)

abbrev pub numbers_judged : ℕ → List ℤ → Result (List ℤ) Excess
numbers_judged v [] = Ok []
numbers_judged v (z ∷ zs) = before (number_judged v z) (numbers_judged (suc v) zs)

-- the form, or `Large` at the first place whose number is past the limit
unfoldable pub judged_form : Aff → Result Aff Excess
judged_form f = after (numbers_judged 0 f.coefs) (λ cs. after (number_judged (length f.coefs) f.constant) (λ z. Ok (record { coefs = cs; constant = z })))
