-- Lists that are walked from the front.
use Rattle.std.proofs.Common.{ℕ, ◌+◌, ◌<◌, ◌≤◌, ◌≡◌, refl, sym, ap, ◌∙◌, Bool, true, List, [], ◌∷◌, length, drop, get_or, arith, add-one, zero, suc, drop-cons}
use Rattle.std.specs.List.{list_all}
use Rattle.c_meaning.proofs.Fitting.{and_left, and_right}

pub each_of : {A : Type 0} (f : A → Bool) (xs : List A) (i : ℕ) (d : A) → list_all f xs ≡ true → i < length xs → f (get_or xs i d) ≡ true
each_of f [] i d h k = absurd (omega (arith, k))
each_of f (x ∷ xs) zero d h k = and_left (f x) _ h
each_of f (x ∷ xs) (suc i) d h k = each_of f xs i d (and_right (f x) _ h) (omega arith)

-- the next element, and those behind it
pub drop-next : {A : Type 0} (xs : List A) (i : ℕ) (d : A) → i < length xs → drop i xs ≡ get_or xs i d ∷ drop (i + 1) xs
drop-next xs i d h = drop-cons xs i d h ∙ ap (λ n. get_or xs i d ∷ drop n xs) (sym (add-one i))

drop-nil : {A : Type 0} (i : ℕ) → drop i (let e : List A = [] in e) ≡ []
drop-nil zero = refl
drop-nil (suc i) = refl

pub drop-past : {A : Type 0} (xs : List A) (i : ℕ) → length xs ≤ i → drop i xs ≡ []
drop-past [] i h = drop-nil i
drop-past (x ∷ xs) zero h = absurd (omega (arith, h))
drop-past (x ∷ xs) (suc i) h = drop-past xs i (omega arith)
