-- A list that is printed from its last element.
use Rattle.std.proofs.Common.{◌≡◌, ℕ, suc, ◌+◌, ◌<◌, ◌≤◌, List, [], ◌∷◌, ◌++◌, length, drop, get_or, sym, ◌∙◌, ap, arith, append_assoc}
use Rattle.std.proofs.Math.Seq.{drop-cons}
use Rattle.std.proofs.lemmas.List.{drop_all, get_or_default}
use Rattle.c_print.specs.Printed.{Text}

-- the elements from a place on
from_place : {A : Type 0} (xs : List A) (i k : ℕ) (x : A) → i + 1 ≡ k → i < length xs → x ≡ get_or xs i x → drop i xs ≡ x ∷ drop k xs
from_place xs i k x next within is =
    let one : suc i ≡ k = omega arith in
    drop-cons xs i x within ∙ ap (λ y. y ∷ drop (suc i) xs) (sym is) ∙ ap (λ n. x ∷ drop n xs) one

-- the elements from a place on were put before what stood there
pub record IsPut {A : Type 0} (T : List A → Text) (xs : List A) (place : ℕ) (start out : Text) : Type 0 where
  pub within : place ≤ length xs
  pub text : out ≡ T (drop place xs) ++ start

pub begins : {A : Type 0} (T : List A → Text) (xs : List A) (start : Text) → T [] ≡ [] → IsPut T xs (length xs) start start
begins T xs start nil = record { within = omega arith; text = ap (λ z. z ++ start) (sym (ap T (drop_all (length xs) xs (omega arith)) ∙ nil)) }

pub turn : {A : Type 0} (T : List A → Text) (f : A → Text) (xs : List A) (i k : ℕ) (x : A) (start out more : Text) → ((y : A) (ys : List A) → T (y ∷ ys) ≡ f y ++ T ys)
    → IsPut T xs k start out → i + 1 ≡ k → x ≡ get_or xs i x → more ≡ f x ++ out → IsPut T xs i start more
turn T f xs i k x start out more cons put next is new =
    let within : i < length xs = omega (arith, put.within) in
    let here : T (drop i xs) ≡ f x ++ T (drop k xs) = ap T (from_place xs i k x next within is) ∙ cons x (drop k xs) in
    record {
      within = omega arith;
      text = new ∙ ap (λ z. f x ++ z) put.text ∙ sym (append_assoc (f x) (T (drop k xs)) start) ∙ ap (λ z. z ++ start) (sym here);
    }

pub ends : {A : Type 0} (T : List A → Text) (xs : List A) (k : ℕ) (start out : Text) → IsPut T xs k start out → k ≤ 0 → out ≡ T xs ++ start
ends T xs k start out put none =
    let zero_is : k ≡ 0 = omega arith in
    put.text ∙ ap (λ n. T (drop n xs) ++ start) zero_is

-- the same, where an element that is copied is read with some default
pub turn_at : {A : Type 0} (T : List A → Text) (f : A → Text) (xs : List A) (i k : ℕ) (d : A) (start out more : Text) → ((y : A) (ys : List A) → T (y ∷ ys) ≡ f y ++ T ys)
    → IsPut T xs k start out → i + 1 ≡ k → more ≡ f (get_or xs i d) ++ out → IsPut T xs i start more
turn_at T f xs i k d start out more cons put next new =
    let within : i < length xs = omega (arith, put.within) in
    turn T f xs i k (get_or xs i d) start out more cons put next (get_or_default xs i d (get_or xs i d) within) new
