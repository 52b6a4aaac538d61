-- The steps of a judged sum.
use Rattle.std.proofs.Common.{◌≡◌, ℕ, suc, ◌<◌, ◌≤◌, ◌+◌, ◌*◌, ◌^◌, ℤ, pos, ◌+ℤ◌, ◌*ℤ◌, unsigned_abs, Bool, true, false, cond, List, [], ◌∷◌, drop, length, get_or, arith, refl, sym, ap, ◌∙◌, drop-cons, add-one}
use Rattle.std.specs.Prelude.{Option, Some, None, IsTrue}
use Rattle.std.specs.List.{list_all}
use Rattle.std.proofs.lemmas.Int.{ints}
use Rattle.std.proofs.lemmas.List.{drop_all}
use Rattle.std.proofs.Math.Facts.{leb_yes}
use Rattle.int_rows.specs.declared.row.Aff.{Aff}
use Rattle.nest_core.specs.Numbers.{is_small, judged_number, product}
use Rattle.nest_core.specs.Forms.{number_at, summands, int_sum, judged_sum}

-- a start with further summands added, where these and the sum are within the limit
abbrev pub sum_made : ℤ → List ℤ → Option ℤ
sum_made start xs = cond (list_all is_small xs) (judged_number (start +ℤ int_sum xs)) None

pub judged-start : (start : ℤ) (xs : List ℤ) → is_small start ≡ true → judged_sum (start ∷ xs) ≡ sum_made start xs
unfolding judged_sum
judged-start start xs e = rw e refl

pub judged-not : (start : ℤ) (xs : List ℤ) → is_small start ≡ false → judged_sum (start ∷ xs) ≡ None
unfolding judged_sum
judged-not start xs e = rw e refl

-- the summands from the i-th level on
abbrev pub summands_from : ℕ → List ℤ → List Aff → ℕ → List ℤ
summands_from v cs fs i = summands v (drop i cs) (drop i fs)

summands-cons : (v : ℕ) (cs : List ℤ) (fs : List Aff) (i : ℕ) (f : Aff) → i < length cs → i < length fs → f ≡ get_or fs i f
    → summands_from v cs fs i ≡ (get_or cs i (pos 0) *ℤ number_at v f) ∷ summands_from v cs fs (i + 1)
summands-cons v cs fs i f h g d =
    let a : drop i cs ≡ get_or cs i (pos 0) ∷ drop (suc i) cs = drop-cons cs i (pos 0) h in
    let b : drop i fs ≡ f ∷ drop (suc i) fs = drop-cons fs i f g ∙ ap (λ (x : Aff). x ∷ drop (suc i) fs) (sym d) in
    rw (add-one i, a, b) refl

sum-cons : (t x : ℤ) (xs : List ℤ) → is_small x ≡ true → sum_made t (x ∷ xs) ≡ sum_made (t +ℤ x) xs
sum-cons t x xs e =
    let a : t +ℤ (x +ℤ int_sum xs) ≡ t +ℤ x +ℤ int_sum xs = omega (arith, ints) in
    rw (e, a) refl

sum-large : (t x : ℤ) (xs : List ℤ) → is_small x ≡ false → sum_made t (x ∷ xs) ≡ None
sum-large t x xs e = rw e refl

small_some : (a b p : ℤ) → Some p ≡ product a b → (p ≡ a *ℤ b) × (is_small (a *ℤ b) ≡ true)
small_some a b p e = of (is_small (a *ℤ b)) e refl where
  of : (s : Bool) → Some p ≡ cond s (Some (a *ℤ b)) None → is_small (a *ℤ b) ≡ s → (p ≡ a *ℤ b) × (is_small (a *ℤ b) ≡ true)
  of true h d = (cc, d)
  of false h d = absurd cc

none_large : (a b : ℤ) → None ≡ product a b → is_small (a *ℤ b) ≡ false
none_large a b e = of (is_small (a *ℤ b)) e refl where
  of : (s : Bool) → None ≡ cond s (Some (a *ℤ b)) None → is_small (a *ℤ b) ≡ s → is_small (a *ℤ b) ≡ false
  of true h d = absurd cc
  of false h d = d

small_le : (z : ℤ) → is_small z ≡ true → unsigned_abs z ≤ 2 ^ 126
small_le z e = leb_yes (rw e tt)

pub small_number : (a b p : ℤ) → Some p ≡ product a b → IsTrue (is_small p)
small_number a b p e = let k = small_some a b p e in rw (k.0, k.1) refl

-- what the loop keeps at the i-th level
pub record Sums (v : ℕ) (cs : List ℤ) (fs : List Aff) (start : ℤ) (i : ℕ) (total : ℤ) : Type 0 where
  pub room : unsigned_abs total ≤ (i + 1) * 2 ^ 126
  pub rest : sum_made total (summands_from v cs fs i) ≡ sum_made start (summands v cs fs)

module _ (v : ℕ) (cs : List ℤ) (fs : List Aff) (start : ℤ) (i : ℕ) (total : ℤ) (f : Aff) where
  pub sums-more : (p : ℤ) → i < length cs → i < length fs → f ≡ get_or fs i f → Some p ≡ product (get_or cs i (pos 0)) (number_at v f)
      → Sums v cs fs start i total → Sums v cs fs start (i + 1) (total +ℤ p)
  sums-more p h g d m s =
      let k = small_some (get_or cs i (pos 0)) (number_at v f) p m in
      let small : unsigned_abs p ≤ 2 ^ 126 = rw k.0 (small_le (get_or cs i (pos 0) *ℤ number_at v f) k.1) in
      record {
        room = omega (arith, ints, s.room, small);
        rest = ap (λ (q : ℤ). sum_made (total +ℤ q) (summands_from v cs fs (i + 1))) k.0
            ∙ sym (sum-cons total (get_or cs i (pos 0) *ℤ number_at v f) (summands_from v cs fs (i + 1)) k.1)
            ∙ ap (sum_made total) (sym (summands-cons v cs fs i f h g d)) ∙ s.rest;
      }

  pub sums-large : i < length cs → i < length fs → f ≡ get_or fs i f → None ≡ product (get_or cs i (pos 0)) (number_at v f)
      → Sums v cs fs start i total → is_small start ≡ true → None ≡ judged_sum (start ∷ summands v cs fs)
  sums-large h g d m s b =
      let k = none_large (get_or cs i (pos 0)) (number_at v f) m in
      rw (summands-cons v cs fs i f h g d, k) at s.rest ∙ sym (judged-start start (summands v cs fs) b)

pub sums-end : (v : ℕ) (cs : List ℤ) (fs : List Aff) (start : ℤ) (i : ℕ) (total : ℤ) → length cs ≤ i → Sums v cs fs start i total → is_small start ≡ true → judged_number total ≡ judged_sum (start ∷ summands v cs fs)
sums-end v cs fs start i total l s b =
    let none : drop i cs ≡ [] = drop_all i cs l in
    let same : total +ℤ pos 0 ≡ total = omega (arith, ints) in
    rw (none, same) at s.rest ∙ sym (judged-start start (summands v cs fs) b)
