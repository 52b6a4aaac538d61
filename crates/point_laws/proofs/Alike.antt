-- Two forms that are equal where each term counts as the one that stands for it have one value.
use Rattle.std.proofs.Common.{◌≡◌, ◌⊎◌, inl, inr, ℕ, zero, suc, ◌+◌, ◌<◌, ◌≤◌, Bool, true, false, cond, List, [], ◌∷◌, map, length, refl, sym, ◌∙◌, ap, subst, arith, ℤ, pos, ◌+ℤ◌, ◌*ℤ◌}
use Rattle.std.specs.Prelude.{Option, Some, None, slice_get}
use Rattle.std.specs.List.{list_all, range_with_len}
use Rattle.std.specs.Ordering.{int_eq}
use Rattle.std.proofs.lemmas.Int.{ints}
use Rattle.std.proofs.lemmas.Bool.{and_parts}
use Rattle.std.proofs.lemmas.Bool.Decides.{Decides-int_eq}
use Rattle.int_rows.specs.declared.row.Aff.{Aff}
use Rattle.int_rows.specs.Rows.{dot}
use Rattle.nest_tree.specs.Forms.{value, coef, combined, variable}
use Rattle.nest_tree.specs.Pieces.{IsLike}
use lib.IntN.{*ℤ-zero}
use Rattle.nest_core.specs.Numbers.{is_small}
use Rattle.nest_laws.proofs.Forms.{value-combined}
use Rattle.nest_laws.proofs.Made.{coef-combined}
use Rattle.nest_laws.proofs.Narrow.{like-value}
use Rattle.nest_laws.proofs.Points.{dot-same}
use Rattle.nest_systems.specs.Sums.{number_at}
use Rattle.nest_systems.specs.Placing.{numbers_there, total, small_total}
use Rattle.nest_systems.specs.Choosing.{same_total, balances, same_number, are_equal}
use Rattle.point_laws.specs.Seated.{seat_form}
use Rattle.point_laws.specs.Alike.{IsMet, StandFor, EqualFormsHaveOneValue}
use Rattle.point_laws.proofs.Seated.{number-coef, from, coef-from, seats-total, nothing-there, below_or_not}

-- the products of the first n numbers
abbrev head_dot : ℕ → List ℤ → List ℤ → ℤ
head_dot zero cs p = pos 0
head_dot (suc n) [] p = pos 0
head_dot (suc n) (c ∷ cs) [] = pos 0
head_dot (suc n) (c ∷ cs) (x ∷ p) = c *ℤ x +ℤ head_dot n cs p

from-nil : (n : ℕ) → from n [] ≡ []
from-nil zero = refl
from-nil (suc n) = from-nil n

dot-none : (cs : List ℤ) → dot cs [] ≡ pos 0
dot-none [] = refl
dot-none (c ∷ cs) = refl

dot-parts : (n : ℕ) (cs p : List ℤ) → dot cs p ≡ head_dot n cs p +ℤ dot (from n cs) (from n p)
dot-parts zero cs p = omega (arith, ints)
dot-parts (suc n) [] p = let e : dot (from n []) (from (suc n) p) ≡ pos 0 = ap (λ (l : List ℤ). dot l (from (suc n) p)) (from-nil n) in omega (arith, ints, e)
dot-parts (suc n) (c ∷ cs) [] = let e : dot (from n cs) (from n []) ≡ pos 0 = ap (λ (l : List ℤ). dot (from n cs) l) (from-nil n) ∙ dot-none (from n cs) in omega (arith, ints, e)
dot-parts (suc n) (c ∷ cs) (x ∷ p) = let e = dot-parts n cs p in omega (arith, ints, e)

head-none : (n : ℕ) (p : List ℤ) → head_dot n [] p ≡ pos 0
head-none zero p = refl
head-none (suc n) p = refl

head-same : (n : ℕ) (cs ds p : List ℤ) → ((v : ℕ) → v < n → coef v cs ≡ coef v ds) → head_dot n cs p ≡ head_dot n ds p
head-same zero cs ds p h = refl
head-same (suc n) [] [] p h = refl
head-same (suc n) [] (d ∷ ds) [] h = refl
head-same (suc n) [] (d ∷ ds) (x ∷ p) h =
    let a : d ≡ pos 0 = sym (h 0 (omega arith)) in
    let b = head-same n [] ds p (λ v l. h (suc v) (omega (arith, l))) in
    let c = head-none n p in
    rw a (omega (arith, ints, b, c))
head-same (suc n) (c ∷ cs) [] [] h = refl
head-same (suc n) (c ∷ cs) [] (x ∷ p) h =
    let a : c ≡ pos 0 = h 0 (omega arith) in
    let b = head-same n cs [] p (λ v l. h (suc v) (omega (arith, l))) in
    let d = head-none n p in
    rw a (omega (arith, ints, b, d))
head-same (suc n) (c ∷ cs) (d ∷ ds) [] h = refl
head-same (suc n) (c ∷ cs) (d ∷ ds) (x ∷ p) h =
    let a : c ≡ d = h 0 (omega arith) in
    let b = head-same n cs ds p (λ v l. h (suc v) (omega (arith, l))) in
    rw a (omega (arith, ints, b))

pub dot-unit : (u : ℕ) (p : List ℤ) → dot (variable u).coefs p ≡ coef u p
dot-unit zero [] = refl
dot-unit zero (x ∷ p) = omega (arith, ints)
dot-unit (suc u) [] = refl
dot-unit (suc u) (x ∷ p) = let e = dot-unit u p in omega (arith, ints, e)

pub rep-at : (p : List ℤ) (same : List (Option ℕ)) (j : ℕ) (o : Option ℕ) → slice_get same j ≡ Some o → coef j (map (value p) (map seat_form same)) ≡ value p (seat_form o)
rep-at p [] j o h = absurd cc
rep-at p (s ∷ same) zero o h = let e : s ≡ o = cc in ap (λ (x : Option ℕ). value p (seat_form x)) e
rep-at p (s ∷ same) (suc j) o h = rep-at p same j o h

pub coef-past : (cs : List ℤ) (j : ℕ) → length cs ≤ j → coef j cs ≡ pos 0
coef-past [] j h = refl
coef-past (c ∷ cs) zero h = absurd (omega (arith, h))
coef-past (c ∷ cs) (suc j) h = coef-past cs j (omega (arith, h))

pub got : (same : List (Option ℕ)) (j : ℕ) → ((o : Option ℕ) × (slice_get same j ≡ Some o)) ⊎ (length same ≤ j)
got [] j = inr (omega arith)
got (s ∷ same) zero = inl (s, refl)
got (s ∷ same) (suc j) = elim (got same j) [ inl g ↦ inl g | inr l ↦ inr (omega (arith, l)) ]

plain-constant : (ds : List ℤ) (same : List (Option ℕ)) → (combined ds (map seat_form same) (pos 0)).constant ≡ pos 0
plain-constant [] same = refl
plain-constant (d ∷ ds) [] = refl
plain-constant (d ∷ ds) (Some u ∷ same) = let a = *ℤ-zero d in let b = plain-constant ds same in omega (arith, ints, a, b)
plain-constant (d ∷ ds) (None ∷ same) = let a = *ℤ-zero d in let b = plain-constant ds same in omega (arith, ints, a, b)

-- sums that are equal where they are small are equal
same-totals : (zs ys : List ℤ) → same_total (small_total zs) (small_total ys) ≡ true → total zs ≡ total ys
unfolding small_total
same-totals zs ys h = by (list_all is_small zs) (is_small (total zs)) (list_all is_small ys) (is_small (total ys)) h
  where
    by : (a b c d : Bool) → same_total (cond a (cond b (Some (total zs)) None) None) (cond c (cond d (Some (total ys)) None) None) ≡ true → total zs ≡ total ys
    by true true true true k = (Decides-int_eq (total zs) (total ys)).0 k
    by true true true false k = absurd cc
    by true true false d k = absurd cc
    by true false c d k = absurd cc
    by false b c d k = absurd cc

all_at : (p : ℕ → Bool) (b n v : ℕ) → list_all p (range_with_len b n) ≡ true → v < n → p (b + v) ≡ true
all_at p b zero v h l = absurd (omega (arith, l))
all_at p b (suc n) zero h l = let e : b ≡ b + 0 = omega arith in subst (λ (k : ℕ). p k ≡ true) e (and_parts (p b) (list_all p (range_with_len (b + 1) n)) h).0
all_at p b (suc n) (suc v) h l = let e : b + 1 + v ≡ b + suc v = omega arith in subst (λ (k : ℕ). p k ≡ true) e (all_at p (b + 1) n v (and_parts (p b) (list_all p (range_with_len (b + 1) n)) h).1 (omega (arith, l)))

module _ (first : ℕ) (same : List (Option ℕ)) (p : List ℤ) (s : StandFor first same p) where
  abbrev vals : List ℤ
  vals = from first p

  abbrev reps : List Aff
  reps = map seat_form same

  -- the terms of a form, each by the one that stands for it
  by_reps : (f : Aff) → IsMet first same f → length f.coefs ≤ first + length same → dot (from first f.coefs) vals ≡ value vals (combined (from first f.coefs) reps (pos 0))
  by_reps f m l =
      let a = dot-same (from first f.coefs) vals (map (value vals) reps) (λ j held. elim (got same j) [
        | inl g ↦ each j g.0 g.1 held
        | inr e ↦ absurd (held (coef-from first j f.coefs ∙ coef-past f.coefs (first + j) (omega (arith, l, e))))
      ]) in
      let b = value-combined vals (from first f.coefs) reps (pos 0) in
      omega (arith, ints, a, b)
    where
      each : (j : ℕ) (o : Option ℕ) → slice_get same j ≡ Some o → (coef j (from first f.coefs) ≡ pos 0 → ⊥) → coef j vals ≡ coef j (map (value vals) reps)
      each j (Some u) g held =
          let w = dot-unit u vals in
          let x = coef-from first j p in
          let y = coef-from first u p in
          let z = (s j u g).1 in
          let r = rep-at vals same j (Some u) g in
          omega (arith, ints, w, x, y, z, r)
      each j None g held = absurd (held (coef-from first j f.coefs ∙ m j g))

  number-at_rep : (f : Aff) (v : ℕ) → coef v (combined (from first f.coefs) reps (pos 0)).coefs ≡ total (numbers_there first same v f.coefs)
  number-at_rep f v = coef-combined v (from first f.coefs) reps (pos 0) ∙ seats-total v first f.coefs (from first f.coefs) same (λ j. coef-from first j f.coefs)

  one_value : (a b : Aff) → are_equal first same a b ≡ true → IsMet first same a → IsMet first same b → length a.coefs ≤ first + length same → length b.coefs ≤ first + length same → value p a ≡ value p b
  unfolding are_equal
  one_value a b e ma mb la lb =
      let t = and_parts (int_eq a.constant b.constant) _ e in
      let u = and_parts (list_all (same_number a.coefs b.coefs) (range_with_len 0 first)) (list_all (balances first same a.coefs b.coefs) (range_with_len 0 (length same))) t.1 in
      let c : a.constant ≡ b.constant = (Decides-int_eq a.constant b.constant).0 t.0 in
      let h = head-same first a.coefs b.coefs p (λ v l. let z : 0 + v ≡ v = omega arith in let k = all_at (same_number a.coefs b.coefs) 0 first v u.0 l in
      sym (number-coef a.coefs v) ∙ (Decides-int_eq (number_at a.coefs v) (number_at b.coefs v)).0 (subst (λ (n : ℕ). same_number a.coefs b.coefs n ≡ true) z k) ∙ number-coef b.coefs v) in
      let like : IsLike (combined (from first a.coefs) reps (pos 0)) (combined (from first b.coefs) reps (pos 0)) = record {
        coefs = λ v. number-at_rep a v ∙ totals u.1 v ∙ sym (number-at_rep b v);
        constant = plain-constant (from first a.coefs) same ∙ sym (plain-constant (from first b.coefs) same);
      } in
      let k = like-value vals (combined (from first a.coefs) reps (pos 0)) (combined (from first b.coefs) reps (pos 0)) like in
      let x = by_reps a ma la in
      let y = by_reps b mb lb in
      let q = dot-parts first a.coefs p in
      let r = dot-parts first b.coefs p in
      omega (arith, ints, c, h, k, x, y, q, r)
    where
      totals : list_all (balances first same a.coefs b.coefs) (range_with_len 0 (length same)) ≡ true → (v : ℕ) → total (numbers_there first same v a.coefs) ≡ total (numbers_there first same v b.coefs)
      totals g v = elim (below_or_not v (length same)) [
        | inl l ↦ (let z : 0 + v ≡ v = omega arith in same-totals (numbers_there first same v a.coefs) (numbers_there first same v b.coefs) (subst (λ (n : ℕ). balances first same a.coefs b.coefs n ≡ true) z (all_at (balances first same a.coefs b.coefs) 0 (length same) v g l)))
        | inr l ↦ nothing-there first v a.coefs same (λ t w i d. let k = (s t w i).0 in omega (arith, l, k, d)) ∙ sym (nothing-there first v b.coefs same (λ t w i d. let k = (s t w i).0 in omega (arith, l, k, d)))
      ]

pub equal_forms : EqualFormsHaveOneValue
equal_forms first same a b p e ma mb la lb s = one_value first same p s a b e ma mb la lb
