-- The seats of a statement whose variables stand in a system.
use Rattle.std.proofs.Common.{◌≡◌, inl, inr, ℕ, zero, suc, ◌+◌, ◌<◌, ◌≤◌, Bool, true, false, cond, List, [], ◌∷◌, map, length, refl, sym, ◌∙◌, ap, subst, arith, ℤ, pos, nat_eq}
use Rattle.std.specs.Prelude.{Option, Some, None, slice_get}
use Rattle.std.specs.List.{position_from}
use Rattle.std.proofs.lemmas.Bool.{eqb-true, eq-eqb}
use Rattle.int_rows.specs.declared.row.Aff.{Aff}
use Rattle.nest_tree.specs.declared.kernel.Term.{Term}
use Rattle.nest_tree.specs.Lists.{IsIn, IsAt}
use Rattle.nest_tree.specs.Forms.{coef}
use Rattle.nest_systems.specs.declared.instance.Instance.{Instance}
use Rattle.nest_systems.specs.declared.seats.Places.{Places}
use Rattle.nest_systems.specs.Parts.{behind}
use Rattle.nest_systems.specs.Seating.{is_number, or_else, end_seat, seat}
use Rattle.point_laws.specs.Seats.{Seats, AreSeats}
use Rattle.point_laws.specs.Seated.{AreApart}
use Rattle.point_laws.specs.Alike.{IsMet}
use Rattle.point_laws.specs.Standing.{AreStoodFor}
use Rattle.point_laws.specs.Placed.{IsSeatedAt}

-- ---- the place of a number in a list
pub place-at : (n b k : ℕ) (xs : List ℕ) → position_from (is_number n) b xs ≡ Some k → (j : ℕ) × (k ≡ b + j) × IsAt j n xs
place-at n b k [] e = absurd cc
place-at n b k (x ∷ xs) e = by (nat_eq x n) refl e (place-at n (b + 1) k xs)
  where
    by : (c : Bool) → nat_eq x n ≡ c → cond c (Some b) (position_from (is_number n) (b + 1) xs) ≡ Some k
        → (position_from (is_number n) (b + 1) xs ≡ Some k → (j : ℕ) × (k ≡ b + 1 + j) × IsAt j n xs) → (j : ℕ) × (k ≡ b + j) × IsAt j n (x ∷ xs)
    by true f h more = let d : b ≡ k = cc in (0, omega (arith, d), sym (eqb-true x n f))
    by false f h more = let m = more h in let d = m.1 in (suc m.0, omega (arith, d), m.2)

pub place-found : (n b : ℕ) (xs : List ℕ) → IsIn n xs → (k : ℕ) × (position_from (is_number n) b xs ≡ Some k)
place-found n b [] h = absurd h
place-found n b (x ∷ xs) h = by (nat_eq x n) refl (place-found n (b + 1) xs)
  where
    by : (c : Bool) → nat_eq x n ≡ c → (IsIn n xs → (k : ℕ) × (position_from (is_number n) (b + 1) xs ≡ Some k)) → (k : ℕ) × (position_from (is_number n) b (x ∷ xs) ≡ Some k)
    by true f more = (b, rw f refl)
    by false f more =
        let other : x ≡ n → ⊥ = λ e. (let t : nat_eq x n ≡ true = eq-eqb x n e in let u : true ≡ false = sym t ∙ f in cc) in
        let m = more (elim h [ inl e ↦ absurd (other (sym e)) | inr k ↦ k ]) in
        (m.0, rw f m.1)

pub got-map : {A B : Type 0} (F : A → B) (xs : List A) (t : ℕ) (y : B) → slice_get (map F xs) t ≡ Some y → (x : A) × (slice_get xs t ≡ Some x) × (F x ≡ y)
got-map F [] t y h = absurd cc
got-map F (x ∷ xs) zero y h = (x, refl, cc)
got-map F (x ∷ xs) (suc t) y h = got-map F xs t y h

-- where the values of a statement's variables stand in a system: those of the parameters, of its levels, and of the terms that are variables in their order
pub record StandsIn (x : Instance) (pl : Places) (p q : List ℤ) : Type 0 where
  pub params : (v : ℕ) → v < pl.params → coef v q ≡ coef v p
  pub levels : (l : ℕ) → l < x.levels → coef (pl.first_level + l) q ≡ coef (pl.params + l) p
  pub terms : (k t : ℕ) → IsAt k t x.chosen.order → coef (pl.first_term + k) q ≡ coef (pl.params + x.levels + t) p

-- the variables stand apart in the system
pub record HasPlaces (x : Instance) (pl : Places) : Type 0 where
  pub first : pl.params ≤ pl.first_level
  pub levels : pl.first_level + x.levels ≤ pl.first_term
  pub terms : pl.first_term + length x.chosen.order ≤ pl.vars

at-within : (k t : ℕ) (xs : List ℕ) → IsAt k t xs → k < length xs
at-within k t [] h = absurd h
at-within zero t (x ∷ xs) h = omega arith
at-within (suc k) t (x ∷ xs) h = omega (arith, at-within k t xs h)

-- no variable stands at the very end
module _ (x : Instance) (pl : Places) (s : Seats) (from : ℕ) (terms : List Term) (p q : List ℤ) (seats : AreSeats x pl [] s) (stood : AreStoodFor (pl.params + x.levels) from terms p x.chosen)
    (no_ends : (t : ℕ) → IsIn t x.chosen.ends → ⊥) where
  end-none : (o : Option Term) → end_seat pl [] o ≡ None
  end-none (Some t) = refl
  end-none None = refl

  -- the seat of a term is that of the one that stands for it
  seat-is : (t v : ℕ) → slice_get s.terms t ≡ Some (Some v) → (one k : ℕ) × (slice_get x.chosen.same t ≡ Some (Some one)) × (v ≡ pl.first_term + k) × IsAt k one x.chosen.order
  seat-is t v e =
      let g = got-map (seat x pl []) x.chosen.same t (Some v) (subst (λ (l : List (Option ℕ)). slice_get l t ≡ Some (Some v)) seats.terms e) in
      by g.0 g.1 g.2
    where
      of : (one : ℕ) (o : Option ℕ) → position_from (is_number one) 0 x.chosen.order ≡ o → or_else (behind pl.first_term o) (end_seat pl [] (slice_get x.terms one)) ≡ Some v → (k : ℕ) × (v ≡ pl.first_term + k) × IsAt k one x.chosen.order
      of one (Some k) h f = let a = place-at one 0 k x.chosen.order h in let d : pl.first_term + k ≡ v = cc in let b = a.1 in (a.0, omega (arith, b, d), a.2)
      of one None h f = absurd (let d : None ≡ Some v = sym (end-none (slice_get x.terms one)) ∙ f in cc)

      by : (o : Option ℕ) → slice_get x.chosen.same t ≡ Some o → seat x pl [] o ≡ Some v → (one k : ℕ) × (slice_get x.chosen.same t ≡ Some (Some one)) × (v ≡ pl.first_term + k) × IsAt k one x.chosen.order
      by (Some one) h f = let a = of one (position_from (is_number one) 0 x.chosen.order) refl f in (one, a.0, h, a.1, a.2)
      by None h f = absurd cc

  -- a term that one stands for has a seat
  seat-some : (t one : ℕ) → slice_get x.chosen.same t ≡ Some (Some one) → slice_get s.terms t ≡ Some None → ⊥
  seat-some t one h e =
      let g = got-map (seat x pl []) x.chosen.same t None (subst (λ (l : List (Option ℕ)). slice_get l t ≡ Some None) seats.terms e) in
      let o : g.0 ≡ Some one = (let d : Some g.0 ≡ Some (Some one) = sym g.1 ∙ h in cc) in
      let m : IsIn one x.chosen.order = elim (stood.listed t one h) [ inl a ↦ a | inr a ↦ absurd (no_ends one a) ] in
      let k = place-found one 0 x.chosen.order m in
      let n : seat x pl [] (Some one) ≡ None = subst (λ (y : Option ℕ). seat x pl [] y ≡ None) o g.2 in
      let z : or_else (behind pl.first_term (Some k.0)) (end_seat pl [] (slice_get x.terms one)) ≡ None = subst (λ (y : Option ℕ). or_else (behind pl.first_term y) (end_seat pl [] (slice_get x.terms one)) ≡ None) k.1 n in
      let w : Some (pl.first_term + k.0) ≡ None = z in cc

  pub seats-met : (f : Aff) → IsMet (pl.params + x.levels) x.chosen.same f → IsMet (pl.params + x.levels) s.terms f
  seats-met f m t e =
      let g = got-map (seat x pl []) x.chosen.same t None (subst (λ (l : List (Option ℕ)). slice_get l t ≡ Some None) seats.terms e) in
      by g.0 g.1
    where
      by : (o : Option ℕ) → slice_get x.chosen.same t ≡ Some o → coef (pl.params + x.levels + t) f.coefs ≡ pos 0
      by (Some one) h = absurd (seat-some t one h e)
      by None h = m t h

  pub seats-at : StandsIn x pl p q → IsSeatedAt s p q
  seats-at h = record {
    params = λ v l. h.params v (let e = seats.params in omega (arith, l, e));
    levels = λ v l.
        let k = seats.levels in
        let a : s.first_level + v ≡ pl.first_level + v = ap (λ (n : ℕ). n + v) seats.first_level in
        let b : pl.params + v ≡ s.params + v = ap (λ (n : ℕ). n + v) (sym seats.params) in
        ap (λ (n : ℕ). coef n q) a ∙ h.levels v (omega (arith, l, k)) ∙ ap (λ (n : ℕ). coef n p) b;
    terms = λ t v e.
        let a = seat-is t v e in
        let b : pl.params + x.levels + t ≡ s.params + s.levels + t = (let c = seats.params in let d = seats.levels in omega (arith, c, d)) in
        ap (λ (n : ℕ). coef n q) a.3 ∙ h.terms a.1 a.0 a.4 ∙ sym (stood.stand t a.0 a.2).1 ∙ ap (λ (n : ℕ). coef n p) b;
  }

  pub seats-apart : HasPlaces x pl → AreApart s
  seats-apart h =
      let a = seats.params in let b = seats.levels in let c = seats.first_level in let d = seats.vars in let f = h.first in let l = h.levels in let m = h.terms in record {
        first = omega (arith, a, c, f);
        levels = omega (arith, b, c, d, l, m);
        terms = λ t v e. let g = seat-is t v e in let k = at-within g.1 g.0 x.chosen.order g.4 in let w = g.3 in (omega (arith, b, c, l, w), omega (arith, d, m, w, k));
      }

  -- the seats of terms are behind the first one
  pub seats-there : (t v : ℕ) → slice_get s.terms t ≡ Some (Some v) → (pl.first_term ≤ v) × (v < pl.first_term + length x.chosen.order)
  seats-there t v e = let g = seat-is t v e in let k = at-within g.1 g.0 x.chosen.order g.4 in let w = g.3 in (omega (arith, w), omega (arith, w, k))
