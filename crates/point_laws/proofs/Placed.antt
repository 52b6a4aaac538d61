-- At a point of a system, placed forms and rows are worth what they are worth at the statement's own point.
use Rattle.std.proofs.Common.{◌≡◌, inl, inr, ℕ, zero, suc, ◌+◌, ◌-◌, ◌<◌, List, [], ◌∷◌, ◌++◌, map, length, refl, sym, ◌∙◌, ap, subst, arith, ℤ, pos}
use Rattle.std.specs.Prelude.{Option, Some, None, slice_get}
use Rattle.std.proofs.lemmas.Int.{ints}
use Rattle.int_rows.specs.declared.row.Aff.{Aff}
use Rattle.int_rows.specs.Rows.{dot, Holds}
use Rattle.nest_tree.specs.Forms.{value, coef, variable, variables}
use Rattle.nest_laws.proofs.Forms.{value-replaced}
use Rattle.nest_laws.proofs.Lists.{map-append}
use Rattle.nest_laws.proofs.Narrow.{like-value}
use Rattle.nest_laws.proofs.Points.{dot-same, coef-before, coef-behind, length-map}
use Rattle.point_laws.specs.Seats.{Seats, placed}
use Rattle.point_laws.specs.Seated.{AreApart, seat_form, seat_variables}
use Rattle.point_laws.specs.Placed.{IsSeatedAt, FitsSeats, PlacedFormHasValue, PlacedRowsAreMet}
use Rattle.point_laws.proofs.Seated.{placed_replaced, below_or_not}
use Rattle.point_laws.proofs.Alike.{got, dot-unit, coef-past, rep-at}

-- the values of variables
pub value-variable : (k : ℕ) (q : List ℤ) → value q (variable k) ≡ coef k q
value-variable k q = let a = dot-unit k q in omega (arith, ints, a)

coef-variables : (q : List ℤ) (k n j : ℕ) → j < n → coef j (map (value q) (variables k n)) ≡ coef (k + j) q
coef-variables q k zero j h = absurd (omega (arith, h))
coef-variables q k (suc n) zero h = let e : k ≡ k + 0 = omega arith in value-variable k q ∙ ap (λ (m : ℕ). coef m q) e
coef-variables q k (suc n) (suc j) h = let e : suc k + j ≡ k + suc j = omega arith in coef-variables q (suc k) n j (omega (arith, h)) ∙ ap (λ (m : ℕ). coef m q) e

length-variables : (k n : ℕ) → length (variables k n) ≡ n
length-variables k zero = refl
length-variables k (suc n) = ap suc (length-variables (suc k) n)

module _ (s : Seats) (p q : List ℤ) (at : IsSeatedAt s p q) where
  abbrev own : List ℤ
  own = map (value q) (variables 0 s.params)

  abbrev inner : List ℤ
  inner = map (value q) (variables s.first_level s.levels)

  abbrev outer : List ℤ
  outer = map (value q) (map seat_form s.terms)

  parts : map (value q) (seat_variables s) ≡ own ++ (inner ++ outer)
  parts = map-append (value q) (variables 0 s.params) (variables s.first_level s.levels ++ map seat_form s.terms) ∙ ap (λ (l : List ℤ). own ++ l) (map-append (value q) (variables s.first_level s.levels) (map seat_form s.terms))

  own-length : length own ≡ s.params
  own-length = length-map (value q) (variables 0 s.params) ∙ length-variables 0 s.params

  inner-length : length inner ≡ s.levels
  inner-length = length-map (value q) (variables s.first_level s.levels) ∙ length-variables s.first_level s.levels

  behind : (xs ys : List ℤ) (n k : ℕ) → length xs ≡ n → coef (n + k) (xs ++ ys) ≡ coef k ys
  behind xs ys n k e = subst (λ (m : ℕ). coef (m + k) (xs ++ ys) ≡ coef k ys) e (coef-behind xs ys k)

  before : (xs ys : List ℤ) (n k : ℕ) → length xs ≡ n → k < n → coef k (xs ++ ys) ≡ coef k xs
  before xs ys n k e h = coef-before xs ys k (omega (arith, e, h))

  -- each variable that the form holds has its value
  module _ (f : Aff) (fits : FitsSeats s f) where
    same : (j : ℕ) → (coef j f.coefs ≡ pos 0 → ⊥) → coef j (own ++ (inner ++ outer)) ≡ coef j p
    same j held = elim (below_or_not j s.params) [
      | inl h ↦ (let e : 0 + j ≡ j = omega arith in before own (inner ++ outer) s.params j own-length h ∙ coef-variables q 0 s.params j h ∙ ap (λ (k : ℕ). coef k q) e ∙ at.params j h)
      | inr h ↦ (let e : s.params + (j - s.params) ≡ j = omega (arith, h) in subst (λ (k : ℕ). coef k (own ++ (inner ++ outer)) ≡ coef k p) e
          (behind own (inner ++ outer) s.params (j - s.params) own-length ∙ further (j - s.params) (subst (λ (k : ℕ). coef k f.coefs ≡ pos 0 → ⊥) (sym e) held)))
    ]
      where
        term : (t : ℕ) → (coef (s.params + s.levels + t) f.coefs ≡ pos 0 → ⊥) → (o : Option ℕ) → slice_get s.terms t ≡ Some o → coef t outer ≡ coef (s.params + s.levels + t) p
        term t h (Some v) e = rep-at q s.terms t (Some v) e ∙ value-variable v q ∙ at.terms t v e
        term t h None e = absurd (h (fits.met t e))

        further : (j : ℕ) → (coef (s.params + j) f.coefs ≡ pos 0 → ⊥) → coef j (inner ++ outer) ≡ coef (s.params + j) p
        further j h = elim (below_or_not j s.levels) [
          | inl l ↦ before inner outer s.levels j inner-length l ∙ coef-variables q s.first_level s.levels j l ∙ at.levels j l
          | inr l ↦ (
              let e : s.levels + (j - s.levels) ≡ j = omega (arith, l) in
              let w : s.params + s.levels + (j - s.levels) ≡ s.params + j = omega (arith, l) in
              let k : coef (s.params + s.levels + (j - s.levels)) f.coefs ≡ pos 0 → ⊥ = subst (λ (m : ℕ). coef m f.coefs ≡ pos 0 → ⊥) (sym w) h in
              elim (got s.terms (j - s.levels)) [
                | inl g ↦ subst (λ (m : ℕ). coef m (inner ++ outer) ≡ coef (s.params + j) p) e (behind inner outer s.levels (j - s.levels) inner-length ∙ term (j - s.levels) k g.0 g.1 ∙ ap (λ (m : ℕ). coef m p) w)
                | inr g ↦ absurd (k (coef-past f.coefs (s.params + s.levels + (j - s.levels)) (let n = fits.narrow in omega (arith, g, n))))
              ])
        ]

    placed-value : AreApart s → value q (placed s f) ≡ value p f
    placed-value a =
        let l = like-value q _ _ (placed_replaced s f a fits.small) in
        let r = value-replaced q (seat_variables s) f in
        let d : dot f.coefs (map (value q) (seat_variables s)) ≡ dot f.coefs p = ap (dot f.coefs) parts ∙ dot-same f.coefs (own ++ (inner ++ outer)) p same in
        omega (arith, ints, l, r, d)

pub placed_value : PlacedFormHasValue
placed_value s f p q a fits at = placed-value s p q at f fits a

pub placed_met : PlacedRowsAreMet
placed_met s [] p q a fits at m = tt
placed_met s (r ∷ rows) p q a fits at m = (subst (Holds r.equal) (sym (placed_value s r.form p q a fits.0 at)) m.0, placed_met s rows p q a fits.1 at m.1)
