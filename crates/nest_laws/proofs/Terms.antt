-- Each term's value is what its array holds at the values of its arguments, and no other values are.
use Rattle.std.proofs.Common.{◌≡◌, ℕ, zero, suc, ◌<◌, List, [], ◌∷◌, ◌++◌, map, length, sym, ◌∙◌, ap, arith, ℤ, pos, ◌+ℤ◌}
use Rattle.nest_tree.specs.declared.kernel.Term.{Term}
use Rattle.nest_tree.specs.Lists.{IsAt}
use Rattle.nest_tree.specs.Forms.{value, coef}
use Rattle.nest_tree.specs.Terms.{Input, or_zero, reading, rounds, term_values, HaveRanks}
use Rattle.nest_laws.proofs.Points.{dot-behind, coef-map, map-same, length-map, by_places}

pub rounds-length : (i : Input) (terms : List Term) (p : List ℤ) (k : ℕ) → length (rounds i terms p k) ≡ length terms
rounds-length i terms p zero = length-map (λ t. pos 0) terms
rounds-length i terms p (suc k) = length-map (reading i (p ++ rounds i terms p k)) terms

at_most : {A : Type 0} (k : ℕ) (x : A) (xs : List A) → IsAt k x xs → k < length xs
at_most k x [] h = absurd h
at_most zero x (y ∷ ys) h = omega arith
at_most (suc k) x (y ∷ ys) h = let r = at_most k x ys h in omega arith

module _ (i : Input) (terms : List Term) (p : List ℤ) (rank : ℕ → ℕ) (ranks : HaveRanks (length p) terms rank) where
  -- a term's reading depends on the terms of lower rank alone
  same_reading : (xs ys : List ℤ) (k : ℕ) → ((j : ℕ) → rank j < rank k → coef j xs ≡ coef j ys) → coef k (map (reading i (p ++ xs)) terms) ≡ coef k (map (reading i (p ++ ys)) terms)
  same_reading xs ys k h =
      coef-map (reading i (p ++ xs)) (reading i (p ++ ys)) terms k
      (λ t is. ap (λ at. or_zero (i.cells t.array at)) (map-same (value (p ++ xs)) (value (p ++ ys)) t.at
      (λ f a. ap (λ (n : ℤ). n +ℤ f.constant) (dot-behind f.coefs p xs ys (λ j n. h j (ranks.above k t f j is a n))))))

  settled : (r k : ℕ) → rank k < r → coef k (rounds i terms p (suc r)) ≡ coef k (rounds i terms p r)
  settled zero k h = absurd (omega (arith, h))
  settled (suc r) k h = same_reading (rounds i terms p (suc r)) (rounds i terms p r) k (λ j l. settled r j (omega arith))

  -- reading once more changes nothing
  pub term_values_hold : term_values i terms p ≡ map (reading i (p ++ term_values i terms p)) terms
  term_values_hold =
      let a = rounds-length i terms p (length terms) in
      let b = rounds-length i terms p (suc (length terms)) in
      sym (by_places (rounds i terms p (suc (length terms))) (rounds i terms p (length terms)) (b ∙ sym a) (λ k l. settled (length terms) k (ranks.bounded k)))

  -- values that reading doesn't change are equal at each rank
  same_at : (ts us : List ℤ) → ts ≡ map (reading i (p ++ ts)) terms → us ≡ map (reading i (p ++ us)) terms → (r k : ℕ) → rank k < r → coef k ts ≡ coef k us
  same_at ts us e f zero k h = absurd (omega (arith, h))
  same_at ts us e f (suc r) k h = ap (coef k) e ∙ same_reading ts us k (λ j l. same_at ts us e f r j (omega arith)) ∙ ap (coef k) (sym f)

  -- there are no other values that reading doesn't change
  pub only_values : (ts : List ℤ) → ts ≡ map (reading i (p ++ ts)) terms → ts ≡ term_values i terms p
  only_values ts e =
      let us : List ℤ = term_values i terms p in
      by_places ts us (ap length e ∙ length-map (reading i (p ++ ts)) terms ∙ sym (rounds-length i terms p (length terms))) (λ k l. same_at ts us e term_values_hold (length terms) k (ranks.bounded k))
