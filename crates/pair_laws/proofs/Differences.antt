-- The rows of differences are met where the values of the forms are so.
use Rattle.std.proofs.Common.{◌≡◌, ◌⊎◌, inl, inr, ℕ, zero, suc, ◌+◌, ◌<◌, ◌≤◌, Bool, true, false, List, [], ◌∷◌, ◌++◌, map, length, drop, refl, sym, ◌∙◌, ap, subst, arith, ℤ, pos, negsuc, ◌-ℤ◌, ◌*ℤ◌, ◌≤ℤ◌, ◌<ℤ◌}
use Rattle.std.specs.List.{range_with_len}
use Rattle.std.specs.Int.{w128, saturate_signed}
use Rattle.std.proofs.lemmas.Int.{ints}
use Rattle.int_rows.specs.declared.row.Aff.{Aff}
use Rattle.int_rows.specs.Systems.{IsRowOf}
use Rattle.nest_core.specs.Numbers.{is_small}
use Rattle.nest_tree.specs.Carriers.{AgreeOn, IsSmallerAt}
use Rattle.nest_tree.specs.Forms.{value, coef, Meets, MeetsRow, sum, times, less, number}
use Rattle.nest_tree.specs.Pieces.{IsLike}
use Rattle.nest_laws.proofs.Forms.{value-sum, value-less}
use Rattle.nest_laws.proofs.Narrow.{coef-added, coef-scaled, like-value}
use Rattle.nest_systems.specs.Sums.{number_at, stopped_difference}
use Rattle.point_laws.specs.Values.{AreSmall}
use Rattle.point_laws.proofs.Seated.{number-coef, below_or_not, coef-range, coef-behind_range}
use Rattle.point_laws.proofs.Alike.{coef-past}
use Rattle.point_laws.proofs.Stopped.{IsNear, small-near, small-bounds, stopped-is}
use Rattle.point_laws.proofs.Values.{number-small, small-last}
use Rattle.depend_test.specs.Orders.{difference_at, difference_row, equal_rows, smaller_rows, order_rows}
use Rattle.pair_laws.specs.Pairs.{StandBefore}

-- 0 or 1 is taken
abbrev pub IsStep : ℤ → Type 0
IsStep l = (l ≡ pos 0) ⊎ (l ≡ pos 1)

module _ (vars : ℕ) (e : Bool) (x y : Aff) (l : ℤ) (step : IsStep l) (small : IsRowOf vars (difference_row vars e x y l)) where
  -- each number of the row is the difference, and small
  pub small-difference : (v : ℕ) → v < vars → is_small (difference_at x.coefs y.coefs v) ≡ true
  unfolding difference_row
  small-difference v h = number-small (difference_at x.coefs y.coefs) _ vars v small.small h

  difference-is : (v : ℕ) → v < vars → difference_at x.coefs y.coefs v ≡ coef v x.coefs -ℤ coef v y.coefs
  unfolding difference_at stopped_difference
  difference-is v h =
      let a = number-coef x.coefs v in
      let b = number-coef y.coefs v in
      stopped-is (number_at x.coefs v -ℤ number_at y.coefs v) (small-near _ (small-difference v h)) ∙ omega (arith, ints, a, b)

  constant-is : (difference_row vars e x y l).form.constant ≡ (x.constant -ℤ y.constant) -ℤ l
  unfolding difference_row stopped_difference
  constant-is =
      let d : ℤ = saturate_signed w128 (x.constant -ℤ y.constant) in
      let h : is_small (saturate_signed w128 (d -ℤ l)) ≡ true = small-last (map (difference_at x.coefs y.coefs) (range_with_len 0 vars)) _ small.small in
      let a : saturate_signed w128 (d -ℤ l) ≡ d -ℤ l = stopped-is (d -ℤ l) (small-near _ h) in
      let b = small-bounds (saturate_signed w128 (d -ℤ l)) h in
      let low = b.0 in let top = b.1 in
      let near : IsNear d = elim step [ inl z ↦ (omega (arith, ints, a, low, z), omega (arith, ints, a, top, z)) | inr z ↦ (omega (arith, ints, a, low, z), omega (arith, ints, a, top, z)) ] in
      let c = stopped-is (x.constant -ℤ y.constant) near in
      a ∙ omega (arith, ints, c)

  abbrev plain : Aff
  plain = sum (less x y) (number (negsuc 0 *ℤ l))

  coef-plain : (v : ℕ) → coef v plain.coefs ≡ coef v x.coefs -ℤ coef v y.coefs
  coef-plain v =
      let a = coef-added v (less x y).coefs [] in
      let b = coef-added v x.coefs (times (negsuc 0) y).coefs in
      let c = coef-scaled v (negsuc 0) y.coefs in
      omega (arith, ints, a, b, c)

  difference-like : length x.coefs ≤ vars → length y.coefs ≤ vars → IsLike (difference_row vars e x y l).form plain
  unfolding difference_row
  difference-like wx wy = record {
    coefs = λ v. elim (below_or_not v vars) [
      | inl h ↦ (let k : 0 + v ≡ v = omega arith in coef-range (difference_at x.coefs y.coefs) 0 vars v h ∙ ap (difference_at x.coefs y.coefs) k ∙ difference-is v h ∙ sym (coef-plain v))
      | inr h ↦ coef-behind_range (difference_at x.coefs y.coefs) 0 vars v h ∙ sym (coef-plain v ∙ past v h)
    ];
    constant = constant-is ∙ omega (arith, ints);
  }
    where
      past : (v : ℕ) → vars ≤ v → coef v x.coefs -ℤ coef v y.coefs ≡ pos 0
      past v h = let a = coef-past x.coefs v (omega (arith, wx, h)) in let b = coef-past y.coefs v (omega (arith, wy, h)) in omega (arith, ints, a, b)

  pub difference-value : length x.coefs ≤ vars → length y.coefs ≤ vars → (q : List ℤ) → value q (difference_row vars e x y l).form ≡ (value q x -ℤ value q y) -ℤ l
  difference-value wx wy q =
      let a = like-value q (difference_row vars e x y l).form plain (difference-like wx wy) in
      let b = value-sum q (less x y) (number (negsuc 0 *ℤ l)) in
      let c = value-less q x y in
      omega (arith, ints, a, b, c)

-- ---- rows of differences of forms that are worth these numbers
-- the difference of two forms that is a small row is worth the difference of two numbers
abbrev pub DifferenceIs : ℕ → List ℤ → Aff → Aff → ℤ → ℤ → Type 0
DifferenceIs vars q x y a b = (e : Bool) (l : ℤ) → IsStep l → IsRowOf vars (difference_row vars e x y l) → value q (difference_row vars e x y l).form ≡ (a -ℤ b) -ℤ l

-- at each place
abbrev pub DifferencesAre : ℕ → List ℤ → List Aff → List Aff → List ℤ → List ℤ → Type 0
DifferencesAre vars q (x ∷ xs) (y ∷ ys) (a ∷ cs) (b ∷ ds) = DifferenceIs vars q x y a b × DifferencesAre vars q xs ys cs ds
DifferencesAre vars q (x ∷ xs) (y ∷ ys) [] ds = ⊥
DifferencesAre vars q (x ∷ xs) (y ∷ ys) (a ∷ cs) [] = ⊥
DifferencesAre vars q [] ys cs ds = Unit
DifferencesAre vars q (x ∷ xs) [] cs ds = Unit

module _ (vars : ℕ) (q : List ℤ) where
  zero-row : (x y : Aff) (a b : ℤ) → DifferenceIs vars q x y a b → a ≡ b → IsRowOf vars (difference_row vars true x y (pos 0)) → MeetsRow q (difference_row vars true x y (pos 0))
  unfolding difference_row
  zero-row x y a b d e s = d true (pos 0) (inl refl) s ∙ omega (arith, ints, e)

  smaller-row : (x y : Aff) (a b : ℤ) → DifferenceIs vars q x y a b → b <ℤ a → IsRowOf vars (difference_row vars false x y (pos 1)) → MeetsRow q (difference_row vars false x y (pos 1))
  unfolding difference_row
  smaller-row x y a b d h s = subst (λ (z : ℤ). pos 0 ≤ℤ z) (sym (d false (pos 1) (inr refl) s)) (omega (arith, ints, h))

  pub equal-met : (n : ℕ) (xs ys : List Aff) (cs ds : List ℤ) → DifferencesAre vars q xs ys cs ds → AgreeOn n cs ds → AreSmall vars (equal_rows vars n xs ys) → Meets q (equal_rows vars n xs ys)
  unfolding equal_rows
  equal-met zero xs ys cs ds d h s = tt
  equal-met (suc n) [] ys cs ds d h s = tt
  equal-met (suc n) (x ∷ xs) [] cs ds d h s = tt
  equal-met (suc n) (x ∷ xs) (y ∷ ys) [] ds d h s = absurd d
  equal-met (suc n) (x ∷ xs) (y ∷ ys) (a ∷ cs) [] d h s = absurd d
  equal-met (suc n) (x ∷ xs) (y ∷ ys) (a ∷ cs) (b ∷ ds) d h s = (zero-row x y a b d.0 h.0 s.0, equal-met n xs ys cs ds d.1 h.1 s.1)

  -- the late one's less the early one's
  pub smaller-met : (n : ℕ) (es ls : List Aff) (vs us : List ℤ) → DifferencesAre vars q ls es us vs → IsSmallerAt (suc n) vs us
      → AreSmall vars (equal_rows vars n ls es ++ smaller_rows vars (drop n es) (drop n ls)) → Meets q (equal_rows vars n ls es ++ smaller_rows vars (drop n es) (drop n ls))
  unfolding equal_rows
  smaller-met zero [] ls vs us d h s = tt
  smaller-met zero (e ∷ es) [] vs us d h s = tt
  smaller-met zero (e ∷ es) (l ∷ ls) vs [] d h s = absurd d
  smaller-met zero (e ∷ es) (l ∷ ls) [] (u ∷ us) d h s = absurd d
  smaller-met zero (e ∷ es) (l ∷ ls) (v ∷ vs) (u ∷ us) d h s = (smaller-row l e u v d.0 h s.0, tt)
  smaller-met (suc n) [] [] vs us d h s = tt
  smaller-met (suc n) [] (l ∷ ls) vs us d h s = tt
  smaller-met (suc n) (e ∷ es) [] vs us d h s = none n es
    where
      none : (n : ℕ) (es : List Aff) → Meets q (smaller_rows vars (drop n es) (drop (suc n) []))
      none zero [] = tt
      none zero (e ∷ es) = tt
      none (suc n) [] = tt
      none (suc n) (e ∷ es) = none n es
  smaller-met (suc n) (e ∷ es) (l ∷ ls) vs [] d h s = absurd d
  smaller-met (suc n) (e ∷ es) (l ∷ ls) [] (u ∷ us) d h s = absurd d
  smaller-met (suc n) (e ∷ es) (l ∷ ls) (v ∷ vs) (u ∷ us) d h s = (zero-row l e u v d.0 (sym h.0) s.0, smaller-met n es ls vs us d.1 h.1 s.1)

  agree-turned : (n : ℕ) (vs us : List ℤ) → AgreeOn n vs us → AgreeOn n us vs
  agree-turned zero vs us h = tt
  agree-turned (suc n) [] us h = absurd h
  agree-turned (suc n) (v ∷ vs) [] h = absurd h
  agree-turned (suc n) (v ∷ vs) (u ∷ us) h = (sym h.0, agree-turned n vs us h.1)

  pub order-met : (carrier shared : ℕ) (es ls : List Aff) (vs us : List ℤ) → DifferencesAre vars q ls es us vs → StandBefore carrier shared vs us → AreSmall vars (order_rows vars carrier shared es ls) → Meets q (order_rows vars carrier shared es ls)
  unfolding order_rows
  order-met zero shared es ls vs us d h s = equal-met shared ls es us vs d (agree-turned shared vs us h) s
  order-met (suc level) shared es ls vs us d h s = smaller-met level es ls vs us d h s

pub agree-self : (vs : List ℤ) (us : List ℤ) → vs ≡ us → AgreeOn (length vs) vs us
agree-self [] us e = tt
agree-self (v ∷ vs) [] e = absurd cc
agree-self (v ∷ vs) (u ∷ us) e = let a : v ≡ u = cc in let b : vs ≡ us = cc in (a, agree-self vs us b)
