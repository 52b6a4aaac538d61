-- The steps of a loop that combines two lists of numbers.
use Rattle.std.proofs.Common.{◌≡◌, ℕ, suc, ◌+◌, ◌<◌, ℤ, pos, ◌+ℤ◌, ◌*ℤ◌, Bool, true, false, not, cond, List, [], ◌∷◌, ◌++◌, length, drop, get_or, refl, sym, ◌∙◌, append_assoc, append-nil, ◌≤◌, drop-cons, add-one}
use Rattle.std.specs.Prelude.{Some, None}
use Rattle.std.specs.List.{position_from}
use Rattle.std.proofs.lemmas.List.{drop_all}
use Rattle.int_rows.specs.Elimination.{sum_small, sums_small, combined, combination, first_past}
use Rattle.int_rows.specs.declared.row.Aff.{Aff}

pub some_of : {A : Type 0} (t : Bool) (u z : A) → Some z ≡ cond t (Some u) None → (t ≡ true) × (z ≡ u)
some_of true u z e = (refl, cc)
some_of false u z e = absurd cc

pub none_of : {A : Type 0} (t : Bool) (u : A) → None ≡ cond t (Some u) None → t ≡ false
none_of true u e = absurd cc
none_of false u e = refl

-- what the loop keeps: what is made of the first i numbers, and that these pass no limit
pub record Combined (m : ℤ) (f : Aff) (n : ℤ) (g : Aff) (i : ℕ) (cs : List ℤ) : Type 0 where
  pub made : cs ++ combined m (drop i f.coefs) n (drop i g.coefs) ≡ combined m f.coefs n g.coefs
  pub past : position_from not i (sums_small m (drop i f.coefs ++ f.constant ∷ []) n (drop i g.coefs ++ g.constant ∷ [])) ≡ first_past m f n g

module _ (m : ℤ) (f : Aff) (n : ℤ) (g : Aff) (i : ℕ) (cs : List ℤ) where
  pub combined-more : i < length f.coefs → i < length g.coefs → (z : ℤ) → Some z ≡ cond (sum_small m (get_or f.coefs i (pos 0)) n (get_or g.coefs i (pos 0))) (Some (m *ℤ get_or f.coefs i (pos 0) +ℤ n *ℤ get_or g.coefs i (pos 0))) None
      → Combined m f n g i cs → Combined m f n g (i + 1) (cs ++ z ∷ [])
  combined-more h k z e c =
      let is = some_of _ _ z e in
      let left : drop i f.coefs ≡ get_or f.coefs i (pos 0) ∷ drop (suc i) f.coefs = drop-cons f.coefs i (pos 0) h in
      let right : drop i g.coefs ≡ get_or g.coefs i (pos 0) ∷ drop (suc i) g.coefs = drop-cons g.coefs i (pos 0) k in
      let made = rw (left, right) at c.made in
      let past = rw (left, right, is.0, add-one i) at c.past in
      rw (add-one i) (record { made = rw (is.1, append_assoc) made; past = past })

  pub combined-not : i < length f.coefs → i < length g.coefs → None ≡ cond (sum_small m (get_or f.coefs i (pos 0)) n (get_or g.coefs i (pos 0))) (Some (m *ℤ get_or f.coefs i (pos 0) +ℤ n *ℤ get_or g.coefs i (pos 0))) None
      → Combined m f n g i cs → first_past m f n g ≡ Some i
  combined-not h k e c =
      let left : drop i f.coefs ≡ get_or f.coefs i (pos 0) ∷ drop (suc i) f.coefs = drop-cons f.coefs i (pos 0) h in
      let right : drop i g.coefs ≡ get_or g.coefs i (pos 0) ∷ drop (suc i) g.coefs = drop-cons g.coefs i (pos 0) k in
      let past = rw (left, right, none_of _ (m *ℤ get_or f.coefs i (pos 0) +ℤ n *ℤ get_or g.coefs i (pos 0)) e) at c.past in
      sym past

  -- at the end of the loop the constants are left
  combined-end : length f.coefs ≤ i → length g.coefs ≤ i → Combined m f n g i cs
      → (cs ≡ combined m f.coefs n g.coefs) × (position_from not i (sum_small m f.constant n g.constant ∷ []) ≡ first_past m f n g)
  combined-end end end' c =
      let left : drop i f.coefs ≡ [] = drop_all i f.coefs end in
      let right : drop i g.coefs ≡ [] = drop_all i g.coefs end' in
      (sym (append-nil cs) ∙ rw (left, right) at c.made, rw (left, right) at c.past)

  pub combined-all : length f.coefs ≤ i → length g.coefs ≤ i → (z : ℤ) → Some z ≡ cond (sum_small m f.constant n g.constant) (Some (m *ℤ f.constant +ℤ n *ℤ g.constant)) None
      → Combined m f n g i cs → (first_past m f n g ≡ None) × (record { coefs = cs; constant = z } ≡ combination m f n g)
  combined-all end end' z e c =
      let is = some_of _ _ z e in
      let all = combined-end end end' c in
      (sym (rw is.0 at all.1), rw (all.0, is.1) refl)

  pub combined-all_not : length f.coefs ≤ i → length g.coefs ≤ i → None ≡ cond (sum_small m f.constant n g.constant) (Some (m *ℤ f.constant +ℤ n *ℤ g.constant)) None
      → Combined m f n g i cs → first_past m f n g ≡ Some i
  combined-all_not end end' e c =
      let all = combined-end end end' c in
      sym (rw (none_of _ (m *ℤ f.constant +ℤ n *ℤ g.constant) e) at all.1)
