-- The pieces of a whole permutation in code.
use Rattle.std.proofs.Common.{◌≡◌, inl, inr, ℕ, suc, ◌+◌, ◌<◌, ◌≤◌, Bool, true, false, cond, nat_eq, List, [], ◌∷◌, map, length, refl, sym, ◌∙◌, ap, subst, arith}
use Rattle.std.specs.List.{range_with_len}
use Rattle.std.proofs.lemmas.Bool.Decides.{nat_tests}
use Rattle.int_rows.specs.declared.row.Aff.{Aff}
use Rattle.nest_tree.specs.Forms.{variable, variables}
use Rattle.nest_tree.specs.Lists.{IsIn, Pairwise}
use Rattle.nest_tree.specs.Pieces.{form_for, permuted_forms, IsLike}
use Rattle.affine_moves.specs.declared.change.Change.TheVariants.{Order}
use Rattle.affine_moves.specs.Change.{place_from, place_of, unit, old_form, new_rows, vars_after, piece_of}
use Rattle.piece_laws.specs.Laws.{PermuteMakesPermutedPiece}
use Rattle.piece_laws.proofs.Pieces.{unit_like, from_zero}

module _ (params : ℕ) where
  step : (t d : ℕ) → variables (params + suc t) d ≡ variables (suc (params + t)) d
  step t d = let e : params + suc t ≡ suc (params + t) = omega arith in ap (λ (k : ℕ). variables k d) e

  -- the form that an order has for a level is the variable at the level's place
  form-at : (order : List ℕ) (t l : ℕ) → IsIn (suc l) order → form_for (suc l) order (variables (params + t) (length order)) ≡ variable (params + place_from t order l)
  form-at [] t l a = absurd a
  form-at (o ∷ os) t l a = by (nat_eq o (suc l)) refl a (form-at os (suc t) l)
    where
      by : (b : Bool) → nat_eq o (suc l) ≡ b → IsIn (suc l) (o ∷ os) → (IsIn (suc l) os → form_for (suc l) os (variables (params + suc t) (length os)) ≡ variable (params + place_from (suc t) os l))
          → cond b (variable (params + t)) (form_for (suc l) os (variables (suc (params + t)) (length os))) ≡ variable (params + cond b t (place_from (suc t) os l))
      by true e k more = refl
      by false e (inl f) more = absurd (let g : nat_eq o (suc l) ≡ true = grind (arith, nat_tests, f) in let no : true ≡ false = sym g ∙ e in cc)
      by false e (inr k) more = ap (form_for (suc l) os) (sym (step t (length os))) ∙ more k

  module _ (vars : ℕ) (order : List ℕ) (all : (l : ℕ) → 0 < l → l ≤ length order → IsIn l order) where
    abbrev order_form : ℕ → Aff
    order_form k = old_form vars params (Order order) k

    form-is : (k : ℕ) → order_form k ≡ unit vars (params + place_from 0 order k)
    unfolding old_form place_of
    form-is k = refl

    orders : (rest : List ℕ) (l : ℕ) → l + length rest ≤ length order → Pairwise IsLike (map order_form (range_with_len l (length rest))) (permuted_forms order (variables params (length order)) (suc l) rest)
    orders [] l h = tt
    orders (o ∷ rest) l h = (
      subst (λ (g : Aff). IsLike (order_form l) g) (sym (ap (form_for (suc l) order) (sym (from_zero vars params (length order))) ∙ form-at order 0 l (all (suc l) (omega arith) (omega (arith, h)))))
          (subst (λ (g : Aff). IsLike g (variable (params + place_from 0 order l))) (sym (form-is l)) (unit_like vars (params + place_from 0 order l))),
      subst (λ (k : ℕ). Pairwise IsLike (map order_form (range_with_len (l + 1) (length rest))) (permuted_forms order (variables params (length order)) k rest)) (let e : suc (l + 1) ≡ suc (suc l) = omega arith in e) (orders rest (l + 1) (omega (arith, h))),
    )

pub permute_piece : PermuteMakesPermutedPiece
unfolding piece_of new_rows
permute_piece params order n is_order long =
    let vars : ℕ = vars_after params n (Order order) in record {
      drops = refl;
      terms = refl;
      old = subst (λ (d : ℕ). Pairwise IsLike (map (old_form vars params (Order order)) (range_with_len 0 d)) (permuted_forms order (variables params (length order)) 1 order)) long
          (orders params vars order is_order.all order 0 (omega arith));
      rows = tt;
    }
