-- The pieces of `skew` in code.
use Rattle.std.proofs.Common.{◌≡◌, ℕ, zero, suc, ◌+◌, ◌<◌, true, false, nat_eq, List, [], ◌∷◌, ◌++◌, map, length, refl, sym, ◌∙◌, ap, subst, arith, append_assoc, append-nil, ℤ, pos, negsuc, ◌+ℤ◌, ◌*ℤ◌, neg_ℤ}
use Rattle.std.specs.List.{range_with_len}
use Rattle.std.proofs.lemmas.Bool.Decides.{nat_tests}
use Rattle.std.proofs.lemmas.Int.{ints}
use lib.IntN.{*ℤ-zero}
use Rattle.int_rows.specs.declared.row.Aff.{Aff}
use Rattle.nest_tree.specs.Forms.{coef, sum, times, less, number, zeros, variable, variables}
use Rattle.nest_tree.specs.Lists.{Pairwise}
use Rattle.nest_tree.specs.Pieces.{unskewed_forms, IsLike}
use Rattle.nest_laws.proofs.Narrow.{coef-added, coef-scaled}
use Rattle.affine_moves.specs.declared.change.Change.TheVariants.{Skew}
use Rattle.affine_moves.specs.Change.{place_of, unit, unskewed, old_form, new_rows, vars_after, piece_of}
use Rattle.piece_laws.specs.Laws.{SkewMakesSkewedPiece}
use Rattle.piece_laws.proofs.Pieces.{coef-padded, unit_like, next_variables, staying, from_zero}

-- zeros in front of zeros
zeros-zeros : (p l j : ℕ) (cs : List ℤ) → coef j (zeros (p + l) cs) ≡ coef j (zeros p (zeros l cs))
zeros-zeros zero l j cs = let e : 0 + l ≡ l = omega arith in ap (λ (n : ℕ). coef j (zeros n cs)) e
zeros-zeros (suc p) l zero cs = let e : suc p + l ≡ suc (p + l) = omega arith in ap (λ (n : ℕ). coef zero (zeros n cs)) e
zeros-zeros (suc p) l (suc j) cs = let e : suc p + l ≡ suc (p + l) = omega arith in ap (λ (n : ℕ). coef (suc j) (zeros n cs)) e ∙ zeros-zeros p l j cs

-- one number more behind others
one_more : (c : ℤ) (done : List ℤ) (j : ℕ) → coef j done +ℤ (c *ℤ coef j (zeros (length done) (pos 1 ∷ []))) ≡ coef j (done ++ c ∷ [])
one_more c [] zero = omega (arith, ints)
one_more c [] (suc j) = let e = *ℤ-zero c in omega (arith, ints, e)
one_more c (d ∷ done) zero = let e = *ℤ-zero c in omega (arith, ints, e)
one_more c (d ∷ done) (suc j) = one_more c done j

more_behind : (p : ℕ) (c : ℤ) (done : List ℤ) (j : ℕ) → coef j (zeros p done) +ℤ (c *ℤ coef j (zeros p (zeros (length done) (pos 1 ∷ [])))) ≡ coef j (zeros p (done ++ c ∷ []))
more_behind zero c done j = one_more c done j
more_behind (suc p) c done zero = let e = *ℤ-zero c in omega (arith, ints, e)
more_behind (suc p) c done (suc j) = more_behind p c done j

-- a level less the multiples of those before it
last_less : (done : List ℤ) (j : ℕ) → coef j (zeros (length done) (pos 1 ∷ [])) +ℤ (negsuc 0 *ℤ coef j done) ≡ coef j (map neg_ℤ done ++ pos 1 ∷ [])
last_less [] zero = refl
last_less [] (suc j) = refl
last_less (d ∷ done) zero = omega (arith, ints)
last_less (d ∷ done) (suc j) = last_less done j

less_behind : (p : ℕ) (done : List ℤ) (j : ℕ) → coef j (zeros p (zeros (length done) (pos 1 ∷ []))) +ℤ (negsuc 0 *ℤ coef j (zeros p done)) ≡ coef j (zeros p (map neg_ℤ done ++ pos 1 ∷ []))
less_behind zero done j = last_less done j
less_behind (suc p) done zero = refl
less_behind (suc p) done (suc j) = less_behind p done j

-- the form of the multiples of the levels passed so far
record IsTotal (params : ℕ) (done : List ℤ) (total : Aff) : Type 0 where
  coefs : (j : ℕ) → coef j total.coefs ≡ coef j (zeros params done)
  constant : total.constant ≡ pos 0

length-more : (done : List ℤ) (c : ℤ) → length (done ++ c ∷ []) ≡ length done + 1
length-more [] c = refl
length-more (d ∷ done) c = (let e = length-more done c in omega (arith, e))

module _ (vars params level : ℕ) (coefs : List ℤ) where
  abbrev skew_form : ℕ → Aff
  skew_form k = old_form vars params (Skew level coefs) k

  other : (k : ℕ) → nat_eq (suc k) level ≡ false → skew_form k ≡ unit vars (params + k)
  unfolding old_form place_of
  other k e = rw e refl

  here : (k : ℕ) → nat_eq (suc k) level ≡ true → skew_form k ≡ unskewed vars params coefs
  unfolding old_form place_of
  here k e = rw e refl

  more_total : (done : List ℤ) (c : ℤ) (total : Aff) → IsTotal params done total → IsTotal params (done ++ c ∷ []) (sum total (times c (variable (params + length done))))
  more_total done c total h = record {
    coefs = λ j. (
        coef-added j total.coefs (times c (variable (params + length done))).coefs
        ∙ ap (λ (z : ℤ). z +ℤ coef j (times c (variable (params + length done))).coefs) (h.coefs j)
        ∙ ap (λ (z : ℤ). coef j (zeros params done) +ℤ z) (coef-scaled j c (zeros (params + length done) (pos 1 ∷ [])) ∙ ap (λ (z : ℤ). c *ℤ z) (zeros-zeros params (length done) j (pos 1 ∷ [])))
        ∙ more_behind params c done j);
    constant = let e = *ℤ-zero c in let k = h.constant in omega (arith, ints, e, k);
  }

  unskewed_like : (total : Aff) → IsTotal params coefs total → IsLike (unskewed vars params coefs) (less (variable (params + length coefs)) total)
  unfolding unskewed
  unskewed_like total h = record {
    coefs = λ j. (
        coef-padded vars params j (map neg_ℤ coefs ++ pos 1 ∷ [])
        ∙ sym (less_behind params coefs j)
        ∙ ap (λ (z : ℤ). coef j (zeros params (zeros (length coefs) (pos 1 ∷ []))) +ℤ (negsuc 0 *ℤ z)) (sym (h.coefs j))
        ∙ ap (λ (z : ℤ). z +ℤ (negsuc 0 *ℤ coef j total.coefs)) (sym (zeros-zeros params (length coefs) j (pos 1 ∷ [])))
        ∙ ap (λ (z : ℤ). coef j (variable (params + length coefs)).coefs +ℤ z) (sym (coef-scaled j (negsuc 0) total.coefs))
        ∙ sym (coef-added j (variable (params + length coefs)).coefs (times (negsuc 0) total).coefs));
    constant = let k = h.constant in omega (arith, ints, k);
  }

  skews : (rest done : List ℤ) (d : ℕ) (total : Aff) → coefs ≡ done ++ rest → level ≡ suc (length done + length rest) → length rest < d → IsTotal params done total
      → Pairwise IsLike (map skew_form (range_with_len (length done) d)) (unskewed_forms rest total (variables (params + length done) d))
  skews rest done zero total e n l h = absurd (omega (arith, l))
  skews [] done (suc d) total e n l h =
      let all : done ≡ coefs = sym (e ∙ append-nil done) in (
        subst (λ (g : Aff). IsLike g (less (variable (params + length done)) total)) (sym (here (length done) (grind (arith, nat_tests, n))))
            (subst (λ (k : ℕ). IsLike (unskewed vars params coefs) (less (variable (params + k)) total)) (ap (λ (cs : List ℤ). length cs) (sym all)) (unskewed_like total (subst (λ (cs : List ℤ). IsTotal params cs total) all h))),
        subst (Pairwise IsLike (map skew_form (range_with_len (length done + 1) d))) (next_variables params (length done) d) (staying vars params skew_form (length done + 1) d (λ k b. other k (grind (arith, nat_tests, n, b)))),
      )
  skews (c ∷ rest) done (suc d) total e n l h =
      let m : length (done ++ c ∷ []) ≡ length done + 1 = length-more done c in
      let more = skews rest (done ++ c ∷ []) d (sum total (times c (variable (params + length done)))) (e ∙ sym (append_assoc done (c ∷ []) rest)) (omega (arith, n, m)) (omega (arith, l)) (more_total done c total h) in (
        subst (λ (g : Aff). IsLike g (variable (params + length done))) (sym (other (length done) (grind (arith, nat_tests, n)))) (unit_like vars (params + length done)),
        subst (λ (fs : List Aff). Pairwise IsLike (map skew_form (range_with_len (length done + 1) d)) (unskewed_forms rest (sum total (times c (variable (params + length done)))) fs)) (next_variables params (length done) d)
            (subst (λ (k : ℕ). Pairwise IsLike (map skew_form (range_with_len k d)) (unskewed_forms rest (sum total (times c (variable (params + length done)))) (variables (params + k) d))) m more),
      )

zero_total : (params : ℕ) → IsTotal params [] (number (pos 0))
zero_total params = record { coefs = λ j. sym (none params j); constant = refl }
  where
    none : (p j : ℕ) → coef j (zeros p []) ≡ pos 0
    none zero j = refl
    none (suc p) zero = refl
    none (suc p) (suc j) = none p j

pub skew_piece : SkewMakesSkewedPiece
unfolding piece_of new_rows
skew_piece params coefs n l =
    let level : ℕ = suc (length coefs) in
    let vars : ℕ = vars_after params n (Skew level coefs) in record {
      drops = refl;
      terms = refl;
      old = subst (λ (fs : List Aff). Pairwise IsLike (map (old_form vars params (Skew level coefs)) (range_with_len 0 (length n.levels))) (unskewed_forms coefs (number (pos 0)) fs)) (from_zero vars params (length n.levels))
          (skews vars params level coefs coefs [] (length n.levels) (number (pos 0)) refl (omega arith) (omega (arith, l)) (zero_total params));
      rows = tt;
    }
