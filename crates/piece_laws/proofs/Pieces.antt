-- The pieces of the code, form by form.
use Rattle.std.proofs.Common.{◌≡◌, ℕ, zero, suc, ◌+◌, ◌-◌, ◌<◌, ◌≤◌, Bool, true, false, cond, nat_eq, nat_lt, List, [], ◌∷◌, ◌++◌, map, length, replicate, append_assoc, refl, sym, ◌∙◌, ap, subst, arith, ℤ, pos, negsuc, ◌+ℤ◌, ◌-ℤ◌, ◌*ℤ◌, neg_ℤ}
use Rattle.std.specs.List.{range_with_len}
use Rattle.std.proofs.lemmas.Bool.Decides.{nat_tests}
use Rattle.std.proofs.lemmas.Int.{ints}
use lib.IntN.{*ℤ-zero}
use Rattle.int_rows.specs.declared.row.Aff.{Aff}
use Rattle.nest_tree.specs.declared.kernel.Nest.{Nest}
use Rattle.nest_tree.specs.Forms.{coef, added, sum, times, less, number, zeros, variable, variables}
use Rattle.nest_tree.specs.Levels.{without}
use Rattle.nest_tree.specs.Lists.{Pairwise}
use Rattle.nest_tree.specs.Pieces.{form_at, unshifted_forms, IsLike, HasForms, IsTiledPiece}
use Rattle.nest_laws.proofs.Narrow.{coef-added, coef-scaled}
use Rattle.affine_moves.specs.declared.change.Change.TheVariants.{Stay, Tile, Shift}
use Rattle.affine_moves.specs.Change.{place_of, padded, unit, unshifted, of_two, tile_rows, old_form, new_rows, vars_after, piece_of}
use Rattle.piece_laws.specs.Laws.{ShiftMakesShiftedPiece, TileMakesTiledPiece, StayMakesPlacedPiece}

-- ---- numbers with zeros around them
coef-none : (j k : ℕ) → coef j (replicate k (pos 0)) ≡ pos 0
coef-none j zero = refl
coef-none zero (suc k) = refl
coef-none (suc j) (suc k) = coef-none j k

coef-filled : (j : ℕ) (zs : List ℤ) (k : ℕ) → coef j (zs ++ replicate k (pos 0)) ≡ coef j zs
coef-filled j [] k = coef-none j k
coef-filled zero (z ∷ zs) k = refl
coef-filled (suc j) (z ∷ zs) k = coef-filled j zs k

coef-behind : (v j : ℕ) (zs : List ℤ) (k : ℕ) → coef j (replicate v (pos 0) ++ (zs ++ replicate k (pos 0))) ≡ coef j (zeros v zs)
coef-behind zero j zs k = coef-filled j zs k
coef-behind (suc v) zero zs k = refl
coef-behind (suc v) (suc j) zs k = coef-behind v j zs k

pub coef-padded : (vars v j : ℕ) (zs : List ℤ) → coef j (padded vars v zs) ≡ coef j (zeros v zs)
unfolding padded
coef-padded vars v j zs = ap (coef j) (append_assoc (replicate v (pos 0)) zs (replicate (vars - (v + length zs)) (pos 0))) ∙ coef-behind v j zs (vars - (v + length zs))

pub unit_like : (vars v : ℕ) → IsLike (unit vars v) (variable v)
unfolding unit
unit_like vars v = record { coefs = λ j. coef-padded vars v j (pos 1 ∷ []); constant = refl }

coef-added-none : (j : ℕ) (cs : List ℤ) → coef j (added cs []) ≡ coef j cs
coef-added-none j [] = refl
coef-added-none j (c ∷ cs) = refl

unshifted_like : (vars v : ℕ) (amount : ℤ) → IsLike (unshifted vars v amount) (sum (variable v) (number (neg_ℤ amount)))
unfolding unshifted
unshifted_like vars v amount = record { coefs = λ j. coef-padded vars v j (pos 1 ∷ []) ∙ sym (coef-added-none j (zeros v (pos 1 ∷ []))); constant = omega (arith, ints) }

-- ---- one level more
pub next_variables : (params l d : ℕ) → variables (params + (l + 1)) d ≡ variables (suc (params + l)) d
next_variables params l d = let e : params + (l + 1) ≡ suc (params + l) = omega arith in ap (λ (k : ℕ). variables k d) e

module _ (vars params : ℕ) where
  -- levels that stay
  pub staying : (f : ℕ → Aff) → (l d : ℕ) → ((k : ℕ) → l ≤ k → f k ≡ unit vars (params + k)) → Pairwise IsLike (map f (range_with_len l d)) (variables (params + l) d)
  staying f l zero h = tt
  staying f l (suc d) h = (
    subst (λ (g : Aff). IsLike g (variable (params + l))) (sym (h l (omega arith))) (unit_like vars (params + l)),
    subst (Pairwise IsLike (map f (range_with_len (l + 1) d))) (next_variables params l d) (staying f (l + 1) d (λ k b. h k (omega (arith, b)))),
  )

  pub from_zero : (d : ℕ) → variables (params + 0) d ≡ variables params d
  from_zero d = let e : params + 0 ≡ params = omega arith in ap (λ (k : ℕ). variables k d) e

  -- ---- `shift`
  module _ (level : ℕ) (amount : ℤ) where
    abbrev shift_form : ℕ → Aff
    shift_form k = old_form vars params (Shift level amount) k

    other : (k : ℕ) → nat_eq (suc k) level ≡ false → shift_form k ≡ unit vars (params + k)
    unfolding old_form place_of
    other k e = rw e refl

    here : (k : ℕ) → nat_eq (suc k) level ≡ true → shift_form k ≡ unshifted vars (params + k) amount
    unfolding old_form place_of
    here k e = rw e refl

    shifts : (rel l d : ℕ) → level ≡ l + rel → Pairwise IsLike (map shift_form (range_with_len l d)) (unshifted_forms rel amount (variables (params + l) d))
    shifts zero l zero e = tt
    shifts (suc zero) l zero e = tt
    shifts (suc (suc rel)) l zero e = tt
    shifts zero l (suc d) e = staying shift_form l (suc d) (λ k b. other k (grind (arith, nat_tests, e, b)))
    shifts (suc zero) l (suc d) e = (
      subst (λ (g : Aff). IsLike g (sum (variable (params + l)) (number (neg_ℤ amount)))) (sym (here l (grind (arith, nat_tests, e)))) (unshifted_like vars (params + l) amount),
      subst (Pairwise IsLike (map shift_form (range_with_len (l + 1) d))) (next_variables params l d) (staying shift_form (l + 1) d (λ k b. other k (grind (arith, nat_tests, e, b)))),
    )
    shifts (suc (suc rel)) l (suc d) e = (
      subst (λ (g : Aff). IsLike g (variable (params + l))) (sym (other l (grind (arith, nat_tests, e)))) (unit_like vars (params + l)),
      subst (λ (fs : List Aff). Pairwise IsLike (map shift_form (range_with_len (l + 1) d)) (unshifted_forms (suc rel) amount fs)) (next_variables params l d) (shifts (suc rel) (l + 1) d (omega (arith, e))),
    )

pub shift_piece : ShiftMakesShiftedPiece
unfolding piece_of new_rows
shift_piece params level amount n =
    let vars : ℕ = vars_after params n (Shift level amount) in record {
      drops = refl;
      terms = refl;
      old = subst (λ (fs : List Aff). Pairwise IsLike (map (old_form vars params (Shift level amount)) (range_with_len 0 (length n.levels))) (unshifted_forms level amount fs)) (from_zero vars params (length n.levels))
          (shifts vars params level amount level 0 (length n.levels) (omega arith));
      rows = tt;
    }

stay_form : (vars params k : ℕ) → old_form vars params Stay k ≡ unit vars (params + k)
unfolding old_form place_of
stay_form vars params k = refl

stay_piece : (params : ℕ) (n : Nest) → HasForms (piece_of params Stay n) (variables params (length n.levels)) []
unfolding piece_of new_rows
stay_piece params n =
    let vars : ℕ = vars_after params n Stay in record {
      drops = refl;
      terms = refl;
      old = subst (Pairwise IsLike (map (old_form vars params Stay) (range_with_len 0 (length n.levels)))) (from_zero vars params (length n.levels))
          (staying vars params (old_form vars params Stay) 0 (length n.levels) (λ k b. stay_form vars params k));
      rows = tt;
    }

pub placed_pieces : StayMakesPlacedPiece
placed_pieces params n positions = let h = stay_piece params n in (h, record { drops = h.drops; terms = h.terms; old = h.old; rows = h.rows })

-- ---- `tile`
module _ (vars params level size outer : ℕ) where
  abbrev tile_form : ℕ → Aff
  tile_form k = old_form vars params (Tile level size outer) k

  before_tile : (k : ℕ) → nat_lt (suc k) outer ≡ true → tile_form k ≡ unit vars (params + k)
  unfolding old_form place_of
  before_tile k e = rw e refl

  behind_tile : (k : ℕ) → nat_lt (suc k) outer ≡ false → tile_form k ≡ unit vars (params + suc k)
  unfolding old_form place_of
  behind_tile k e = rw e refl

  moved_on : (l d : ℕ) → outer ≤ suc l → Pairwise IsLike (map tile_form (range_with_len l d)) (variables (suc (params + l)) d)
  moved_on l zero h = tt
  moved_on l (suc d) h = (
    subst (λ (g : Aff). IsLike g (variable (suc (params + l)))) (sym (behind_tile l (grind (arith, nat_tests, h)) ∙ ap (unit vars) (let e : params + suc l ≡ suc (params + l) = omega arith in e))) (unit_like vars (suc (params + l))),
    subst (Pairwise IsLike (map tile_form (range_with_len (l + 1) d))) (let e : suc (params + (l + 1)) ≡ suc (suc (params + l)) = omega arith in ap (λ (k : ℕ). variables k d) e) (moved_on (l + 1) d (omega (arith, h))),
  )

  tiles : (rel l d : ℕ) → outer ≡ l + suc rel → rel ≤ d → Pairwise IsLike (map tile_form (range_with_len l d)) (without (suc rel) (variables (params + l) (suc d)))
  tiles zero l d e h = moved_on l d (omega (arith, e))
  tiles (suc rel) l zero e h = absurd (omega (arith, h))
  tiles (suc rel) l (suc d) e h = (
    subst (λ (g : Aff). IsLike g (variable (params + l))) (sym (before_tile l (grind (arith, nat_tests, e)))) (unit_like vars (params + l)),
    subst (λ (fs : List Aff). Pairwise IsLike (map tile_form (range_with_len (l + 1) d)) (without (suc rel) fs)) (next_variables params l (suc d)) (tiles rel (l + 1) d (omega (arith, e)) (omega (arith, h))),
  )

-- equal numbers, and the number that is k more than the next one, step by step
abbrev same : ℕ → ℕ → Bool
same zero zero = true
same zero (suc m) = false
same (suc n) zero = false
same (suc n) (suc m) = same n m

same-is : (n m : ℕ) → same n m ≡ true → n ≡ m
same-is zero zero h = refl
same-is zero (suc m) h = absurd cc
same-is (suc n) zero h = absurd cc
same-is (suc n) (suc m) h = ap (λ (k : ℕ). suc k) (same-is n m h)

abbrev past : ℕ → ℕ → ℕ
past zero k = suc k
past (suc x) k = suc (past x k)

past-is : (x k : ℕ) → past x k ≡ suc (x + k)
past-is zero k = omega arith
past-is (suc x) k = (let e = past-is x k in omega (arith, e))

-- the number of one variable, and of two
at_variable : (v j : ℕ) → coef j (zeros v (pos 1 ∷ [])) ≡ cond (same j v) (pos 1) (pos 0)
at_variable zero zero = refl
at_variable zero (suc j) = refl
at_variable (suc v) zero = refl
at_variable (suc v) (suc j) = at_variable v j

at_two : (x k j : ℕ) (a b : ℤ) → coef j (zeros x (a ∷ (replicate k (pos 0) ++ b ∷ []))) ≡ cond (same j x) a (cond (same j (past x k)) b (pos 0))
at_two zero k zero a b = refl
at_two zero k (suc j) a b = behind k j
  where
    behind : (k j : ℕ) → coef j (replicate k (pos 0) ++ b ∷ []) ≡ cond (same j k) b (pos 0)
    behind zero zero = refl
    behind zero (suc j) = refl
    behind (suc k) zero = refl
    behind (suc k) (suc j) = behind k j
at_two (suc x) k zero a b = refl
at_two (suc x) k (suc j) a b = at_two x k j a b

-- the form of a level among those of all levels
level_form : (rel k n : ℕ) → rel < n → form_at (suc rel) (variables k n) ≡ variable (k + rel)
level_form rel k zero h = absurd (omega (arith, h))
level_form zero k (suc n) h = let e : k ≡ k + 0 = omega arith in ap variable e
level_form (suc rel) k (suc n) h = level_form rel (suc k) n (omega (arith, h)) ∙ (let e : suc k + rel ≡ k + suc rel = omega arith in ap variable e)

module _ (vars x k : ℕ) (s : ℤ) where
  abbrev y : ℕ
  y = past x k

  number-of : (j : ℕ) (a b c : ℤ) → coef j (of_two vars x a y b c).coefs ≡ cond (same j x) a (cond (same j y) b (pos 0))
  unfolding of_two
  number-of j a b c = coef-padded vars x j (a ∷ (replicate (y - suc x) (pos 0) ++ b ∷ [])) ∙ ap (λ (n : ℕ). coef j (zeros x (a ∷ (replicate n (pos 0) ++ b ∷ [])))) (let p = past-is x k in let e : y - suc x ≡ k = omega (arith, p) in e) ∙ at_two x k j a b

  number-times : (j : ℕ) (c : ℤ) (v : ℕ) → coef j (times c (variable v)).coefs ≡ cond (same j v) c (pos 0)
  number-times j c v = coef-scaled j c (zeros v (pos 1 ∷ [])) ∙ ap (λ (z : ℤ). c *ℤ z) (at_variable v j) ∙ by (same j v)
    where
      by : (b : Bool) → c *ℤ cond b (pos 1) (pos 0) ≡ cond b c (pos 0)
      by true = omega (arith, ints)
      by false = *ℤ-zero c

  both-numbers : (j : ℕ) (a b : ℤ) → cond (same j x) a (cond (same j y) b (pos 0)) ≡ cond (same j x) a (pos 0) +ℤ cond (same j y) b (pos 0)
  both-numbers j a b = by (same j x) refl (same j y) refl
    where
      by : (p : Bool) → same j x ≡ p → (q : Bool) → same j y ≡ q → cond p a (cond q b (pos 0)) ≡ cond p a (pos 0) +ℤ cond q b (pos 0)
      by true e true f = absurd (let g = same-is j x e in let h = same-is j y f in let p = past-is x k in omega (arith, g, h, p))
      by true e false f = omega (arith, ints)
      by false e true f = omega (arith, ints)
      by false e false f = omega (arith, ints)

  opposite : (j : ℕ) (c : ℤ) (v : ℕ) → negsuc 0 *ℤ cond (same j v) c (pos 0) ≡ cond (same j v) (neg_ℤ c) (pos 0)
  opposite j c v = by (same j v)
    where
      by : (b : Bool) → negsuc 0 *ℤ cond b c (pos 0) ≡ cond b (neg_ℤ c) (pos 0)
      by true = omega (arith, ints)
      by false = omega (arith, ints)

  -- v - size*t
  low_like : IsLike (of_two vars x (neg_ℤ s) y (pos 1) (pos 0)) (less (variable y) (times s (variable x)))
  unfolding of_two
  low_like = record {
    coefs = λ j. (
        let a = number-of j (neg_ℤ s) (pos 1) (pos 0) in
        let b = both-numbers j (neg_ℤ s) (pos 1) in
        let c = coef-added j (variable y).coefs (times (negsuc 0) (times s (variable x))).coefs in
        let d = at_variable y j in
        let e = coef-scaled j (negsuc 0) (times s (variable x)).coefs in
        let f = number-times j s x in
        let g = opposite j s x in
        a ∙ b ∙ sym (c ∙ ap (λ (z : ℤ). z +ℤ coef j (times (negsuc 0) (times s (variable x))).coefs) d ∙ ap (λ (z : ℤ). cond (same j y) (pos 1) (pos 0) +ℤ z) (e ∙ ap (λ (z : ℤ). negsuc 0 *ℤ z) f ∙ g) ∙ swap (cond (same j y) (pos 1) (pos 0)) (cond (same j x) (neg_ℤ s) (pos 0))));
    constant = constant s;
  }
    where
      swap : (p q : ℤ) → p +ℤ q ≡ q +ℤ p
      swap p q = omega (arith, ints)

      constant : (s : ℤ) → pos 0 ≡ pos 0 +ℤ (negsuc 0 *ℤ (s *ℤ pos 0))
      constant s = let e = *ℤ-zero s in sym (ap (λ (z : ℤ). pos 0 +ℤ (negsuc 0 *ℤ z)) e)

  -- size*t + size-1 - v
  high_like : IsLike (of_two vars x s y (neg_ℤ (pos 1)) (s -ℤ pos 1)) (less (sum (times s (variable x)) (number (s -ℤ pos 1))) (variable y))
  unfolding of_two
  high_like = record {
    coefs = λ j. (
        let a = number-of j s (neg_ℤ (pos 1)) (s -ℤ pos 1) in
        let b = both-numbers j s (neg_ℤ (pos 1)) in
        let c = coef-added j (sum (times s (variable x)) (number (s -ℤ pos 1))).coefs (times (negsuc 0) (variable y)).coefs in
        let d = coef-added-none j (times s (variable x)).coefs ∙ number-times j s x in
        let e = coef-scaled j (negsuc 0) (variable y).coefs ∙ ap (λ (z : ℤ). negsuc 0 *ℤ z) (at_variable y j) ∙ opposite j (pos 1) y in
        a ∙ b ∙ sym (c ∙ ap (λ (z : ℤ). z +ℤ coef j (times (negsuc 0) (variable y)).coefs) d ∙ ap (λ (z : ℤ). cond (same j x) s (pos 0) +ℤ z) e));
    constant = constant s;
  }
    where
      constant : (s : ℤ) → s -ℤ pos 1 ≡ (s *ℤ pos 0 +ℤ (s -ℤ pos 1)) +ℤ (negsuc 0 *ℤ pos 0)
      constant s = let e = *ℤ-zero s in omega (arith, ints, e)

tile_piece_at : (params level size o d : ℕ) (n : Nest) → length n.levels ≡ d → suc o ≤ level → level ≤ d → IsTiledPiece params (pos size) (suc o) level d (piece_of params (Tile level size (suc o)) n)
unfolding piece_of new_rows tile_rows
tile_piece_at params level size o d n e h l =
    let vars : ℕ = vars_after params n (Tile level size (suc o)) in
    let f : form_at (suc o) (variables params (suc d)) ≡ variable (params + o) = level_form o params (suc d) (omega (arith, h, l)) in
    let g : form_at (suc level) (variables params (suc d)) ≡ variable (params + level) = level_form level params (suc d) (omega (arith, l)) in
    let k : ℕ = level - suc o in
    let before : o ≡ suc o - 1 = omega arith in
    let y : params + level ≡ past (params + o) k = (let p = past-is (params + o) k in omega (arith, h, p)) in
    record {
      drops = refl;
      terms = refl;
      old = subst (λ (m : ℕ). Pairwise IsLike (map (old_form vars params (Tile level size (suc o))) (range_with_len 0 m)) (without (suc o) (variables params (suc d)))) (sym e)
          (subst (λ (fs : List Aff). Pairwise IsLike (map (old_form vars params (Tile level size (suc o))) (range_with_len 0 d)) (without (suc o) fs)) (from_zero vars params (suc d)) (tiles vars params level size (suc o) o 0 d (omega arith) (omega (arith, h, l))));
      rows = (
        record {
          equal = refl;
          form = subst (λ (m : ℕ). IsLike (of_two vars (params + m) (neg_ℤ (pos size)) (params + level) (pos 1) (pos 0)) (less (form_at (suc level) (variables params (suc d))) (times (pos size) (form_at (suc o) (variables params (suc d)))))) before
              (subst (λ (t : Aff). IsLike (of_two vars (params + o) (neg_ℤ (pos size)) (params + level) (pos 1) (pos 0)) (less (form_at (suc level) (variables params (suc d))) (times (pos size) t))) (sym f)
              (subst (λ (v : Aff). IsLike (of_two vars (params + o) (neg_ℤ (pos size)) (params + level) (pos 1) (pos 0)) (less v (times (pos size) (variable (params + o))))) (sym g)
              (subst (λ (v : ℕ). IsLike (of_two vars (params + o) (neg_ℤ (pos size)) v (pos 1) (pos 0)) (less (variable v) (times (pos size) (variable (params + o))))) (sym y) (low_like vars (params + o) k (pos size)))));
        },
        (
          record {
            equal = refl;
            form = subst (λ (m : ℕ). IsLike (of_two vars (params + m) (pos size) (params + level) (neg_ℤ (pos 1)) (pos size -ℤ pos 1)) (less (sum (times (pos size) (form_at (suc o) (variables params (suc d)))) (number (pos size -ℤ pos 1))) (form_at (suc level) (variables params (suc d))))) before
                (subst (λ (t : Aff). IsLike (of_two vars (params + o) (pos size) (params + level) (neg_ℤ (pos 1)) (pos size -ℤ pos 1)) (less (sum (times (pos size) t) (number (pos size -ℤ pos 1))) (form_at (suc level) (variables params (suc d))))) (sym f)
                (subst (λ (v : Aff). IsLike (of_two vars (params + o) (pos size) (params + level) (neg_ℤ (pos 1)) (pos size -ℤ pos 1)) (less (sum (times (pos size) (variable (params + o))) (number (pos size -ℤ pos 1))) v)) (sym g)
                (subst (λ (v : ℕ). IsLike (of_two vars (params + o) (pos size) v (neg_ℤ (pos 1)) (pos size -ℤ pos 1)) (less (sum (times (pos size) (variable (params + o))) (number (pos size -ℤ pos 1))) (variable v))) (sym y) (high_like vars (params + o) k (pos size)))));
          },
          tt,
        ),
      );
    }

pub tile_piece : TileMakesTiledPiece
tile_piece params level size zero n a h l = absurd (omega (arith, a))
tile_piece params level size (suc o) n a h l = tile_piece_at params level size o (length n.levels) n refl h l
