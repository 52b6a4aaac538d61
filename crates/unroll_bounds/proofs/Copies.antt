-- The forms and rows of a copy are those of the law.
use Rattle.std.proofs.Common.{◌≡◌, ◌⊎◌, inl, inr, ℕ, zero, suc, ◌+◌, ◌-◌, ◌≤◌, ◌<◌, ◌^◌, Bool, true, false, cond, nat_eq, nat_lt, List, [], ◌∷◌, ◌++◌, map, length, refl, sym, ◌∙◌, ap, subst, arith, ℤ, pos, negsuc, ◌+ℤ◌, ◌-ℤ◌, ◌*ℤ◌, ◌<ℤ◌, unsigned_abs, append-nil, eq-eqb}
use Rattle.std.specs.List.{range_with_len}
use Rattle.std.proofs.lemmas.Int.{ints}
use Rattle.std.proofs.lemmas.Bool.{eqb-true, and_parts}
use lib.IntN.{*ℤ-zero}
use Rattle.int_rows.specs.declared.row.Aff.{Aff}
use Rattle.c_tree.specs.declared.program.Program.{Program}
use Rattle.nest_tree.specs.declared.kernel.Nest.{Nest}
use Rattle.nest_tree.specs.declared.kernel.KernelRow.{KernelRow}
use Rattle.nest_tree.specs.Lists.{IsIn, Pairwise}
use Rattle.nest_tree.specs.Forms.{coef, added, number, zeros, variable, variables}
use Rattle.nest_tree.specs.Pieces.{IsLike}
use Rattle.nest_tree.specs.Unrolling.{full}
use Rattle.nest_laws.proofs.Narrow.{coef-added, coef-scaled}
use Rattle.nest_laws.proofs.Points.{length-map}
use Rattle.nest_core.specs.Forms.{has_vars}
use Rattle.nest_core.specs.Shapes.{IsShapedNest, vars_of, is_row_over}
use Rattle.affine_moves.specs.Change.{unit, bound}
use Rattle.unroll_laws.specs.Grouping.{UpperRow, upper_form, grouped, IsRowOf, group_forms, level_forms}
use Rattle.unroll.specs.declared.bounds.Bounds.{Bounds}
use Rattle.unroll.specs.Bounds.{var_of, is_lower, is_upper, forms_where, only_one, bounds_of}
use Rattle.unroll.specs.Bounds as found
use Rattle.unroll.specs.Groups.{difference, with_group, negated, value_form, replaced}
use Rattle.unroll.specs.Unrolled.{moved_place, old_form, replaced_uppers, full_rows, piece_by, full_piece}
use Rattle.unroll_bounds.specs.Laws.{low_of, size_less_one, upper_of}
use Rattle.unroll_bounds.specs.Copies.{IsSmall, value_at, CopyIsOfTheLaw}
use Rattle.unroll_bounds.proofs.Finding.{index-coef, upper_is, plain_is, form-found, all_in, only_one-is, Found, found_by}
use Rattle.unroll_bounds.proofs.Bounded.{coef-itself, coef_is, upper_below}
use Rattle.unroll_bounds.proofs.Numbers.{difference-exact, multiple-exact, negated-coef, group_here, group_else, group-length, multiples-coef, like_unit, coef-elsewhere, cancel}

equal_or_not : (a b : ℕ) → (a ≡ b) ⊎ (a ≡ b → ⊥)
equal_or_not zero zero = inl refl
equal_or_not zero (suc b) = inr (λ e. omega (arith, e))
equal_or_not (suc a) zero = inr (λ e. omega (arith, e))
equal_or_not (suc a) (suc b) = elim (equal_or_not a b) [ inl e ↦ inl (ap (λ (k : ℕ). suc k) e) | inr n ↦ inr (λ e. n (omega (arith, e))) ]

-- ---- the level's value: low + factor*x + place
module _ (x factor : ℕ) (lower : Aff) (place : ℤ) (inside : x < length lower.coefs) (one : coef x lower.coefs ≡ pos 1) (small : IsSmall (value_form lower x (pos factor ∷ []) place)) where
  abbrev value : Aff
  value = value_form lower x (pos factor ∷ []) place

  abbrev wanted : Aff
  wanted = grouped (low_of x lower) factor x (number place)

  abbrev unit_list : List ℤ
  unit_list = zeros x (pos 1 ∷ [])

  inside_negated : x < length (negated lower.coefs)
  inside_negated = let e = length-map (difference (pos 0)) lower.coefs in omega arith

  wanted-coef : (j : ℕ) → coef j wanted.coefs ≡ (coef j unit_list +ℤ (negsuc 0 *ℤ coef j lower.coefs)) +ℤ (pos factor *ℤ coef j unit_list)
  wanted-coef j =
      let a = coef-added j (low_of x lower).coefs (added (map (λ d. pos factor *ℤ d) unit_list) []) in
      let b = coef-added j (map (λ d. pos factor *ℤ d) unit_list) [] in
      let c = coef-scaled j (pos factor) unit_list in
      let d = coef-added j unit_list (map (λ d. negsuc 0 *ℤ d) lower.coefs) in
      let e = coef-scaled j (negsuc 0) lower.coefs in
      omega (arith, ints)

  value-coef : (j : ℕ) → coef j value.coefs ≡ coef j wanted.coefs
  unfolding value_form
  value-coef j = elim (equal_or_not j x) [
    | inl e ↦ ap (λ (k : ℕ). coef k value.coefs) e ∙ group_here (negated lower.coefs) x (pos factor) inside_negated ∙ here ∙ ap (λ (k : ℕ). coef k wanted.coefs) (sym e)
    | inr n ↦ (
        let same = group_else (negated lower.coefs) x (pos factor) j inside_negated n in
        same ∙ negated-coef lower.coefs j (subst (λ (z : ℤ). unsigned_abs z ≤ 2 ^ 126) same (small.coefs j)) ∙ elsewhere j n)
  ]
    where
      here : pos factor ≡ coef x wanted.coefs
      here =
          let w = wanted-coef x in
          let u = coef-itself x in
          let v : pos factor *ℤ coef x unit_list ≡ pos factor *ℤ pos 1 = ap (λ (z : ℤ). pos factor *ℤ z) u in
          let l = one in
          omega (arith, ints)

      elsewhere : (j : ℕ) → (j ≡ x → ⊥) → (pos 0 -ℤ coef j lower.coefs) ≡ coef j wanted.coefs
      elsewhere j n =
          let w = wanted-coef j in
          let u = coef-elsewhere x j n in
          let v : pos factor *ℤ coef j unit_list ≡ pos 0 = ap (λ (z : ℤ). pos factor *ℤ z) u ∙ *ℤ-zero (pos factor) in
          omega (arith, ints)

  pub like_value : IsLike value wanted
  unfolding value_form
  like_value = record {
    coefs = value-coef;
    constant = (
        let d = difference-exact place lower.constant small.constant in
        let z = *ℤ-zero (pos factor) in
        omega (arith, ints));
  }

-- ---- an upper row with the value in the place of the level
module _ (x : ℕ) (u value wanted : Aff) (inside : x < length u.coefs) (wide : length value.coefs ≡ length u.coefs) (below : coef x u.coefs <ℤ pos 0) (like : IsLike value wanted) (small : IsSmall (replaced u x value (pos 0 ∷ []))) where
  abbrev k : ℤ
  k = pos (suc (size_less_one (coef x u.coefs)))

  abbrev units : List ℤ
  units = zeros x (pos 1 ∷ [])

  goes : (c : ℤ) → c <ℤ pos 0 → (c +ℤ pos (suc (size_less_one c))) ≡ pos 0
  goes (pos n) h = absurd (omega (arith, ints))
  goes (negsuc n) h = omega (arith, ints)

  t_is : found.coef u x ≡ coef x u.coefs
  t_is = index-coef u.coefs x

  right-coef : (j : ℕ) → coef j (upper_form (upper_of x u) wanted).coefs ≡ (coef j u.coefs +ℤ (k *ℤ coef j units)) +ℤ (negsuc 0 *ℤ (k *ℤ coef j wanted.coefs))
  right-coef j =
      let a = coef-added j (added u.coefs (map (λ d. k *ℤ d) units)) (map (λ d. negsuc 0 *ℤ d) (map (λ d. k *ℤ d) wanted.coefs)) in
      let b = coef-added j u.coefs (map (λ d. k *ℤ d) units) in
      let c = coef-scaled j k units in
      let d = coef-scaled j (negsuc 0) (map (λ d. k *ℤ d) wanted.coefs) in
      let e = coef-scaled j k wanted.coefs in
      omega (arith, ints)

  left-coef : (j : ℕ) → coef j (replaced u x value (pos 0 ∷ [])).coefs ≡ coef j (with_group u.coefs x (pos 0 ∷ [])) +ℤ (coef x u.coefs *ℤ coef j wanted.coefs)
  unfolding replaced
  left-coef j =
      multiples-coef (with_group u.coefs x (pos 0 ∷ [])) (found.coef u x) value.coefs j (group-length u.coefs x (pos 0) inside ∙ sym wide) (small.coefs j)
      ∙ ap (λ (t : ℤ). coef j (with_group u.coefs x (pos 0 ∷ [])) +ℤ (t *ℤ coef j value.coefs)) t_is
      ∙ ap (λ (z : ℤ). coef j (with_group u.coefs x (pos 0 ∷ [])) +ℤ (coef x u.coefs *ℤ z)) (like.coefs j)

  row-coef : (j : ℕ) → coef j (replaced u x value (pos 0 ∷ [])).coefs ≡ coef j (upper_form (upper_of x u) wanted).coefs
  row-coef j = elim (equal_or_not j x) [ inl e ↦ here e | inr n ↦ elsewhere n ]
    where
      here : j ≡ x → coef j (replaced u x value (pos 0 ∷ [])).coefs ≡ coef j (upper_form (upper_of x u) wanted).coefs
      here e =
          let l = left-coef j in
          let r = right-coef j in
          let g : coef j (with_group u.coefs x (pos 0 ∷ [])) ≡ pos 0 = ap (λ (i : ℕ). coef i (with_group u.coefs x (pos 0 ∷ []))) e ∙ group_here u.coefs x (pos 0) inside in
          let s : coef j u.coefs ≡ coef x u.coefs = ap (λ (i : ℕ). coef i u.coefs) e in
          let v : k *ℤ coef j units ≡ k *ℤ pos 1 = ap (λ (i : ℕ). k *ℤ coef i units) e ∙ ap (λ (z : ℤ). k *ℤ z) (coef-itself x) in
          let m = cancel (coef x u.coefs) k (coef j wanted.coefs) (goes (coef x u.coefs) below) in
          let z = goes (coef x u.coefs) below in
          omega (arith, ints)

      elsewhere : (j ≡ x → ⊥) → coef j (replaced u x value (pos 0 ∷ [])).coefs ≡ coef j (upper_form (upper_of x u) wanted).coefs
      elsewhere n =
          let l = left-coef j in
          let r = right-coef j in
          let g = group_else u.coefs x (pos 0) j inside n in
          let v : k *ℤ coef j units ≡ pos 0 = ap (λ (z : ℤ). k *ℤ z) (coef-elsewhere x j n) ∙ *ℤ-zero k in
          let m = cancel (coef x u.coefs) k (coef j wanted.coefs) (goes (coef x u.coefs) below) in
          omega (arith, ints)

  constants : (replaced u x value (pos 0 ∷ [])).constant ≡ u.constant +ℤ (coef x u.coefs *ℤ wanted.constant)
  unfolding replaced
  constants =
      multiple-exact u.constant (found.coef u x) value.constant small.constant
      ∙ ap (λ (t : ℤ). u.constant +ℤ (t *ℤ value.constant)) t_is ∙ ap (λ (z : ℤ). u.constant +ℤ (coef x u.coefs *ℤ z)) like.constant

  pub like_row : IsLike (replaced u x value (pos 0 ∷ [])) (upper_form (upper_of x u) wanted)
  like_row = record {
    coefs = row-coef;
    constant = (
        let c = constants in
        let z = *ℤ-zero k in
        let m = cancel (coef x u.coefs) k wanted.constant (goes (coef x u.coefs) below) in
        omega (arith, ints));
  }

-- ---- the forms of the old levels
module _ (params before vars : ℕ) (value wanted : Aff) (like : IsLike value wanted) where
  abbrev form_at : ℕ → Aff
  form_at l = old_form vars params (suc before) value 0 l

  itself : form_at before ≡ value
  unfolding old_form
  itself = let t : nat_eq (suc before) (suc before) ≡ true = eq-eqb (suc before) (suc before) refl in ap (λ (b : Bool). cond b value (unit vars (params + moved_place (suc before) 0 before))) t

  other : (l : ℕ) → (l ≡ before → ⊥) → form_at l ≡ unit vars (params + l)
  unfolding old_form
  other l n = by (nat_eq (suc l) (suc before)) refl (nat_lt l (suc before))
    where
      by : (b : Bool) → nat_eq (suc l) (suc before) ≡ b → (c : Bool) → cond b value (unit vars (params + cond c l (l + 0))) ≡ unit vars (params + l)
      by true e c = absurd (n (let q = eqb-true (suc l) (suc before) e in omega (arith, q)))
      by false e true = refl
      by false e false = let z : l + 0 ≡ l = omega arith in ap (λ (i : ℕ). unit vars (params + i)) z

  like_other : (l y : ℕ) → (l ≡ before → ⊥) → params + l ≡ y → IsLike (form_at l) (variable y)
  like_other l y n e = subst (λ (f : Aff). IsLike f (variable y)) (sym (other l n)) (subst (λ (i : ℕ). IsLike (unit vars (params + l)) (variable i)) e (like_unit vars (params + l)))

  behind : (k l y : ℕ) → before < l → params + l ≡ y → Pairwise IsLike (map form_at (range_with_len l k)) (variables y k)
  behind zero l y h e = tt
  behind (suc k) l y h e = (like_other l y (λ q. omega (arith, h, q)) e, behind k (l + 1) (suc y) (omega arith) (omega arith))

  -- so many levels before the unrolled one, and so many behind it
  all_levels : (d k l y : ℕ) → l + d ≡ before → params + l ≡ y → Pairwise IsLike (map form_at (range_with_len l (d + suc k))) (variables y d ++ wanted ∷ variables (suc (params + before) + 0) k)
  all_levels zero k l y h e =
      let z : 0 + suc k ≡ suc k = omega arith in
      let q : l ≡ before = omega arith in
      subst (λ (m : ℕ). Pairwise IsLike (map form_at (range_with_len l m)) (wanted ∷ variables (suc (params + before) + 0) k)) (sym z)
      (subst (λ (i : ℕ). IsLike (form_at i) wanted) (sym q) (subst (λ (f : Aff). IsLike f wanted) (sym itself) like), behind k (l + 1) (suc (params + before) + 0) (omega arith) (omega arith))
  all_levels (suc d) k l y h e =
      let z : suc d + suc k ≡ suc (d + suc k) = omega arith in
      subst (λ (m : ℕ). Pairwise IsLike (map form_at (range_with_len l m)) (variable y ∷ (variables (suc y) d ++ wanted ∷ variables (suc (params + before) + 0) k))) (sym z)
      (like_other l y (λ q. omega (arith, h, q)) e, all_levels d k (l + 1) (suc y) (omega arith) (omega arith))

-- ---- the piece
module _ (head : Program) (n : Nest) (before factor copy : ℕ) (b : Bounds) (positions : List ℕ) (shaped : IsShapedNest head n) (inside : before < length n.levels) (h : Found (length head.params) (suc before) n b) where
  abbrev params : ℕ
  params = length head.params

  abbrev x : ℕ
  x = params + before

  abbrev last : ℤ
  last = pos factor -ℤ pos 1

  wide_form : (p : KernelRow → Bool) (f : Aff) → IsIn f (forms_where p n.rows) → length f.coefs ≡ vars_of params n
  wide_form p f a =
      let r = form-found p n.rows f a in
      let q = all_in (is_row_over (vars_of params n) (length n.levels)) n.rows r.0 shaped.rows r.1 in
      ap (λ (g : Aff). length g.coefs) (sym r.3) ∙ eqb-true (length ((r.0).row.form).coefs) (vars_of params n) (and_parts (has_vars (vars_of params n) ((r.0).row).form) _ q).0

  x_inside : x < vars_of params n
  x_inside = omega arith

  lower_wide : length (b.lower).coefs ≡ vars_of params n
  lower_wide = wide_form (is_lower params (suc before) n) b.lower h.lower

  one : coef x (b.lower).coefs ≡ pos 1
  one = sym (coef_is head n before shaped inside b.lower) ∙ plain_is params (suc before) n b.lower h.plain

  value_like : (place : ℤ) → IsSmall (value_at x factor b place) → IsLike (value_at x factor b place) (grouped (low_of x b.lower) factor x (number place))
  value_like place small = like_value x factor b.lower place (let w = lower_wide in let i = x_inside in omega arith) one small

  value_wide : (place : ℤ) → length (value_at x factor b place).coefs ≡ vars_of params n
  unfolding value_form
  value_wide place = group-length (negated (b.lower).coefs) x (pos factor) (let e = length-map (difference (pos 0)) (b.lower).coefs in let w = lower_wide in let i = x_inside in omega arith) ∙ length-map (difference (pos 0)) (b.lower).coefs ∙ lower_wide

  -- each row of the group's last value
  rows_like : (own : ℕ) (us : List Aff) → IsSmall (value_at x factor b last) → ((f : Aff) → IsIn f us → IsIn f (forms_where (is_upper params (suc before) n) n.rows))
      → ((r : KernelRow) → IsIn r (replaced_uppers own x (value_at x factor b last) (pos 0 ∷ []) us) → IsSmall (r.row).form)
      → Pairwise IsRowOf (replaced_uppers own x (value_at x factor b last) (pos 0 ∷ []) us) (map (λ u. upper_form u (grouped (low_of x b.lower) factor x (number last))) (map (upper_of x) us))
  rows_like own [] s are small = tt
  rows_like own (u ∷ us) s are small =
      let r = form-found (is_upper params (suc before) n) n.rows u (are u (inl refl)) in
      let w : length u.coefs ≡ vars_of params n = wide_form (is_upper params (suc before) n) u (are u (inl refl)) in
      let k = upper_is params (suc before) n r.0 r.2 in (
        (refl, like_row x u (value_at x factor b last) (grouped (low_of x b.lower) factor x (number last)) (let i = x_inside in omega arith) (value_wide last ∙ sym w) (upper_below head n before shaped inside r.0 u r.3 k.1) (value_like last s) (small (bound own (replaced u x (value_at x factor b last) (pos 0 ∷ []))) (inl refl))),
        rows_like own us s (λ f a. are f (inr a)) (λ q a. small q (inr a)),
      )

  abbrev IsOfTheLaw : ℕ → Type 0
  IsOfTheLaw at =
      ((r : KernelRow) → IsIn r (full_rows (params + (length n.levels + 0) + length n.terms) (suc before) at (pos factor) b) → IsSmall (r.row).form)
      → Pairwise IsLike (map (old_form (params + (length n.levels + 0) + length n.terms) params (suc before) (value_form b.lower at (pos factor ∷ []) (pos copy)) 0) (range_with_len 0 (length n.levels))) (level_forms full factor copy params before (length n.levels) (low_of x b.lower))
      × Pairwise IsRowOf (full_rows (params + (length n.levels + 0) + length n.terms) (suc before) at (pos factor) b) (group_forms full factor copy x (low_of x b.lower) (map (upper_of x) b.uppers))

  at_x : IsSmall (value_at x factor b (pos copy)) → IsSmall (value_at x factor b last) → IsOfTheLaw x
  unfolding full_rows
  at_x s l small =
      let vars : ℕ = params + (length n.levels + 0) + length n.terms in
      let k : ℕ = length n.levels - suc before in
      let d : before + suc k ≡ length n.levels = omega arith in
      let z : params + 0 ≡ params = omega arith in (
        subst (λ (m : ℕ). Pairwise IsLike (map (old_form vars params (suc before) (value_at x factor b (pos copy)) 0) (range_with_len 0 m)) (level_forms full factor copy params before (length n.levels) (low_of x b.lower))) d
            (all_levels params before vars (value_at x factor b (pos copy)) (grouped (low_of x b.lower) factor x (number (pos copy))) (value_like (pos copy) s) before k 0 params (omega arith) z),
        (
          (refl, like_unit vars x),
          subst (Pairwise IsRowOf (replaced_uppers (suc before) x (value_at x factor b last) (pos 0 ∷ []) b.uppers)) (sym (append-nil (map (λ u. upper_form u (grouped (low_of x b.lower) factor x (number last))) (map (upper_of x) b.uppers))))
              (rows_like (suc before) b.uppers l (λ f a. subst (λ (fs : List Aff). IsIn f fs) h.uppers a) (λ r a. small r (inr a))),
        ),
      )

  var_at : var_of params (suc before) ≡ x
  var_at = omega arith

  pub of_the_law : IsSmall (value_at x factor b (pos copy)) → IsSmall (value_at x factor b last) → IsOfTheLaw (var_of params (suc before))
  of_the_law s l = subst IsOfTheLaw (sym var_at) (at_x s l)

pub copies : CopyIsOfTheLaw
unfolding bounds_of full_piece piece_by
copies head n before factor copy b positions shaped inside e s l small =
    of_the_law head n before factor copy b positions shaped inside
    (found_by (length head.params) (suc before) n (only_one (forms_where (is_lower (length head.params) (suc before) n) n.rows)) b
    (λ f q. only_one-is (forms_where (is_lower (length head.params) (suc before) n) n.rows) f q) e) s l small
