-- The bounds that are found are those of the law.
use Rattle.std.proofs.Common.{◌≡◌, ◌⊎◌, inl, inr, ℕ, zero, suc, ◌+◌, ◌-◌, ◌<◌, true, List, [], ◌∷◌, map, length, refl, sym, ◌∙◌, ap, subst, arith, ℤ, pos, negsuc, ◌+ℤ◌, ◌*ℤ◌, ◌<ℤ◌, int_lt}
use Rattle.std.proofs.lemmas.Int.{ints}
use lib.IntN.{*ℤ-zero}
use Rattle.int_rows.specs.declared.row.Aff.{Aff}
use Rattle.c_tree.specs.declared.program.Program.{Program}
use Rattle.nest_tree.specs.declared.kernel.Nest.{Nest}
use Rattle.nest_tree.specs.declared.kernel.KernelRow.{KernelRow}
use Rattle.nest_tree.specs.Lists.{IsIn}
use Rattle.nest_tree.specs.Forms.{coef, added, less, zeros, variable}
use Rattle.nest_tree.specs.Pieces.{IsLike}
use Rattle.nest_laws.proofs.Narrow.{coef-added, coef-scaled, coef-zeros}
use Rattle.nest_core.specs.Shapes.{IsShapedNest, vars_of}
use Rattle.unroll_laws.specs.Grouping.{UpperRow, upper_form, HasRow, NamesNone, IsBounded}
use Rattle.unroll.specs.declared.bounds.Bounds.{Bounds}
use Rattle.unroll.specs.Bounds.{var_of, is_lower, is_upper, forms_where, only_one, bounds_of}
use Rattle.unroll.specs.Bounds as found
use Rattle.unroll_bounds.specs.Laws.{low_of, size_less_one, upper_of, FoundBoundsAreBounds}
use Rattle.unroll_bounds.proofs.Finding.{later-zero, index-coef, Bounding, lower_is, upper_is, plain_is, inequality, form-found, only_one-is, Found, found_by}

-- ---- where a number stands
less_or_not : (a b : ℕ) → (a < b) ⊎ ((k : ℕ) × (a ≡ b + k))
less_or_not a zero = inr (a, omega arith)
less_or_not zero (suc b) = inl (omega arith)
less_or_not (suc a) (suc b) = elim (less_or_not a b) [ inl l ↦ inl (omega (arith, l)) | inr w ↦ (let e = w.1 in inr (w.0, omega arith)) ]

pub coef-itself : (v : ℕ) → coef v (zeros v (pos 1 ∷ [])) ≡ pos 1
coef-itself zero = refl
coef-itself (suc v) = coef-itself v

-- a form without the variable x and without the later levels names only what stands before x, and terms
names_none : (x w : ℕ) (g : Aff) → coef x g.coefs ≡ pos 0 → ((i : ℕ) → x + suc i < w → coef (x + suc i) g.coefs ≡ pos 0) → NamesNone x w g
names_none x w g here later j n = elim (less_or_not j x) [ inl l ↦ inl l | inr k ↦ inr (behind k.0 k.1 (less_or_not j w)) ]
  where
    behind : (i : ℕ) → j ≡ x + i → (j < w) ⊎ ((k : ℕ) × (j ≡ w + k)) → (k : ℕ) × (j ≡ w + k)
    behind i e (inr k) = k
    behind zero e (inl l) = absurd (let q : j ≡ x = omega arith in n (ap (λ (m : ℕ). coef m g.coefs) q ∙ here))
    behind (suc i) e (inl l) = absurd (n (ap (λ (m : ℕ). coef m g.coefs) e ∙ later i (omega arith)))

module _ (x : ℕ) where
  abbrev unit : List ℤ
  unit = zeros x (pos 1 ∷ [])

  -- the lower row is x less low
  like_lower : (f : Aff) → IsLike f (less (variable x) (low_of x f))
  like_lower f = record {
    coefs = λ j. (
        let a = coef-added j unit (map (λ d. negsuc 0 *ℤ d) (low_of x f).coefs) in
        let b = coef-scaled j (negsuc 0) (low_of x f).coefs in
        let c = coef-added j unit (map (λ d. negsuc 0 *ℤ d) f.coefs) in
        let d = coef-scaled j (negsuc 0) f.coefs in
        omega (arith, ints));
    constant = omega (arith, ints);
  }

  -- an upper row is its bound less b*x
  like_upper : (f : Aff) → IsLike f (upper_form (upper_of x f) (variable x))
  like_upper f =
      let k : ℤ = pos (suc (size_less_one (coef x f.coefs))) in
      let bx : List ℤ = map (λ d. k *ℤ d) unit in record {
        coefs = λ j. (
            let a = coef-added j (added f.coefs bx) (map (λ d. negsuc 0 *ℤ d) bx) in
            let b = coef-scaled j (negsuc 0) bx in
            let c = coef-added j f.coefs bx in
            omega (arith, ints));
        constant = omega (arith, ints);
      }

  module _ (w : ℕ) (f : Aff) (later : (i : ℕ) → x + suc i < w → coef (x + suc i) f.coefs ≡ pos 0) where
    low_none : coef x f.coefs ≡ pos 1 → NamesNone x w (low_of x f)
    low_none one =
        names_none x w (low_of x f)
        (let c = coef-added x unit (map (λ d. negsuc 0 *ℤ d) f.coefs) in let d = coef-scaled x (negsuc 0) f.coefs in let u = coef-itself x in omega (arith, ints))
        (λ i l. (
        let c = coef-added (x + suc i) unit (map (λ d. negsuc 0 *ℤ d) f.coefs) in
        let d = coef-scaled (x + suc i) (negsuc 0) f.coefs in
        let u = coef-zeros x i in
        let z = later i l in
        omega (arith, ints)))

    -- the coefficient of x goes with b*x
    gone : (c : ℤ) → c <ℤ pos 0 → (c +ℤ (pos (suc (size_less_one c)) *ℤ pos 1)) ≡ pos 0
    gone (pos n) h = absurd (omega (arith, ints))
    gone (negsuc n) h = omega (arith, ints)

    upper_none : coef x f.coefs <ℤ pos 0 → NamesNone x w (upper_of x f).bound
    upper_none below =
        let k : ℤ = pos (suc (size_less_one (coef x f.coefs))) in
        names_none x w (upper_of x f).bound
        (coef-added x f.coefs (map (λ d. k *ℤ d) unit) ∙ ap (λ (z : ℤ). coef x f.coefs +ℤ z) (coef-scaled x k unit ∙ ap (λ (z : ℤ). k *ℤ z) (coef-itself x)) ∙ gone (coef x f.coefs) below)
        (λ i l. (
        coef-added (x + suc i) f.coefs (map (λ d. k *ℤ d) unit)
        ∙ ap (λ (z : ℤ). coef (x + suc i) f.coefs +ℤ z) (coef-scaled (x + suc i) k unit ∙ ap (λ (z : ℤ). k *ℤ z) (coef-zeros x i) ∙ *ℤ-zero k)
        ∙ ap (λ (z : ℤ). z +ℤ pos 0) (later i l)))

module _ (head : Program) (n : Nest) (before : ℕ) (shaped : IsShapedNest head n) (inside : before < length n.levels) where
  abbrev params : ℕ
  params = length head.params

  abbrev level_var : ℕ
  level_var = params + before

  abbrev width : ℕ
  width = params + length n.levels

  var_is : var_of params (suc before) ≡ level_var
  var_is = omega arith

  has : (r : KernelRow) (f g : Aff) → IsIn r n.rows → Bounding params (suc before) n r → (r.row).form ≡ f → IsLike f g → HasRow n g
  has r f g a b e l = (r, a, (inequality (vars_of params n) (length n.levels) n.rows r shaped.rows a b.own, subst (λ (h : Aff). IsLike h g) (sym e) l))

  no_later : (r : KernelRow) (f : Aff) → Bounding params (suc before) n r → (r.row).form ≡ f → (i : ℕ) → level_var + suc i < width → coef (level_var + suc i) f.coefs ≡ pos 0
  no_later r f b e i l =
      let q : level_var + suc i ≡ params + (before + suc i) = omega arith in
      ap (λ (m : ℕ). coef m f.coefs) q ∙ subst (λ (h : Aff). coef (params + (before + suc i)) h.coefs ≡ pos 0) e (later-zero params (suc before) n (r.row).form b.later (before + suc i) (omega arith) (omega arith))

  pub coef_is : (f : Aff) → found.coef f (var_of params (suc before)) ≡ coef level_var f.coefs
  coef_is f = index-coef f.coefs (var_of params (suc before)) ∙ ap (λ (m : ℕ). coef m f.coefs) var_is

  below-zero : (c : ℤ) → int_lt c (pos 0) ≡ true → c <ℤ pos 0
  below-zero c e = grind (arith, ints, e)

  pub upper_below : (r : KernelRow) (f : Aff) → (r.row).form ≡ f → int_lt (found.coef (r.row).form (var_of params (suc before))) (pos 0) ≡ true → coef level_var f.coefs <ℤ pos 0
  upper_below r f e h = below-zero (coef level_var f.coefs) (ap (λ (z : ℤ). int_lt z (pos 0)) (sym (ap (λ (g : Aff). found.coef g (var_of params (suc before))) e ∙ coef_is f)) ∙ h)

  -- each upper row that is found
  module _ (fs : List Aff) (are : (f : Aff) → IsIn f fs → IsIn f (forms_where (is_upper params (suc before) n) n.rows)) where
    of_form : (gs : List Aff) (u : UpperRow) → IsIn u (map (upper_of level_var) gs) → (f : Aff) × IsIn f gs × (u ≡ upper_of level_var f)
    of_form [] u a = absurd a
    of_form (g ∷ gs) u (inl e) = (g, inl refl, e)
    of_form (g ∷ gs) u (inr a) = let w = of_form gs u a in (w.0, inr w.1, w.2)

    upper_has : (u : UpperRow) → IsIn u (map (upper_of level_var) fs) → HasRow n (upper_form u (variable level_var))
    upper_has u a =
        let w = of_form fs u a in
        let r = form-found (is_upper params (suc before) n) n.rows w.0 (are w.0 w.1) in
        let b = upper_is params (suc before) n r.0 r.2 in
        subst (λ (v : UpperRow). HasRow n (upper_form v (variable level_var))) (sym w.2) (has r.0 w.0 (upper_form (upper_of level_var w.0) (variable level_var)) r.1 b.0 r.3 (like_upper level_var w.0))

    upper_names : (u : UpperRow) → IsIn u (map (upper_of level_var) fs) → NamesNone level_var width u.bound
    upper_names u a =
        let w = of_form fs u a in
        let r = form-found (is_upper params (suc before) n) n.rows w.0 (are w.0 w.1) in
        let b = upper_is params (suc before) n r.0 r.2 in
        subst (λ (v : UpperRow). NamesNone level_var width v.bound) (sym w.2) (upper_none level_var width w.0 (no_later r.0 w.0 b.0 r.3) (upper_below r.0 w.0 r.3 b.1))

  by_found : (b : Bounds) → Found params (suc before) n b → IsBounded params before (low_of level_var b.lower) (map (upper_of level_var) b.uppers) n
  by_found b h =
      let r = form-found (is_lower params (suc before) n) n.rows b.lower h.lower in
      let k = lower_is params (suc before) n r.0 r.2 in
      let are : (f : Aff) → IsIn f b.uppers → IsIn f (forms_where (is_upper params (suc before) n) n.rows) = λ f a. subst (λ (l : List Aff). IsIn f l) h.uppers a in record {
        within = inside;
        lower = has r.0 b.lower (less (variable level_var) (low_of level_var b.lower)) r.1 k r.3 (like_lower level_var b.lower);
        uppers = upper_has b.uppers are;
        low_none = low_none level_var width b.lower (no_later r.0 b.lower k r.3) (sym (coef_is b.lower) ∙ plain_is params (suc before) n b.lower h.plain);
        upper_none = upper_names b.uppers are;
      }

pub bounded : FoundBoundsAreBounds
unfolding bounds_of
bounded head n before b shaped inside e =
    by_found head n before shaped inside b
    (found_by (length head.params) (suc before) n (only_one (forms_where (is_lower (length head.params) (suc before) n) n.rows)) b
    (λ f h. only_one-is (forms_where (is_lower (length head.params) (suc before) n) n.rows) f h) e)
