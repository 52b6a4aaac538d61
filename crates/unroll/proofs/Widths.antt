-- How many numbers forms have in which a level is replaced by a group.
use Rattle.std.proofs.Common.{◌≡◌, ℕ, zero, suc, arith, ◌<◌, ◌≤◌, ◌+◌, true, List, [], ◌∷◌, ◌++◌, length, take, drop, get_or, refl, ap, ◌∙◌, ℤ, pos, length-append, length-take, length-drop, eq-eqb}
use Rattle.std.specs.List.{list_all}
use Rattle.std.proofs.lemmas.Bool.{eqb-true}
use Rattle.std.proofs.lemmas.List.{length-map, get_or_append_left}
use Rattle.int_rows.specs.declared.row.Aff.{Aff}
use Rattle.nest_core.specs.Forms.{has_vars}
use Rattle.nest_core.specs.Shapes.{is_row_over}
use Rattle.affine_moves.proofs.Fitting.{bound-over, true-and}
use Rattle.affine_moves.proofs.Places.{and}
use Rattle.unroll.specs.Bounds.{coef}
use Rattle.unroll.specs.Groups.{difference, with_group, negated, value_form, plus_multiples, replaced, beyond}
use Rattle.unroll.specs.Unrolled.{replaced_uppers}

pub with_group-length : (zs : List ℤ) (at : ℕ) (group : List ℤ) → at < length zs → length (with_group zs at group) + 1 ≡ length zs + length group
unfolding with_group
with_group-length zs at group l = grind (arith, length-append, length-take, length-drop)

negated-length : (zs : List ℤ) → length (negated zs) ≡ length zs
negated-length zs = length-map zs (difference (pos 0))

pub value_form-length : (lower : Aff) (at : ℕ) (group : List ℤ) (more : ℤ) → at < length lower.coefs → length (value_form lower at group more).coefs + 1 ≡ length lower.coefs + length group
unfolding value_form
value_form-length lower at group more l =
    let same = negated-length lower.coefs in
    omega (arith, same, with_group-length (negated lower.coefs) at group (rw same l))

plus_multiples-length : (ss : List ℤ) (times : ℤ) (zs : List ℤ) → length ss ≡ length zs → length (plus_multiples ss times zs) ≡ length ss
plus_multiples-length [] times zs e = refl
plus_multiples-length (s ∷ ss) times [] e = absurd (omega (arith, e))
plus_multiples-length (s ∷ ss) times (z ∷ zs) e = ap suc (plus_multiples-length ss times zs (omega (arith, e)))

pub replaced-width : (vars new : ℕ) (f : Aff) (at : ℕ) (value : Aff) (none : List ℤ) → has_vars vars f ≡ true → at < vars → length value.coefs ≡ new → new + 1 ≡ vars + length none → has_vars new (replaced f at value none) ≡ true
unfolding replaced
replaced-width vars new f at value none w l v e =
    let wide : length f.coefs ≡ vars = eqb-true (length f.coefs) vars w in
    let group = with_group-length f.coefs at none (rw wide l) in
    let same : length (with_group f.coefs at none) ≡ length value.coefs = omega (arith, group, wide, v, e) in
    eq-eqb (length (plus_multiples (with_group f.coefs at none) (coef f at) value.coefs)) new (plus_multiples-length (with_group f.coefs at none) (coef f at) value.coefs same ∙ omega (arith, group, wide, e))

pub beyond-width : (vars : ℕ) (f : Aff) → has_vars vars f ≡ true → has_vars vars (beyond f) ≡ true
unfolding beyond
beyond-width vars f w = eq-eqb (length (negated f.coefs)) vars (negated-length f.coefs ∙ eqb-true (length f.coefs) vars w)

-- the rows made of upper rows are over the new variables
pub uppers-over : (vars new d own at : ℕ) (value : Aff) (none : List ℤ) (uppers : List Aff) → own ≤ d → at < vars → length value.coefs ≡ new → new + 1 ≡ vars + length none
    → list_all (has_vars vars) uppers ≡ true → list_all (is_row_over new d) (replaced_uppers own at value none uppers) ≡ true
uppers-over vars new d own at value none [] o l v e h = refl
uppers-over vars new d own at value none (u ∷ us) o l v e h =
    let w = and (has_vars vars u) (list_all (has_vars vars) us) h in
    true-and _ _ (bound-over new d own (replaced u at value none) o (replaced-width vars new u at value none w.0 l v e)) (uppers-over vars new d own at value none us o l v e w.1)

-- the first number of a group stands in the place of the level
pub group-at : (zs : List ℤ) (at : ℕ) (z : ℤ) (group : List ℤ) → at < length zs → get_or (with_group zs at (z ∷ group)) at (pos 0) ≡ z
unfolding with_group
group-at zs at z group l =
    let front : length (take at zs) ≡ at = omega (arith, length-take at zs, l) in
    let some : at < length (take at zs ++ z ∷ group) = omega (arith, length-append (take at zs) (z ∷ group), front) in
    get_or_append_left (take at zs ++ z ∷ group) (drop (suc at) zs) (pos 0) at some ∙ here (take at zs) at front z group
  where
    here : (xs : List ℤ) (i : ℕ) → length xs ≡ i → (y : ℤ) (ys : List ℤ) → get_or (xs ++ y ∷ ys) i (pos 0) ≡ y
    here [] zero e y ys = refl
    here [] (suc i) e y ys = absurd (omega (arith, e))
    here (x ∷ xs) zero e y ys = absurd (omega (arith, e))
    here (x ∷ xs) (suc i) e y ys = here xs i (omega (arith, e)) y ys

pub value_form-at : (lower : Aff) (at : ℕ) (z : ℤ) (group : List ℤ) (more : ℤ) → at < length lower.coefs → get_or (value_form lower at (z ∷ group) more).coefs at (pos 0) ≡ z
unfolding value_form
value_form-at lower at z group more l = group-at (negated lower.coefs) at z group (rw (negated-length lower.coefs) l)

pub take-over : (vars k : ℕ) (us : List Aff) → list_all (has_vars vars) us ≡ true → list_all (has_vars vars) (take k us) ≡ true
take-over vars zero us e = refl
take-over vars (suc k) [] e = refl
take-over vars (suc k) (x ∷ us) e = let h = and (has_vars vars x) (list_all (has_vars vars) us) e in rw h.0 (take-over vars k us h.1)
