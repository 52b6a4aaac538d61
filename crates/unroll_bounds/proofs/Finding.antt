-- What is known of the rows that are found.
use Rattle.std.proofs.Common.{◌≡◌, ◌⊎◌, inl, inr, ℕ, zero, suc, ◌+◌, ◌<◌, ◌≤◌, Bool, true, false, not, ◌&&◌, ◌||◌, cond, nat_le, nat_lt, nat_eq, List, [], ◌∷◌, length, refl, sym, ◌∙◌, ap, subst, arith, ℤ, pos, int_lt}
use Rattle.std.specs.Prelude.{Option, Some, None, slice_index_or}
use Rattle.std.specs.List.{list_all}
use Rattle.std.specs.Ordering.{int_eq}
use Rattle.std.proofs.lemmas.Bool.{and_parts}
use Rattle.std.proofs.lemmas.Bool.Decides.{Decides-int_eq}
use Rattle.int_rows.specs.declared.row.Aff.{Aff}
use Rattle.nest_tree.specs.declared.kernel.Nest.{Nest}
use Rattle.nest_tree.specs.declared.kernel.Term.{Term}
use Rattle.nest_tree.specs.declared.kernel.KernelRow.{KernelRow}
use Rattle.nest_tree.specs.Lists.{IsIn}
use Rattle.nest_tree.specs.Forms.{coef}
use Rattle.nest_core.specs.Terms.{held, names}
use Rattle.nest_core.specs.Shapes.{is_row_over}
use Rattle.affine_moves.specs.Moves.{any_below}
use Rattle.unroll.specs.declared.bounds.Bounds.{Bounds}
use Rattle.unroll.specs.Bounds.{var_of, first_term, names_later_one, names_later, is_lower, is_upper, forms_where, places_where, is_bound, is_plain, only_one, bounds_by}
use Rattle.unroll.specs.Bounds as found

-- ---- tests that are false
or-false : (a b : Bool) → (a || b) ≡ false → (a ≡ false) × (b ≡ false)
or-false true b e = absurd cc
or-false false b e = (refl, e)

pub not-true : (a : Bool) → not a ≡ true → a ≡ false
not-true true e = absurd cc
not-true false e = refl

under-true : (a b : Bool) → a ≡ true → (a && b) ≡ false → b ≡ false
under-true true b t e = e
under-true false b t e = absurd cc

any_below-false : (p : ℕ → Bool) (d : ℕ) → any_below p d ≡ false → (k : ℕ) → k < d → p k ≡ false
any_below-false p zero e k l = absurd (omega (arith, l))
any_below-false p (suc d) e k l = elim (less_or_last k d l) [ inl m ↦ any_below-false p d (or-false (any_below p d) (p d) e).0 k m | inr q ↦ ap p q ∙ (or-false (any_below p d) (p d) e).1 ]
  where
    less_or_last : (k d : ℕ) → k < suc d → (k < d) ⊎ (k ≡ d)
    less_or_last zero zero l = inr refl
    less_or_last zero (suc d) l = inl (omega arith)
    less_or_last (suc k) zero l = absurd (omega (arith, l))
    less_or_last (suc k) (suc d) l = elim (less_or_last k d (omega (arith, l))) [ inl m ↦ inl (omega (arith, m)) | inr q ↦ inr (ap (λ (n : ℕ). suc n) q) ]

-- ---- coefficients
pub index-coef : (cs : List ℤ) (v : ℕ) → slice_index_or cs v (pos 0) ≡ coef v cs
index-coef [] v = refl
index-coef (c ∷ cs) zero = refl
index-coef (c ∷ cs) (suc v) = index-coef cs v

held-zero : (cs : List ℤ) (v : ℕ) → held cs v ≡ false → coef v cs ≡ pos 0
unfolding held
held-zero cs v e = sym (index-coef cs v) ∙ (Decides-int_eq (slice_index_or cs v (pos 0)) (pos 0)).0 (not-false (int_eq (slice_index_or cs v (pos 0)) (pos 0)) e)
  where
    not-false : (a : Bool) → not a ≡ false → a ≡ true
    not-false true e = refl
    not-false false e = absurd cc

named-held : (first : ℕ) (terms : List Term) (var deep : ℕ) (f : Aff) → names first terms var deep f ≡ false → held f.coefs var ≡ false
named-held first terms var zero f e = e
named-held first terms var (suc deep) f e = (or-false (held f.coefs var) _ e).0

-- a form that names no later level has no coefficient for one
pub later-zero : (params level : ℕ) (n : Nest) (f : Aff) → names_later params level n f ≡ false → (place : ℕ) → level ≤ place → place < length n.levels → coef (params + place) f.coefs ≡ pos 0
unfolding names_later
later-zero params level n f e place h l =
    held-zero f.coefs (params + place) (named-held (first_term params n) n.terms (params + place) (length n.terms) f
    (under-true (nat_le level place) (names (first_term params n) n.terms (params + place) (length n.terms) f) (grind (arith, h)) (any_below-false (names_later_one params level n f) (length n.levels) e place l)))

-- ---- rows that bound the level
pub record Bounding (params level : ℕ) (n : Nest) (r : KernelRow) : Type 0 where
  pub own : nat_lt 0 r.own ≡ true
  pub later : names_later params level n (r.row).form ≡ false

pub lower_is : (params level : ℕ) (n : Nest) (r : KernelRow) → is_lower params level n r ≡ true → Bounding params level n r
unfolding is_lower
lower_is params level n r e =
    let a = and_parts (nat_lt 0 r.own) (int_lt (pos 0) (found.coef (r.row).form (var_of params level)) && not (names_later params level n (r.row).form)) e in
    let b = and_parts (int_lt (pos 0) (found.coef (r.row).form (var_of params level))) (not (names_later params level n (r.row).form)) a.1 in
    record { own = a.0; later = not-true (names_later params level n (r.row).form) b.1 }

pub upper_is : (params level : ℕ) (n : Nest) (r : KernelRow) → is_upper params level n r ≡ true → Bounding params level n r × (int_lt (found.coef (r.row).form (var_of params level)) (pos 0) ≡ true)
unfolding is_upper
upper_is params level n r e =
    let a = and_parts (nat_lt 0 r.own) (int_lt (found.coef (r.row).form (var_of params level)) (pos 0) && not (names_later params level n (r.row).form)) e in
    let b = and_parts (int_lt (found.coef (r.row).form (var_of params level)) (pos 0)) (not (names_later params level n (r.row).form)) a.1 in
    (record { own = a.0; later = not-true (names_later params level n (r.row).form) b.1 }, b.0)

pub plain_is : (params level : ℕ) (n : Nest) (f : Aff) → is_plain params level n f ≡ true → found.coef f (var_of params level) ≡ pos 1
unfolding is_plain
plain_is params level n f e = (Decides-int_eq (found.coef f (var_of params level)) (pos 1)).0 (and_parts (int_eq (found.coef f (var_of params level)) (pos 1)) _ e).0

-- a row with an own level is an inequality
pub all_in : {A : Type 0} (p : A → Bool) (xs : List A) (x : A) → list_all p xs ≡ true → IsIn x xs → p x ≡ true
all_in p [] x h a = absurd a
all_in p (y ∷ xs) x h (inl e) = ap p e ∙ (and_parts (p y) (list_all p xs) h).0
all_in p (y ∷ xs) x h (inr a) = all_in p xs x (and_parts (p y) (list_all p xs) h).1 a

pub inequality : (w d : ℕ) (rows : List KernelRow) (r : KernelRow) → list_all (is_row_over w d) rows ≡ true → IsIn r rows → nat_lt 0 r.own ≡ true → (r.row).equal ≡ false
inequality w d rows r all a own =
    let p = and_parts _ (nat_le r.own d && (nat_eq r.own 0 || not (r.row).equal)) (all_in (is_row_over w d) rows r all a) in
    let q = and_parts (nat_le r.own d) (nat_eq r.own 0 || not (r.row).equal) p.1 in
    not-true (r.row).equal (other (nat_eq r.own 0) (not (r.row).equal) (none r.own own) q.1)
  where
    none : (k : ℕ) → nat_lt 0 k ≡ true → nat_eq k 0 ≡ false
    none k e = grind (arith, e)

    other : (a b : Bool) → a ≡ false → (a || b) ≡ true → b ≡ true
    other true b e h = absurd cc
    other false b e h = h

-- ---- the rows that pass a test
pub form-found : (p : KernelRow → Bool) (rows : List KernelRow) (f : Aff) → IsIn f (forms_where p rows) → (r : KernelRow) × IsIn r rows × (p r ≡ true) × ((r.row).form ≡ f)
form-found p [] f h = absurd h
form-found p (r ∷ rows) f h = by (p r) refl h (form-found p rows f)
  where
    by : (t : Bool) → p r ≡ t → IsIn f (cond t ((r.row).form ∷ forms_where p rows) (forms_where p rows)) → (IsIn f (forms_where p rows) → (s : KernelRow) × IsIn s rows × (p s ≡ true) × ((s.row).form ≡ f))
        → (s : KernelRow) × IsIn s (r ∷ rows) × (p s ≡ true) × ((s.row).form ≡ f)
    by true e (inl q) rec = (r, inl refl, e, sym q)
    by true e (inr a) rec = let w = rec a in (w.0, inr w.1, w.2, w.3)
    by false e a rec = let w = rec a in (w.0, inr w.1, w.2, w.3)

pub only_one-is : (fs : List Aff) (f : Aff) → only_one fs ≡ Some f → IsIn f fs
only_one-is [] f e = absurd cc
only_one-is (g ∷ []) f e = let q : g ≡ f = cc in inl (sym q)
only_one-is (g ∷ h ∷ fs) f e = absurd cc

-- ---- what is found
pub record Found (params level : ℕ) (n : Nest) (b : Bounds) : Type 0 where
  pub lower : IsIn b.lower (forms_where (is_lower params level n) n.rows)
  pub plain : is_plain params level n b.lower ≡ true
  pub uppers : b.uppers ≡ forms_where (is_upper params level n) n.rows

pub found_by : (params level : ℕ) (n : Nest) (o : Option Aff) (b : Bounds) → ((f : Aff) → o ≡ Some f → IsIn f (forms_where (is_lower params level n) n.rows)) → bounds_by params level n o ≡ Some b → Found params level n b
found_by params level n None b h e = absurd cc
found_by params level n (Some f) b h e = by (is_plain params level n f) refl e
  where
    one : (x y : Bounds) → (let o : Option Bounds = Some x in o) ≡ Some y → x ≡ y
    one x y e = cc

    by : (t : Bool) → is_plain params level n f ≡ t → cond t (Some (record { lower = f; uppers = forms_where (is_upper params level n) n.rows; places = places_where (is_bound params level n) 0 n.rows })) None ≡ Some b → Found params level n b
    by true p e = subst (Found params level n) (one _ b e) (record { lower = h f refl; plain = p; uppers = refl })
    by false p e = absurd cc
