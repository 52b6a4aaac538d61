-- Where forms are met one after another, each term that they hold has the value of the one that stands for it.
use Rattle.std.proofs.Common.{◌≡◌, ◌⊎◌, inl, inr, ℕ, zero, suc, ◌+◌, ◌-◌, ◌<◌, ◌≤◌, Bool, true, false, cond, List, [], ◌∷◌, ◌++◌, map, length, refl, sym, ◌∙◌, ap, subst, arith, ℤ, pos, nat_lt}
use Rattle.std.specs.Prelude.{Option, Some, None, slice_get, slice_set, slice_index_or, is_some, replicate, bytes_eq}
use Rattle.std.specs.List.{range_with_len}
use Rattle.std.proofs.lemmas.Bool.{and_parts, ltb-false}
use Rattle.std.proofs.lemmas.Bool.Decides.{Decides-int_eq}
use Rattle.std.proofs.lemmas.Slice.Eq.{bytes_eq-Decides}
use Rattle.int_rows.specs.declared.row.Aff.{Aff}
use Rattle.nest_tree.specs.declared.kernel.Term.{Term}
use Rattle.nest_tree.specs.Lists.{IsIn}
use Rattle.nest_tree.specs.Forms.{value, coef}
use Rattle.nest_laws.proofs.Points.{zero_or_not}
use Rattle.nest_laws.proofs.Lists.{in_append, in_append-left, in_append-right}
use Rattle.nest_systems.specs.declared.choose.Chosen.{Chosen}
use Rattle.nest_systems.specs.Sums.{number_at}
use Rattle.nest_systems.specs.Begun.{is_zero}
use Rattle.nest_systems.specs.Choosing.{are_equal, are_all_equal, is_alike, find_alike, or_else, find_met, is_met, with_same, in_order, at_end, chosen_by, chosen, over_terms, over_forms, arguments, meet_term, none_chosen, form_of, chosen_of}
use Rattle.point_laws.specs.Alike.{IsMet}
use Rattle.point_laws.specs.Standing.{AreReads, AreStoodFor, TermsAreStoodFor}
use Rattle.point_laws.proofs.Seated.{number-coef}
use Rattle.point_laws.proofs.Alike.{equal_forms, got}

-- ---- lists with one thing set
set-length : (xs : List (Option ℕ)) (i : ℕ) (x : Option ℕ) → length (slice_set xs i x) ≡ length xs
set-length [] i x = refl
set-length (y ∷ xs) zero x = refl
set-length (y ∷ xs) (suc i) x = ap suc (set-length xs i x)

set-here : (xs : List (Option ℕ)) (i : ℕ) (x y : Option ℕ) → slice_get xs i ≡ Some y → slice_get (slice_set xs i x) i ≡ Some x
set-here [] i x y h = absurd cc
set-here (z ∷ xs) zero x y h = refl
set-here (z ∷ xs) (suc i) x y h = set-here xs i x y h

set-there : (xs : List (Option ℕ)) (i j : ℕ) (x : Option ℕ) → (j ≡ i → ⊥) → slice_get (slice_set xs i x) j ≡ slice_get xs j
set-there [] i j x h = refl
set-there (y ∷ xs) zero zero x h = absurd (h refl)
set-there (y ∷ xs) zero (suc j) x h = refl
set-there (y ∷ xs) (suc i) zero x h = refl
set-there (y ∷ xs) (suc i) (suc j) x h = set-there xs i j x (λ e. h (ap suc e))

same_or_not : (a b : ℕ) → (a ≡ b) ⊎ (a ≡ b → ⊥)
same_or_not zero zero = inl refl
same_or_not zero (suc b) = inr (λ e. omega (arith, e))
same_or_not (suc a) zero = inr (λ e. omega (arith, e))
same_or_not (suc a) (suc b) = elim (same_or_not a b) [ inl e ↦ inl (ap suc e) | inr h ↦ inr (λ e. h (omega (arith, e))) ]

pub within : (xs : List (Option ℕ)) (i : ℕ) (x : Option ℕ) → slice_get xs i ≡ Some x → i < length xs
within [] i x h = absurd cc
within (y ∷ xs) zero x h = omega arith
within (y ∷ xs) (suc i) x h = omega (arith, within xs i x h)

index-is : (xs : List (Option ℕ)) (i : ℕ) (x : Option ℕ) → slice_get xs i ≡ Some x → slice_index_or xs i None ≡ x
index-is [] i x h = absurd cc
index-is (y ∷ xs) zero x h = cc
index-is (y ∷ xs) (suc i) x h = index-is xs i x h

some_not : (u : ℕ) (o : Option (Option ℕ)) → o ≡ Some (Some u) → o ≡ Some None → ⊥
some_not u o a b = let e : Some (Some u) ≡ Some None = sym a ∙ b in cc

module _ (first from : ℕ) (terms : List Term) (p : List ℤ) (r : AreReads first terms p) where
  abbrev Good : Chosen → Type 0
  Good c = AreStoodFor first from terms p c

  -- what was met stays so
  abbrev Later : Chosen → Chosen → Type 0
  Later c d = ((t u : ℕ) → slice_get c.same t ≡ Some (Some u) → slice_get d.same t ≡ Some (Some u)) × (length d.same ≡ length c.same)

  -- terms of a rank from one on stay unmet
  abbrev Still : ℕ → Chosen → Chosen → Type 0
  Still n c d = (t : ℕ) → n ≤ r.rank t → slice_get c.same t ≡ Some None → slice_get d.same t ≡ Some None

  abbrev Out : ℕ → Chosen → Chosen → Type 0
  Out n c d = Good d × Later c d × Still n c d

  abbrev Has : Chosen → ℕ → Type 0
  Has c t = (u : ℕ) × (slice_get c.same t ≡ Some (Some u))

  out-self : (n : ℕ) (c : Chosen) → Good c → Out n c c
  out-self n c g = (g, (λ t u h. h, refl), λ t l h. h)

  out-then : (n : ℕ) (c d e : Chosen) → Out n c d → Out n d e → Out n c e
  out-then n c d e a b = (b.0, (λ t u h. (b.1).0 t u ((a.1).0 t u h), (b.1).1 ∙ (a.1).1), λ t l h. b.2 t l (a.2 t l h))

  out-weaker : (n m : ℕ) (c d : Chosen) → n ≤ m → Out n c d → Out m c d
  out-weaker n m c d h o = (o.0, o.1, λ t l un. o.2 t (omega (arith, h, l)) un)

  has-later : (c d : Chosen) (t : ℕ) → Later c d → Has c t → Has d t
  has-later c d t l h = (h.0, l.0 t h.0 h.1)

  met-later : (c d : Chosen) (f : Aff) → Later c d → IsMet first c.same f → IsMet first d.same f
  met-later c d f l m t h = elim (got c.same t) [
    | inl g ↦ by g.0 g.1
    | inr k ↦ absurd (let w = within d.same t None h in let n = l.1 in omega (arith, k, w, n))
  ]
    where
      by : (o : Option ℕ) → slice_get c.same t ≡ Some o → coef (first + t) f.coefs ≡ pos 0
      by (Some u) e = absurd (some_not u (slice_get d.same t) (l.0 t u e) h)
      by None e = m t e

  -- a term gets one that stands for it
  put : (c d : Chosen) (term one : ℕ) → Good c → slice_get c.same term ≡ Some None → one < length terms → coef (first + term) p ≡ coef (first + one) p
      → ((v : Term) (f : Aff) → slice_get terms term ≡ Some v → IsIn f v.at → IsMet first c.same f)
      → d.first ≡ c.first → d.same ≡ slice_set c.same term (Some one)
      → ((t : ℕ) → IsIn t d.order → IsIn t c.order ⊎ ((t ≡ term) × (one ≡ term))) → ((t : ℕ) → IsIn t d.ends → IsIn t c.ends ⊎ ((t ≡ term) × (one ≡ term)))
      → ((t : ℕ) → IsIn t c.order ⊎ IsIn t c.ends → IsIn t d.order ⊎ IsIn t d.ends) → IsIn one d.order ⊎ IsIn one d.ends
      → d.ends_from ≡ c.ends_from → ((t : ℕ) → IsIn t d.ends → from ≤ t) → Out (suc (r.rank term)) c d × Has d term
  put c d term one g un small val args df ds inO inE keep new df_from late =
      let here : slice_get d.same term ≡ Some (Some one) = ap (λ (l : List (Option ℕ)). slice_get l term) ds ∙ set-here c.same term (Some one) None un in
      let there : (t : ℕ) → (t ≡ term → ⊥) → slice_get d.same t ≡ slice_get c.same t = λ t h. ap (λ (l : List (Option ℕ)). slice_get l t) ds ∙ set-there c.same term t (Some one) h in
      let later : Later c d = (
        λ t u h. elim (same_or_not t term) [
          | inl e ↦ absurd (some_not u (slice_get c.same term) (subst (λ (k : ℕ). slice_get c.same k ≡ Some (Some u)) e h) un)
          | inr n ↦ there t n ∙ h
        ],
        ap (λ (l : List (Option ℕ)). length l) ds ∙ set-length c.same term (Some one),
      ) in
      let listed : (t : ℕ) → (slice_get c.same t ≡ Some (Some t)) ⊎ ((t ≡ term) × (one ≡ term)) → slice_get d.same t ≡ Some (Some t) = λ t h. elim h [
        | inl e ↦ later.0 t t e
        | inr e ↦ subst (λ (k : ℕ). slice_get d.same k ≡ Some (Some k)) (sym e.0) (here ∙ ap (λ (k : ℕ). Some (Some k)) e.1)
      ] in (
        (
          record {
            place = df ∙ g.place;
            last = df_from ∙ g.last;
            late = late;
            count = later.1 ∙ g.count;
            stand = λ t u h. elim (same_or_not t term) [
              | inl e ↦ stands t u e (sym here ∙ subst (λ (k : ℕ). slice_get d.same k ≡ Some (Some u)) e h) later.1
              | inr n ↦ (let s = g.stand t u (sym (there t n) ∙ h) in (let k = s.0 in let l = later.1 in omega (arith, k, l), s.1))
            ];
            closed = λ t u v f h a b. met-later c d f later (elim (same_or_not t term) [
              | inl e ↦ args v f (subst (λ (k : ℕ). slice_get terms k ≡ Some v) e a) b
              | inr n ↦ g.closed t u v f (sym (there t n) ∙ h) a b
            ]);
            order = λ t a. listed t (elim (inO t a) [ inl b ↦ inl (g.order t b) | inr b ↦ inr b ]);
            ends = λ t a. listed t (elim (inE t a) [ inl b ↦ inl (g.ends t b) | inr b ↦ inr b ]);
            listed = λ t u h. elim (same_or_not t term) [
              | inl e ↦ subst (λ (k : ℕ). IsIn k d.order ⊎ IsIn k d.ends) (one_is u (sym here ∙ subst (λ (k : ℕ). slice_get d.same k ≡ Some (Some u)) e h)) new
              | inr n ↦ keep u (g.listed t u (sym (there t n) ∙ h))
            ];
          },
          later,
          λ t l h. there t (λ e. let k : r.rank t ≡ r.rank term = ap r.rank e in omega (arith, l, k)) ∙ h,
        ),
        (one, here),
      )
    where
      one_is : (u : ℕ) → Some (Some one) ≡ Some (Some u) → one ≡ u
      one_is u k = cc

      stands : (t u : ℕ) → t ≡ term → Some (Some one) ≡ Some (Some u) → length d.same ≡ length c.same → (u < length d.same) × (coef (first + t) p ≡ coef (first + u) p)
      stands t u e k n =
          let same : one ≡ u = cc in
          let a = g.count in
          (omega (arith, small, same, n, a), ap (λ (k : ℕ). coef (first + k) p) e ∙ val ∙ ap (λ (k : ℕ). coef (first + k) p) same)

  -- forms that are equal one by one have one list of values
  all-equal : (c : Chosen) → Good c → (xs ys : List Aff) → are_all_equal c.first c.same xs ys ≡ true → ((f : Aff) → IsIn f xs → IsMet first c.same f × (length f.coefs ≤ first + length terms)) → ((f : Aff) → IsIn f ys → IsMet first c.same f × (length f.coefs ≤ first + length terms)) → map (value p) xs ≡ map (value p) ys
  all-equal c g [] [] e a b = refl
  all-equal c g [] (y ∷ ys) e a b = absurd cc
  all-equal c g (x ∷ xs) [] e a b = absurd cc
  all-equal c g (x ∷ xs) (y ∷ ys) e a b =
      let t = and_parts (are_equal c.first c.same x y) (are_all_equal c.first c.same xs ys) e in
      let k : are_equal first c.same x y ≡ true = subst (λ (n : ℕ). are_equal n c.same x y ≡ true) g.place t.0 in
      let n = g.count in
      let u = a x (inl refl) in
      let w = b y (inl refl) in
      let lx = u.1 in
      let ly = w.1 in
      let h : value p x ≡ value p y = equal_forms first c.same x y p k u.0 w.0 (omega (arith, lx, n)) (omega (arith, ly, n)) g.stand in
      ap (λ (z : ℤ). z ∷ map (value p) xs) h ∙ ap (λ (l : List ℤ). value p y ∷ l) (all-equal c g xs ys t.1 (λ f m. a f (inr m)) (λ f m. b f (inr m)))

  -- terms that read alike have one value
  alike-value : (c : Chosen) (one term : ℕ) → Good c → slice_get c.same one ≡ Some (Some one)
      → ((v : Term) (f : Aff) → slice_get terms term ≡ Some v → IsIn f v.at → IsMet first c.same f)
      → is_alike c.first c.same (slice_get terms one) (slice_get terms term) ≡ true → coef (first + term) p ≡ coef (first + one) p
  alike-value c one term g here args e = by (slice_get terms one) (slice_get terms term) refl refl e
    where
      by : (o x : Option Term) → slice_get terms one ≡ o → slice_get terms term ≡ x → is_alike c.first c.same o x ≡ true → coef (first + term) p ≡ coef (first + one) p
      by (Some t) (Some u) a b k =
          let q = and_parts (bytes_eq t.array u.array) (are_all_equal c.first c.same t.at u.at) k in
          let name : t.array ≡ u.array = (bytes_eq-Decides t.array u.array).0 q.0 in
          let vals = all-equal c g t.at u.at q.1 (λ f m. (g.closed one one t f here a m, r.narrow one t f a m)) (λ f m. (args u f b m, r.narrow term u f b m)) in
          r.values term u b ∙ ap (λ (n : List ℕ). r.read n (map (value p) u.at)) (sym name) ∙ ap (λ (l : List ℤ). r.read t.array l) (sym vals) ∙ sym (r.values one t a)
      by (Some t) None a b k = absurd cc
      by None x a b k = absurd cc

  found : (c : Chosen) (ts : List ℕ) (term one : ℕ) → find_alike c.first terms c.same ts term ≡ Some one → IsIn one ts × (is_alike c.first c.same (slice_get terms one) (slice_get terms term) ≡ true)
  found c [] term one e = absurd cc
  found c (t ∷ ts) term one e = by (is_alike c.first c.same (slice_get terms t) (slice_get terms term)) refl e (found c ts term one)
    where
      by : (b : Bool) → is_alike c.first c.same (slice_get terms t) (slice_get terms term) ≡ b → cond b (Some t) (find_alike c.first terms c.same ts term) ≡ Some one
          → (find_alike c.first terms c.same ts term ≡ Some one → IsIn one ts × (is_alike c.first c.same (slice_get terms one) (slice_get terms term) ≡ true))
          → IsIn one (t ∷ ts) × (is_alike c.first c.same (slice_get terms one) (slice_get terms term) ≡ true)
      by true a k h = let d : t ≡ one = cc in (inl (sym d), subst (λ (n : ℕ). is_alike c.first c.same (slice_get terms n) (slice_get terms term) ≡ true) d a)
      by false a k h = let q = h k in (inr q.0, q.1)

  one_of : (x y : Option ℕ) (one : ℕ) → or_else x y ≡ Some one → (x ≡ Some one) ⊎ (y ≡ Some one)
  one_of (Some t) y one e = inl e
  one_of None y one e = inr e

  -- a term that isn't met is chosen
  choose : (c : Chosen) (term : ℕ) → Good c → slice_get c.same term ≡ Some None → ((v : Term) (f : Aff) → slice_get terms term ≡ Some v → IsIn f v.at → IsMet first c.same f)
      → Out (suc (r.rank term)) c (chosen terms c term) × Has (chosen terms c term) term
  choose c term g un args = by (find_met terms c term) refl
    where
      inside : term < length terms
      inside = let w = within c.same term None un in let n = g.count in omega (arith, w, n)

      stay : (l : List ℕ) (t : ℕ) → IsIn t l → IsIn t l ⊎ ((t ≡ term) × (term ≡ term))
      stay l t a = inl a

      last : (l : List ℕ) (t : ℕ) → IsIn t (l ++ term ∷ []) → IsIn t l ⊎ ((t ≡ term) × (term ≡ term))
      last l t a = elim (in_append t l (term ∷ []) a) [ inl b ↦ inl b | inr (inl b) ↦ inr (b, refl) | inr (inr b) ↦ absurd b ]

      add : (b : Bool) → nat_lt term c.ends_from ≡ b → Out (suc (r.rank term)) c (cond b (in_order (with_same c term term) term) (at_end (with_same c term term) term)) × Has (cond b (in_order (with_same c term term) term) (at_end (with_same c term term) term)) term
      add true e =
          put c (in_order (with_same c term term) term) term term g un inside refl args refl refl (last c.order) (stay c.ends)
          (λ t a. elim a [ inl b ↦ inl (in_append-left t c.order (term ∷ []) b) | inr b ↦ inr b ]) (inl (in_append-right term c.order (term ∷ []) (inl refl))) refl g.late
      add false e =
          put c (at_end (with_same c term term) term) term term g un inside refl args refl refl (stay c.order) (last c.ends)
          (λ t a. elim a [ inl b ↦ inl b | inr b ↦ inr (in_append-left t c.ends (term ∷ []) b) ]) (inr (in_append-right term c.ends (term ∷ []) (inl refl))) refl
          (λ t a. elim (in_append t c.ends (term ∷ []) a) [
            | inl b ↦ g.late t b
            | inr (inl b) ↦ (let l = ltb-false term c.ends_from e in let f = g.last in omega (arith, b, l, f))
            | inr (inr b) ↦ absurd b
          ])

      by : (o : Option ℕ) → find_met terms c term ≡ o → Out (suc (r.rank term)) c (chosen_by c term o) × Has (chosen_by c term o) term
      by (Some one) e =
          let k : (slice_get c.same one ≡ Some (Some one)) × (is_alike c.first c.same (slice_get terms one) (slice_get terms term) ≡ true) × (IsIn one c.order ⊎ IsIn one c.ends) =
          elim (one_of (find_alike c.first terms c.same c.order term) (find_alike c.first terms c.same c.ends term) one e) [
            | inl a ↦ (let q = found c c.order term one a in (g.order one q.0, q.1, inl q.0))
            | inr a ↦ (let q = found c c.ends term one a in (g.ends one q.0, q.1, inr q.0))
          ] in
          let small : one < length terms = let w = within c.same one (Some one) k.0 in let n = g.count in omega (arith, w, n) in
          put c (with_same c term one) term one g un small (alike-value c one term g k.0 args k.1) args refl refl (λ t a. inl a) (λ t a. inl a) (λ t a. a) k.2 refl g.late
      by None e = add (nat_lt term c.ends_from) refl

  -- ---- the terms of forms
  -- a way to meet terms, of those of which something holds
  abbrev MeetsTerms : (Chosen → ℕ → Chosen) → (ℕ → Type 0) → ℕ → Type 0
  MeetsTerms meet P n = (c : Chosen) (i : ℕ) → Good c → i < length terms → P i → Out n c (meet c i) × Has (meet c i) i

  abbrev Holds : Aff → ℕ → Type 0
  Holds f i = coef (first + i) f.coefs ≡ pos 0 → ⊥

  over-terms : (meet : Chosen → ℕ → Chosen) (f : Aff) (n : ℕ) → MeetsTerms meet (Holds f) n → (is : List ℕ) (c : Chosen) → ((i : ℕ) → IsIn i is → i < length terms) → Good c
      → Out n c (over_terms meet f is c) × ((i : ℕ) → IsIn i is → Holds f i → Has (over_terms meet f is c) i)
  over-terms meet f n m [] c s g = (out-self n c g, λ i a. absurd a)
  over-terms meet f n m (i ∷ is) c s g =
      step (is_zero (number_at f.coefs (c.first + i))) refl (λ d h. over-terms meet f n m is d (λ j a. s j (inr a)) h)
    where
      number-is : number_at f.coefs (c.first + i) ≡ coef (first + i) f.coefs
      number-is = number-coef f.coefs (c.first + i) ∙ ap (λ (k : ℕ). coef (k + i) f.coefs) g.place

      step : (b : Bool) → is_zero (number_at f.coefs (c.first + i)) ≡ b
          → ((d : Chosen) → Good d → Out n d (over_terms meet f is d) × ((j : ℕ) → IsIn j is → Holds f j → Has (over_terms meet f is d) j))
          → Out n c (over_terms meet f is (cond b c (meet c i))) × ((j : ℕ) → IsIn j (i ∷ is) → Holds f j → Has (over_terms meet f is (cond b c (meet c i))) j)
      step true e more =
          let z : coef (first + i) f.coefs ≡ pos 0 = sym number-is ∙ (Decides-int_eq (number_at f.coefs (c.first + i)) (pos 0)).0 e in
          let q = more c g in
          (q.0, λ j a h. elim a [ inl d ↦ absurd (h (ap (λ (k : ℕ). coef (first + k) f.coefs) d ∙ z)) | inr d ↦ q.1 j d h ])
      step false e more =
          let held : Holds f i = λ z. (let k : is_zero (number_at f.coefs (c.first + i)) ≡ true = (Decides-int_eq (number_at f.coefs (c.first + i)) (pos 0)).1 (number-is ∙ z) in let x : true ≡ false = sym k ∙ e in cc) in
          let o = m c i g (s i (inl refl)) held in
          let q = more (meet c i) (o.0).0 in (
            out-then n c (meet c i) (over_terms meet f is (meet c i)) o.0 q.0,
            λ j a h. elim a [ inl d ↦ subst (λ (k : ℕ). Has (over_terms meet f is (meet c i)) k) (sym d) (has-later (meet c i) (over_terms meet f is (meet c i)) i (q.0).1 o.1) | inr d ↦ q.1 j d h ],
          )

  in_range : (b n i : ℕ) → IsIn i (range_with_len b n) → (b ≤ i) × (i < b + n)
  in_range b zero i h = absurd h
  in_range b (suc n) i (inl e) = (omega (arith, e), omega (arith, e))
  in_range b (suc n) i (inr h) = let k = in_range (b + 1) n i h in let x = k.0 in let y = k.1 in (omega (arith, x), omega (arith, y))

  range-has : (b n i : ℕ) → b ≤ i → i < b + n → IsIn i (range_with_len b n)
  range-has b zero i h k = absurd (omega (arith, h, k))
  range-has b (suc n) i h k = elim (same_or_not i b) [ inl e ↦ inl e | inr d ↦ inr (range-has (b + 1) n i (elim (same_or_not i b) [ inl e ↦ absurd (d e) | inr x ↦ later-than i b h d ]) (omega (arith, k))) ]
    where
      later-than : (i b : ℕ) → b ≤ i → (i ≡ b → ⊥) → b + 1 ≤ i
      later-than zero zero h d = absurd (d refl)
      later-than zero (suc b) h d = absurd (omega (arith, h))
      later-than (suc i) zero h d = omega arith
      later-than (suc i) (suc b) h d = let x = later-than i b (omega (arith, h)) (λ e. d (ap suc e)) in omega (arith, x)

  over-forms : (meet : Chosen → ℕ → Chosen) (n : ℕ) (fs : List Aff) → ((f : Aff) → IsIn f fs → MeetsTerms meet (Holds f) n) → (c : Chosen) → Good c
      → Out n c (over_forms meet (length terms) fs c) × ((f : Aff) → IsIn f fs → IsMet first (over_forms meet (length terms) fs c).same f)
  over-forms meet n [] m c g = (out-self n c g, λ f a. absurd a)
  over-forms meet n (f ∷ fs) m c g =
      let d : Chosen = over_terms meet f (range_with_len 0 (length terms)) c in
      let o = over-terms meet f n (m f (inl refl)) (range_with_len 0 (length terms)) c (λ i a. let k = in_range 0 (length terms) i a in let y = k.1 in omega (arith, y)) g in
      let q = over-forms meet n fs (λ h a. m h (inr a)) d (o.0).0 in
      let out : Chosen = over_forms meet (length terms) fs d in (
        out-then n c d out o.0 q.0,
        λ h a. elim a [
          | inl e ↦ subst (λ (x : Aff). IsMet first out.same x) (sym e) (met-later d out f (q.0).1 (all-met d (o.0).0 (λ i l hold. o.1 i (range-has 0 (length terms) i (omega arith) (omega (arith, l))) hold)))
          | inr b ↦ q.1 h b
        ],
      )
    where
      all-met : (d : Chosen) → Good d → ((i : ℕ) → i < length terms → Holds f i → Has d i) → IsMet first d.same f
      all-met d gd h t un = elim (zero_or_not (coef (first + t) f.coefs)) [
        | inl z ↦ z
        | inr k ↦ absurd (let w = within d.same t None un in let n = gd.count in let x = h t (omega (arith, w, n)) k in some_not x.0 (slice_get d.same t) x.1 un)
      ]

  -- ---- a term with those in its arguments
  meet-good : (deep : ℕ) (c : Chosen) (term : ℕ) → Good c → term < length terms → r.rank term ≤ deep → Out (suc (r.rank term)) c (meet_term terms deep c term) × Has (meet_term terms deep c term) term
  unfolding meet_term
  meet-good zero c term g l k = elim (got c.same term) [
    | inl o ↦ by o.0 o.1
    | inr n ↦ absurd (let x = g.count in omega (arith, l, n, x))
  ]
    where
      by : (o : Option ℕ) → slice_get c.same term ≡ Some o → Out (suc (r.rank term)) c (cond (is_met c term) c (chosen terms c term)) × Has (cond (is_met c term) c (chosen terms c term)) term
      by (Some u) e = let q : is_met c term ≡ true = ap is_some (index-is c.same term (Some u) e) in rw q (out-self (suc (r.rank term)) c g, (u, e))
      by None e =
          let q : is_met c term ≡ false = ap is_some (index-is c.same term None e) in
          rw q (choose c term g e (λ v f a b t un. elim (zero_or_not (coef (first + t) f.coefs)) [ inl z ↦ z | inr h ↦ absurd (let x = r.above term t v f a b h in omega (arith, x, k)) ]))
  meet-good (suc deep) c term g l k = elim (got c.same term) [
    | inl o ↦ by o.0 o.1 (over-forms (meet_term terms deep) (r.rank term) (arguments (slice_get terms term)) (λ f a. inner (λ d i h m n. meet-good deep d i h m n) (slice_get terms term) refl f a) c g)
    | inr n ↦ absurd (let x = g.count in omega (arith, l, n, x))
  ]
    where
      inner : ((d : Chosen) (i : ℕ) → Good d → i < length terms → r.rank i ≤ deep → Out (suc (r.rank i)) d (meet_term terms deep d i) × Has (meet_term terms deep d i) i)
          → (o : Option Term) → slice_get terms term ≡ o → (f : Aff) → IsIn f (arguments o) → MeetsTerms (meet_term terms deep) (Holds f) (r.rank term)
      inner more (Some v) e f a d i h m held =
          let x = r.above term i v f e a held in
          let q = more d i h m (omega (arith, x, k)) in
          (out-weaker (suc (r.rank i)) (r.rank term) d (meet_term terms deep d i) (omega (arith, x)) q.0, q.1)
      inner more None e f a d i h m held = absurd a

      by : (o : Option ℕ) → slice_get c.same term ≡ Some o
          → Out (r.rank term) c (over_forms (meet_term terms deep) (length terms) (arguments (slice_get terms term)) c) × ((f : Aff) → IsIn f (arguments (slice_get terms term)) → IsMet first (over_forms (meet_term terms deep) (length terms) (arguments (slice_get terms term)) c).same f)
          → Out (suc (r.rank term)) c (cond (is_met c term) c (chosen terms (over_forms (meet_term terms deep) (length terms) (arguments (slice_get terms term)) c) term))
          × Has (cond (is_met c term) c (chosen terms (over_forms (meet_term terms deep) (length terms) (arguments (slice_get terms term)) c) term)) term
      by (Some u) e q = let z : is_met c term ≡ true = ap is_some (index-is c.same term (Some u) e) in rw z (out-self (suc (r.rank term)) c g, (u, e))
      by None e q =
          let z : is_met c term ≡ false = ap is_some (index-is c.same term None e) in
          let d : Chosen = over_forms (meet_term terms deep) (length terms) (arguments (slice_get terms term)) c in
          let n : r.rank term ≤ r.rank term = omega arith in
          let o = choose d term (q.0).0 ((q.0).2 term n e) (λ v f a b. q.1 f (subst (λ (x : Option Term). IsIn f (arguments x)) (sym a) b)) in
          rw z (out-then (suc (r.rank term)) c d (chosen terms d term) (out-weaker (r.rank term) (suc (r.rank term)) c d (omega arith) q.0) o.0, o.1)

-- no term is met yet
none-length : (n : ℕ) → length {A = Option ℕ} (replicate n None) ≡ n
none-length zero = refl
none-length (suc n) = ap suc (none-length n)

none-met : (n t u : ℕ) → slice_get (replicate n None) t ≡ Some (Some u) → ⊥
none-met zero t u h = let e : None ≡ Some (Some u) = h in cc
none-met (suc n) zero u h = let e : Some None ≡ Some (Some u) = h in cc
none-met (suc n) (suc t) u h = none-met n t u h

module _ (first from : ℕ) (terms : List Term) (p : List ℤ) (r : AreReads first terms p) where
  -- forms are met one after another
  met : (forms : List Aff) (c : Chosen) → AreStoodFor first from terms p c
      → let d : Chosen = over_forms (meet_term terms (length terms)) (length terms) forms c in Out first from terms p r (length terms) c d × ((f : Aff) → IsIn f forms → IsMet first d.same f)
  met forms c g =
      over-forms first from terms p r (meet_term terms (length terms)) (length terms) forms
      (λ f a d i h l held. (
      let b = r.bounded i l in
      let q = meet-good first from terms p r (length terms) d i h l (omega (arith, b)) in
      (out-weaker first from terms p r (suc (r.rank i)) (length terms) d (meet_term terms (length terms) d i) (omega (arith, b)) q.0, q.1)))
      c g

  none-good : AreStoodFor first from terms p (none_chosen first from (length terms))
  none-good = record {
    place = refl;
    last = refl;
    late = λ t a. absurd a;
    count = none-length (length terms);
    stand = λ t u h. absurd (none-met (length terms) t u h);
    closed = λ t u v f h a b. absurd (none-met (length terms) t u h);
    order = λ t a. absurd a;
    ends = λ t a. absurd a;
    listed = λ t u h. absurd (none-met (length terms) t u h);
  }

in_map : {A B : Type 0} (F : A → B) (x : A) (xs : List A) → IsIn x xs → IsIn (F x) (map F xs)
in_map F x [] h = absurd h
in_map F x (y ∷ xs) (inl e) = inl (ap F e)
in_map F x (y ∷ xs) (inr h) = inr (in_map F x xs h)

pub stood_for : TermsAreStoodFor
unfolding chosen_of
stood_for first extras terms p rows forms r =
    let from : ℕ = length terms - extras in
    let c : Chosen = none_chosen first from (length terms) in
    let a = met first from terms p r (map form_of rows) c (none-good first from terms p r) in
    let d : Chosen = over_forms (meet_term terms (length terms)) (length terms) (map form_of rows) c in
    let b = met first from terms p r forms d (a.0).0 in
    let e : Chosen = over_forms (meet_term terms (length terms)) (length terms) forms d in
    ((b.0).0, λ x m. met-later first from terms p r d e x.form (b.0).1 (a.1 x.form (in_map form_of x rows m)), b.1)
