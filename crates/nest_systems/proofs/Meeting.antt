-- Terms that are met one by one, along forms and rows.
use Rattle.std.proofs.Common.{◌≡◌, ℕ, zero, suc, arith, ◌<◌, ◌≤◌, ◌+◌, ◌-◌, Bool, true, false, cond, not, List, [], ◌∷◌, ◌++◌, map, length, take, drop, get_or, drop-cons, refl, sym, ap, ◌∙◌, add-one}
use Rattle.std.specs.Prelude.{Option, Some, Result, Ok, Err, OnOk, slice_get}
use Rattle.std.specs.List.{range_with_len}
use Rattle.std.proofs.lemmas.List.{take_more, map-append}
use Rattle.int_rows.specs.declared.row.Aff.{Aff}
use Rattle.int_rows.specs.declared.row.Row.{Row}
use Rattle.nest_tree.specs.declared.kernel.Term.{Term}
use Rattle.nest_systems.specs.declared.choose.Chosen.{Chosen}
use Rattle.nest_systems.specs.Sums.{number_at}
use Rattle.nest_systems.specs.Begun.{is_zero}
use Rattle.nest_systems.specs.Choosing.{is_alike, find_alike, over_terms, over_forms, form_of, meet_term, is_met, chosen, arguments}

-- the first term of the rest that reads the same cell
pub alike-found : (first : ℕ) (terms : List Term) (same : List (Option ℕ)) (among : List ℕ) (term i : ℕ) (whole : Option ℕ) → i < length among → is_alike first same (slice_get terms (get_or among i 0)) (slice_get terms term) ≡ true
    → find_alike first terms same (drop i among) term ≡ whole → Some (get_or among i 0) ≡ whole
alike-found first terms same among term i whole l e w =
    let d : drop i among ≡ get_or among i 0 ∷ drop (suc i) among = drop-cons among i 0 l in
    rw (d, e) at w

pub not-true : (b : Bool) → true ≡ not b → b ≡ false
not-true true e = absurd (cc)
not-true false e = refl

pub not-false : (b : Bool) → false ≡ not b → b ≡ true
not-false true e = refl
not-false false e = absurd (cc)

-- what is known of an Ok answer
pub ok-so : {A E X : Type 0} (r : Result A E) (x y z : X) → OnOk r (x ≡ y) → y ≡ z → OnOk r (x ≡ z)
ok-so (Ok a) x y z h e = h ∙ e
ok-so (Err b) x y z h e = tt

module _ (meet : Chosen → ℕ → Chosen) where
  terms-append : (f : Aff) (xs ys : List ℕ) (c : Chosen) → over_terms meet f (xs ++ ys) c ≡ over_terms meet f ys (over_terms meet f xs c)
  terms-append f [] ys c = refl
  terms-append f (x ∷ xs) ys c = terms-append f xs ys (cond (is_zero (number_at f.coefs (c.first + x))) c (meet c x))

  range-snoc : (a n : ℕ) → range_with_len a (suc n) ≡ range_with_len a n ++ (a + n) ∷ []
  range-snoc a zero = let k : a + zero ≡ a = omega arith in rw k refl
  range-snoc a (suc n) = let k : a + suc n ≡ a + 1 + n = omega arith in rw k (ap (λ (xs : List ℕ). a ∷ xs) (range-snoc (a + 1) n))

  -- one term further
  pub terms-step : (f : Aff) (n : ℕ) (old new start : Chosen) → old ≡ over_terms meet f (range_with_len 0 n) start → new ≡ cond (is_zero (number_at f.coefs (old.first + n))) old (meet old n) → new ≡ over_terms meet f (range_with_len 0 (n + 1)) start
  terms-step f n old new start a b =
      let k : 0 + n ≡ n = omega arith in
      let r : range_with_len 0 (n + 1) ≡ range_with_len 0 n ++ n ∷ [] = ap (λ (m : ℕ). range_with_len 0 m) (add-one n) ∙ range-snoc 0 n ∙ ap (λ (m : ℕ). range_with_len 0 n ++ m ∷ []) k in
      rw (r, terms-append f (range_with_len 0 n) (n ∷ []) start, ← a) b

  pub forms-snoc : (count : ℕ) (fs : List Aff) (f : Aff) (c : Chosen) → over_forms meet count (fs ++ f ∷ []) c ≡ over_terms meet f (range_with_len 0 count) (over_forms meet count fs c)
  forms-snoc count [] f c = refl
  forms-snoc count (g ∷ fs) f c = forms-snoc count fs f (over_terms meet g (range_with_len 0 count) c)

  -- one form further
  pub forms-step : (count : ℕ) (fs : List Aff) (i : ℕ) (f : Aff) (old new start : Chosen) → i < length fs → f ≡ get_or fs i f → old ≡ over_forms meet count (take i fs) start → new ≡ over_terms meet f (range_with_len 0 count) old → new ≡ over_forms meet count (take (i + 1) fs) start
  forms-step count fs i f old new start l e a b =
      let k : take (i + 1) fs ≡ take i fs ++ f ∷ [] = take_more fs i f l ∙ ap (λ (x : Aff). take i fs ++ x ∷ []) (sym e) in
      b ∙ ap (over_terms meet f (range_with_len 0 count)) a ∙ sym (ap (λ (gs : List Aff). over_forms meet count gs start) k ∙ forms-snoc count (take i fs) f start)

  -- one row further
  pub rows-step : (count : ℕ) (rs : List Row) (i : ℕ) (r : Row) (old new start : Chosen) → i < length rs → r ≡ get_or rs i r → old ≡ over_forms meet count (map form_of (take i rs)) start → new ≡ over_terms meet r.form (range_with_len 0 count) old
      → new ≡ over_forms meet count (map form_of (take (i + 1) rs)) start
  rows-step count rs i r old new start l e a b =
      let k : take (i + 1) rs ≡ take i rs ++ r ∷ [] = take_more rs i r l ∙ ap (λ (x : Row). take i rs ++ x ∷ []) (sym e) in
      let m : map form_of (take (i + 1) rs) ≡ map form_of (take i rs) ++ r.form ∷ [] = ap (map form_of) k ∙ map-append form_of (take i rs) (r ∷ []) in
      b ∙ ap (over_terms meet r.form (range_with_len 0 count)) a ∙ sym (ap (λ (gs : List Aff). over_forms meet count gs start) m ∙ forms-snoc count (map form_of (take i rs)) r.form start)

-- a term with arguments, some levels deep
pub meet-deep : (terms : List Term) (deep : ℕ) (c : Chosen) (term : ℕ) → 0 < deep
    → meet_term terms deep c term ≡ cond (is_met c term) c (chosen terms (over_forms (meet_term terms (deep - 1)) (length terms) (arguments (slice_get terms term)) c) term)
unfolding meet_term
meet-deep terms zero c term l = absurd (omega (arith, l))
meet-deep terms (suc deep) c term l = let k : suc deep - 1 ≡ deep = omega arith in rw k refl

pub meet-flat : (terms : List Term) (deep : ℕ) (c : Chosen) (term : ℕ) → deep ≤ 0 → meet_term terms deep c term ≡ cond (is_met c term) c (chosen terms c term)
unfolding meet_term
meet-flat terms zero c term l = refl
meet-flat terms (suc deep) c term l = absurd (omega (arith, l))

-- a term that is met
pub meet-met : (terms : List Term) (deep : ℕ) (c : Chosen) (term : ℕ) → is_met c term ≡ true → meet_term terms deep c term ≡ c
unfolding meet_term
meet-met terms zero c term e = rw e refl
meet-met terms (suc deep) c term e = rw e refl
