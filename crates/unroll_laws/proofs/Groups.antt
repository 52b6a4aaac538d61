-- Rows of groups by their values, and points cut at a level.
use Rattle.std.proofs.Common.{◌≡◌, ◌⊎◌, inl, inr, ℕ, zero, suc, ◌+◌, ◌-◌, ◌<◌, List, [], ◌∷◌, ◌++◌, map, length, refl, sym, ◌∙◌, ap, subst, subst₂, arith, ℤ, pos, negsuc, ◌+ℤ◌, ◌-ℤ◌, ◌*ℤ◌, ◌≤ℤ◌, append_assoc, length-append}
use Rattle.std.proofs.lemmas.Int.{ints}
use Rattle.int_rows.specs.declared.row.Aff.{Aff}
use Rattle.nest_tree.specs.Lists.{IsIn}
use Rattle.nest_tree.specs.Forms.{value, coef, Names, sum, times, less, number, variable, variables}
use Rattle.nest_tree.specs.Unrolling.{Upper, MeetsUpper, MeetsUppers, Part, full, rest, IsOf}
use Rattle.nest_laws.proofs.Lists.{map-append}
use Rattle.nest_laws.proofs.Forms.{value-sum, value-times, value-less, value-variables}
use Rattle.nest_laws.proofs.Points.{dot-same, coef-before, coef-behind}
use Rattle.unroll_laws.specs.Grouping.{UpperRow, upper_form, past_form, upper_at, uppers_at, grouped, place_in, more_in, last_forms, level_forms, NamesNone}

-- ---- cut at a level
pub cut_at : (n : ℕ) (vs : List ℤ) → n < length vs → (ls : List ℤ) × (v : ℤ) × (bs : List ℤ) × (vs ≡ ls ++ v ∷ bs) × (length ls ≡ n)
cut_at n [] h = absurd (omega arith)
cut_at zero (v ∷ vs) h = ([], v, vs, refl, refl)
cut_at (suc n) (v ∷ vs) h = let c = cut_at n vs (omega arith) in (v ∷ c.0, c.1, c.2, ap (λ (w : List ℤ). v ∷ w) c.3, ap suc c.4)

pub same_cut : (ls bs cs ds : List ℤ) (v w : ℤ) → length ls ≡ length cs → ls ++ v ∷ bs ≡ cs ++ w ∷ ds → (ls ≡ cs) × (v ≡ w) × (bs ≡ ds)
same_cut [] bs [] ds v w l e = (refl, cc, cc)
same_cut [] bs (c ∷ cs) ds v w l e = absurd (omega (arith, l))
same_cut (a ∷ ls) bs [] ds v w l e = absurd (omega (arith, l))
same_cut (a ∷ ls) bs (c ∷ cs) ds v w l e =
    let f : a ≡ c = cc in
    let g : ls ++ v ∷ bs ≡ cs ++ w ∷ ds = cc in
    let k = same_cut ls bs cs ds v w (omega (arith, l)) g in
    (ap (λ (x : ℤ). x ∷ ls) f ∙ ap (λ (x : List ℤ). c ∷ x) k.0, k.1, k.2)

-- the levels behind q
abbrev pub inner : Part → ℤ → List ℤ → List ℤ
inner full r bs = bs
inner (rest k) r bs = r ∷ bs

-- the value's place in its group
abbrev pub place_value : Part → ℕ → ℤ → ℤ
place_value full copy r = pos copy
place_value (rest k) copy r = r

pub inner-length : (part : Part) (r : ℤ) (bs : List ℤ) → length (inner part r bs) ≡ length bs + more_in part
inner-length full r bs = omega arith
inner-length (rest k) r bs = omega arith

pub record PartsOf (part : Part) (before d : ℕ) (ws : List ℤ) : Type 0 where
  pub ls : List ℤ
  pub group : ℤ
  pub place : ℤ
  pub bs : List ℤ
  pub is : ws ≡ ls ++ group ∷ inner part place bs
  pub front : length ls ≡ before
  pub back : length bs ≡ d - suc before

pub parts_of : (part : Part) (before d : ℕ) (ws : List ℤ) → length ws ≡ d + more_in part → before < d → PartsOf part before d ws
parts_of full before d ws e h =
    let c = cut_at before ws (omega arith) in
    let l : length ws ≡ length c.0 + suc (length c.2) = ap length c.3 ∙ length-append c.0 (c.1 ∷ c.2) in
    let f = c.4 in
    record { ls = c.0; group = c.1; place = pos 0; bs = c.2; is = c.3; front = c.4; back = omega arith }
parts_of (rest k) before d ws e h = let c = cut_at before ws (omega arith) in behind c.0 c.1 c.2 c.3 c.4
  where
    behind : (xs : List ℤ) (q : ℤ) (ys : List ℤ) → ws ≡ xs ++ q ∷ ys → length xs ≡ before → PartsOf (rest k) before d ws
    behind xs q [] w l = absurd (let m : length ws ≡ length xs + 1 = ap length w ∙ length-append xs (q ∷ []) in omega arith)
    behind xs q (r ∷ ys) w l =
        let m : length ws ≡ length xs + suc (suc (length ys)) = ap length w ∙ length-append xs (q ∷ r ∷ ys) in
        record { ls = xs; group = q; place = r; bs = ys; is = w; front = l; back = omega arith }

-- ---- variables at a point
pub variables_at : (ps xs rs q : List ℤ) (a b : ℕ) → q ≡ ps ++ (xs ++ rs) → length ps ≡ a → length xs ≡ b → map (value q) (variables a b) ≡ xs
variables_at ps xs rs q a b e f h = subst₂ (λ (n k : ℕ). map (value q) (variables n k) ≡ xs) f h (ap (λ (p : List ℤ). map (value p) (variables (length ps) (length xs))) e ∙ value-variables ps xs rs)

abbrev first : List ℤ → ℤ
first [] = pos 0
first (x ∷ xs) = x

pub variable_at : (ps : List ℤ) (v : ℤ) (rs q : List ℤ) (a : ℕ) → q ≡ ps ++ v ∷ rs → length ps ≡ a → value q (variable a) ≡ v
variable_at ps v rs q a e f = ap first (variables_at ps (v ∷ []) rs q a 1 e f refl)

module _ (params ls : List ℤ) (g r : ℤ) (bs ts : List ℤ) where
  abbrev pub at_group : Part → List ℤ
  at_group part = params ++ ((ls ++ g ∷ inner part r bs) ++ ts)

  reshape : (part : Part) → at_group part ≡ params ++ (ls ++ (g ∷ (inner part r bs ++ ts)))
  reshape part = ap (λ (l : List ℤ). params ++ l) (append_assoc ls (g ∷ inner part r bs) ts)

  reshape2 : (part : Part) → at_group part ≡ (params ++ ls) ++ g ∷ (inner part r bs ++ ts)
  reshape2 part = reshape part ∙ sym (append_assoc params ls (g ∷ (inner part r bs ++ ts)))

  module _ (before : ℕ) (front : length ls ≡ before) where
    width : length (params ++ ls) ≡ length params + before
    width = length-append params ls ∙ ap (λ (n : ℕ). length params + n) front

    width1 : (s : ℤ) → length ((params ++ ls) ++ s ∷ []) ≡ suc (length params + before)
    width1 s = let a : length ((params ++ ls) ++ s ∷ []) ≡ length (params ++ ls) + 1 = length-append (params ++ ls) (s ∷ []) in let w = width in omega arith

    pub group_is : (part : Part) → value (at_group part) (variable (length params + before)) ≡ g
    group_is part = variable_at (params ++ ls) g (inner part r bs ++ ts) (at_group part) (length params + before) (reshape2 part) width

    pub place_is : (part : Part) (copy : ℕ) → value (at_group part) (place_in part copy (length params + before)) ≡ place_value part copy r
    place_is full copy = omega (arith, ints)
    place_is (rest k) copy =
        variable_at ((params ++ ls) ++ g ∷ []) r (bs ++ ts) (at_group (rest k)) (suc (length params + before))
        (reshape2 (rest k) ∙ sym (append_assoc (params ++ ls) (g ∷ []) (r ∷ (bs ++ ts)))) (width1 g)

    pub grouped_is : (part : Part) (low : Aff) (factor : ℕ) (place : Aff) (p : ℤ) → value (at_group part) place ≡ p → value (at_group part) (grouped low factor (length params + before) place) ≡ value (at_group part) low +ℤ ((pos factor *ℤ g) +ℤ p)
    grouped_is part low factor place p h =
        let q : List ℤ = at_group part in
        let v : Aff = variable (length params + before) in
        value-sum q low (sum (times (pos factor) v) place)
        ∙ ap (λ (z : ℤ). value q low +ℤ z) (value-sum q (times (pos factor) v) place ∙ ap (λ (z : ℤ). z +ℤ value q place) (value-times q (pos factor) v ∙ ap (λ (z : ℤ). pos factor *ℤ z) (group_is part)) ∙ ap (λ (z : ℤ). (pos factor *ℤ g) +ℤ z) h)

    behind_is : (part : Part) (d : ℕ) → length bs ≡ d - suc before → map (value (at_group part)) (variables (suc (length params + before) + more_in part) (d - suc before)) ≡ bs
    behind_is full d back =
        variables_at ((params ++ ls) ++ g ∷ []) bs ts (at_group full) (suc (length params + before) + 0) (d - suc before)
        (reshape2 full ∙ sym (append_assoc (params ++ ls) (g ∷ []) (bs ++ ts))) (let w = width1 g in omega arith) back
    behind_is (rest k) d back =
        variables_at ((params ++ ls) ++ g ∷ r ∷ []) bs ts (at_group (rest k)) (suc (length params + before) + 1) (d - suc before)
        (reshape2 (rest k) ∙ sym (append_assoc (params ++ ls) (g ∷ r ∷ []) (bs ++ ts)))
        (let a : length ((params ++ ls) ++ g ∷ r ∷ []) ≡ length (params ++ ls) + 2 = length-append (params ++ ls) (g ∷ r ∷ []) in let w = width in omega arith) back

    -- the old levels' forms
    pub levels_are : (part : Part) (factor copy d : ℕ) (low : Aff) → length bs ≡ d - suc before
        → map (value (at_group part)) (level_forms part factor copy (length params) before d low) ≡ ls ++ (value (at_group part) low +ℤ ((pos factor *ℤ g) +ℤ place_value part copy r)) ∷ bs
    levels_are part factor copy d low back =
        let q : List ℤ = at_group part in
        let x : ℕ = length params + before in
        let e : Aff = grouped low factor x (place_in part copy x) in
        let behind : List Aff = variables (suc x + more_in part) (d - suc before) in
        map-append (value q) (variables (length params) before) (e ∷ behind)
        ∙ ap (λ (l : List ℤ). l ++ value q e ∷ map (value q) behind) (variables_at params ls (g ∷ (inner part r bs ++ ts)) q (length params) before (reshape part) refl front)
        ∙ ap (λ (z : ℤ). ls ++ z ∷ map (value q) behind) (grouped_is part low factor (place_in part copy x) (place_value part copy r) (place_is part copy))
        ∙ ap (λ (l : List ℤ). ls ++ (value q low +ℤ ((pos factor *ℤ g) +ℤ place_value part copy r)) ∷ l) (behind_is part d back)

-- a form that names no level from one on has one value, whatever the level is
pub value_free : (params ls bs ts : List ℤ) (x d : ℕ) (f : Aff) (v w : ℤ) → length (params ++ ls) ≡ x → length (params ++ (ls ++ v ∷ bs)) ≡ d → length (params ++ (ls ++ w ∷ bs)) ≡ d → NamesNone x d f
    → value (params ++ ((ls ++ v ∷ bs) ++ ts)) f ≡ value (params ++ ((ls ++ w ∷ bs) ++ ts)) f
value_free params ls bs ts x d f v w e h k none = ap (λ (z : ℤ). z +ℤ f.constant) (dot-same f.coefs (params ++ ((ls ++ v ∷ bs) ++ ts)) (params ++ ((ls ++ w ∷ bs) ++ ts)) (λ j n. same j (none j n)))
  where
    shape : (z : ℤ) → params ++ ((ls ++ z ∷ bs) ++ ts) ≡ (params ++ ls) ++ z ∷ (bs ++ ts)
    shape z = ap (λ (l : List ℤ). params ++ l) (append_assoc ls (z ∷ bs) ts) ∙ sym (append_assoc params ls (z ∷ (bs ++ ts)))

    end : (z : ℤ) (j n : ℕ) → length (params ++ (ls ++ z ∷ bs)) ≡ d → j ≡ d + n → coef j (params ++ ((ls ++ z ∷ bs) ++ ts)) ≡ coef n ts
    end z j n l i =
        ap (coef j) (sym (append_assoc params (ls ++ z ∷ bs) ts)) ∙ ap (λ (m : ℕ). coef m ((params ++ (ls ++ z ∷ bs)) ++ ts)) (i ∙ ap (λ (m : ℕ). m + n) (sym l)) ∙ coef-behind (params ++ (ls ++ z ∷ bs)) ts n

    same : (j : ℕ) → (j < x) ⊎ ((n : ℕ) × (j ≡ d + n)) → coef j (params ++ ((ls ++ v ∷ bs) ++ ts)) ≡ coef j (params ++ ((ls ++ w ∷ bs) ++ ts))
    same j (inl l) =
        let b : j < length (params ++ ls) = omega arith in
        ap (coef j) (shape v) ∙ coef-before (params ++ ls) (v ∷ (bs ++ ts)) j b ∙ sym (coef-before (params ++ ls) (w ∷ (bs ++ ts)) j b) ∙ sym (ap (coef j) (shape w))
    same j (inr (n, i)) = end v j n h i ∙ sym (end w j n k i)

-- ---- rows by values
pub upper-value : (q : List ℤ) (u : UpperRow) (f : Aff) → value q (upper_form u f) ≡ value q u.bound +ℤ (negsuc 0 *ℤ (pos (suc u.less_one) *ℤ value q f))
upper-value q u f = value-less q u.bound (times (pos (suc u.less_one)) f) ∙ ap (λ (z : ℤ). value q u.bound +ℤ (negsuc 0 *ℤ z)) (value-times q (pos (suc u.less_one)) f)

past-value : (q : List ℤ) (u : UpperRow) (f : Aff) → value q (past_form u f) ≡ (pos (suc u.less_one) *ℤ value q f) +ℤ (negsuc 0 *ℤ (value q u.bound +ℤ pos 1))
past-value q u f =
    let one : value q (number (pos 1)) ≡ pos 1 = omega (arith, ints) in
    value-less q (times (pos (suc u.less_one)) f) (sum u.bound (number (pos 1)))
    ∙ ap (λ (z : ℤ). z +ℤ (negsuc 0 *ℤ value q (sum u.bound (number (pos 1))))) (value-times q (pos (suc u.less_one)) f)
    ∙ ap (λ (z : ℤ). (pos (suc u.less_one) *ℤ value q f) +ℤ (negsuc 0 *ℤ z)) (value-sum q u.bound (number (pos 1)) ∙ ap (λ (z : ℤ). value q u.bound +ℤ z) one)

pub row-upper : (q : List ℤ) (u : UpperRow) (f : Aff) → pos 0 ≤ℤ value q (upper_form u f) → MeetsUpper (value q f) (upper_at q u)
row-upper q u f h = let a = upper-value q u f in omega (arith, ints)

pub upper-row : (q : List ℤ) (u : UpperRow) (f : Aff) → MeetsUpper (value q f) (upper_at q u) → pos 0 ≤ℤ value q (upper_form u f)
upper-row q u f h = let a = upper-value q u f in omega (arith, ints)

abbrev pub AllHold : List ℤ → List Aff → Type 0
AllHold q fs = (f : Aff) → IsIn f fs → pos 0 ≤ℤ value q f

pub rows-uppers : (q : List ℤ) (us : List UpperRow) (f : Aff) → AllHold q (map (λ u. upper_form u f) us) → MeetsUppers (value q f) (uppers_at q us)
rows-uppers q [] f h = tt
rows-uppers q (u ∷ us) f h = (row-upper q u f (h (upper_form u f) (inl refl)), rows-uppers q us f (λ g a. h g (inr a)))

pub uppers-rows : (q : List ℤ) (us : List UpperRow) (f : Aff) → MeetsUppers (value q f) (uppers_at q us) → AllHold q (map (λ u. upper_form u f) us)
uppers-rows q [] f h g a = absurd a
uppers-rows q (u ∷ us) f h g (inl e) = subst (λ (k : Aff). pos 0 ≤ℤ value q k) (sym e) (upper-row q u f h.0)
uppers-rows q (u ∷ us) f h g (inr a) = uppers-rows q us f h.1 g a

-- the part is the full loop or the rest of an upper row
abbrev pub IsPartOf : Part → List UpperRow → Type 0
IsPartOf full us = Unit
IsPartOf (rest k) us = k < length us

pub rows-part : (q : List ℤ) (part : Part) (us : List UpperRow) (f : Aff) → IsPartOf part us → AllHold q (last_forms part us f) → IsOf part (value q f) (uppers_at q us)
rows-part q full [] f p h = tt
rows-part q full (u ∷ us) f p h = (row-upper q u f (h (upper_form u f) (inl refl)), rows-part q full us f tt (λ g a. h g (inr a)))
rows-part q (rest zero) [] f p h = absurd (omega arith)
rows-part q (rest (suc k)) [] f p h = absurd (omega arith)
rows-part q (rest zero) (u ∷ us) f p h = let a = past-value q u f in let b = h (past_form u f) (inl refl) in omega (arith, ints)
rows-part q (rest (suc k)) (u ∷ us) f p h = (row-upper q u f (h (upper_form u f) (inl refl)), rows-part q (rest k) us f (omega arith) (λ g a. h g (inr a)))

pub part-rows : (q : List ℤ) (part : Part) (us : List UpperRow) (f : Aff) → IsOf part (value q f) (uppers_at q us) → AllHold q (last_forms part us f)
part-rows q full [] f h g a = absurd a
part-rows q full (u ∷ us) f h g (inl e) = subst (λ (k : Aff). pos 0 ≤ℤ value q k) (sym e) (upper-row q u f h.0)
part-rows q full (u ∷ us) f h g (inr a) = part-rows q full us f h.1 g a
part-rows q (rest zero) [] f h g a = absurd a
part-rows q (rest (suc k)) [] f h g a = absurd a
part-rows q (rest zero) (u ∷ us) f h g (inl e) = subst (λ (k : Aff). pos 0 ≤ℤ value q k) (sym e) (let b = past-value q u f in omega (arith, ints))
part-rows q (rest zero) (u ∷ us) f h g (inr a) = absurd a
part-rows q (rest (suc k)) (u ∷ us) f h g (inl e) = subst (λ (k : Aff). pos 0 ≤ℤ value q k) (sym e) (upper-row q u f h.0)
part-rows q (rest (suc k)) (u ∷ us) f h g (inr a) = part-rows q (rest k) us f h.1 g a
