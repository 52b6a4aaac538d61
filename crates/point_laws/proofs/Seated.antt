-- A form in its seats is the form with each variable replaced by its seat.
use Rattle.std.proofs.Common.{◌≡◌, ◌⊎◌, inl, inr, ℕ, zero, suc, ◌+◌, ◌-◌, ◌<◌, ◌≤◌, Bool, true, false, cond, List, [], ◌∷◌, ◌++◌, map, length, refl, sym, ◌∙◌, ap, subst, arith, ℤ, pos, ◌+ℤ◌, ◌*ℤ◌, nat_eq, nat_lt, nat_le, ◌&&◌}
use Rattle.std.specs.Prelude.{Option, Some, None, slice_get}
use Rattle.std.specs.List.{list_all, range_with_len}
use Rattle.std.proofs.lemmas.Int.{ints}
use Rattle.std.proofs.lemmas.Bool.{eqb-true, eq-eqb, ltb-true, leb-true, ltb-false, leb-false, and_parts}
use lib.IntN.{*ℤ-zero}
use Rattle.nest_tree.specs.Lists.{IsIn}
use Rattle.nest_laws.proofs.Lists.{in_append}
use Rattle.int_rows.specs.declared.row.Aff.{Aff}
use Rattle.int_rows.specs.Rows.{dot}
use Rattle.nest_tree.specs.Forms.{coef, variable, variables, replaced, combined, zeros}
use Rattle.nest_tree.specs.Pieces.{IsLike}
use Rattle.nest_core.specs.Numbers.{is_small}
use Rattle.nest_laws.proofs.Lists.{map-append}
use Rattle.nest_laws.proofs.Made.{coef-combined}
use Rattle.nest_systems.specs.Sums.{number_at}
use Rattle.nest_systems.specs.Placing.{numbers_there, total, small_total, or_large}
use Rattle.point_laws.specs.Seats.{Seats, is_level, seated_number, placed}
use Rattle.point_laws.specs.Seated.{AreApart, seat_form, seat_variables, IsSeatedSmall, PlacedIsReplaced}

pub below_or_not : (k n : ℕ) → (k < n) ⊎ (n ≤ k)
below_or_not k zero = inr (omega arith)
below_or_not zero (suc n) = inl (omega arith)
below_or_not (suc k) (suc n) = elim (below_or_not k n) [ inl h ↦ inl (omega (arith, h)) | inr h ↦ inr (omega (arith, h)) ]

-- ---- numbers
pub number-coef : (zs : List ℤ) (k : ℕ) → number_at zs k ≡ coef k zs
unfolding number_at
number-coef [] zero = refl
number-coef [] (suc k) = refl
number-coef (z ∷ zs) zero = refl
number-coef (z ∷ zs) (suc k) = number-coef zs k

pub coef-unit : (k : ℕ) → coef k (zeros k (pos 1 ∷ [])) ≡ pos 1
coef-unit zero = refl
coef-unit (suc k) = coef-unit k

pub coef-other : (v k : ℕ) → (k ≡ v → ⊥) → coef v (zeros k (pos 1 ∷ [])) ≡ pos 0
coef-other zero zero h = absurd (h refl)
coef-other (suc v) zero h = refl
coef-other zero (suc k) h = refl
coef-other (suc v) (suc k) h = coef-other v k (λ e. h (ap (λ (n : ℕ). suc n) e))

pub coef-range : (g : ℕ → ℤ) (b n j : ℕ) → j < n → coef j (map g (range_with_len b n)) ≡ g (b + j)
coef-range g b zero j h = absurd (omega (arith, h))
coef-range g b (suc n) zero h = let e : b ≡ b + 0 = omega arith in ap g e
coef-range g b (suc n) (suc j) h = let e : b + 1 + j ≡ b + suc j = omega arith in coef-range g (b + 1) n j (omega (arith, h)) ∙ ap g e

pub coef-behind_range : (g : ℕ → ℤ) (b n j : ℕ) → n ≤ j → coef j (map g (range_with_len b n)) ≡ pos 0
coef-behind_range g b zero j h = refl
coef-behind_range g b (suc n) zero h = absurd (omega (arith, h))
coef-behind_range g b (suc n) (suc j) h = coef-behind_range g (b + 1) n j (omega (arith, h))

-- ---- sums of products
abbrev pub rest : List ℤ → List ℤ
rest [] = []
rest (c ∷ cs) = cs

pub first : (cs : List ℤ) (x : ℤ) (xs : List ℤ) → dot cs (x ∷ xs) ≡ (coef 0 cs *ℤ x) +ℤ dot (rest cs) xs
first [] x xs = omega (arith, ints)
first (c ∷ cs) x xs = refl

dot-none : (cs : List ℤ) → dot cs [] ≡ pos 0
dot-none [] = refl
dot-none (c ∷ cs) = refl

-- the list from place n on
abbrev pub from : ℕ → List ℤ → List ℤ
from zero cs = cs
from (suc n) cs = from n (rest cs)

pub coef-rest : (j : ℕ) (cs : List ℤ) → coef j (rest cs) ≡ coef (suc j) cs
coef-rest j [] = refl
coef-rest j (c ∷ cs) = refl

pub coef-from : (n j : ℕ) (cs : List ℤ) → coef j (from n cs) ≡ coef (n + j) cs
coef-from zero j cs = let e : j ≡ 0 + j = omega arith in ap (λ (k : ℕ). coef k cs) e
coef-from (suc n) j cs = let e : suc (n + j) ≡ suc n + j = omega arith in coef-from n j (rest cs) ∙ coef-rest (n + j) cs ∙ ap (λ (k : ℕ). coef k cs) e

pub dot-append : (cs xs ys : List ℤ) → dot cs (xs ++ ys) ≡ dot cs xs +ℤ dot (from (length xs) cs) ys
dot-append cs [] ys = let a = dot-none cs in omega (arith, ints)
dot-append cs (x ∷ xs) ys =
    let a = first cs x (xs ++ ys) in
    let b = first cs x xs in
    let c = dot-append (rest cs) xs ys in
    omega (arith, ints)

-- ---- the number of a variable in a form of seats
abbrev at : ℕ → List Aff → List ℤ
at v fs = map (λ f. coef v f.coefs) fs

variables-none : (v k n : ℕ) (cs : List ℤ) → (v < k) ⊎ (k + n ≤ v) → dot cs (at v (variables k n)) ≡ pos 0
variables-none v k zero cs h = dot-none cs
variables-none v k (suc n) cs h =
    let a = first cs (coef v (variable k).coefs) (at v (variables (suc k) n)) in
    let b : coef v (variable k).coefs ≡ pos 0 = coef-other v k (λ e. elim h [ inl l ↦ omega (arith, l, e) | inr l ↦ omega (arith, l, e) ]) in
    let c : (v < suc k) ⊎ (suc k + n ≤ v) = elim h [ inl l ↦ inl (omega (arith, l)) | inr l ↦ inr (omega (arith, l)) ] in
    let d = variables-none v (suc k) n (rest cs) c in
    a ∙ ap (λ (x : ℤ). (coef 0 cs *ℤ x) +ℤ dot (rest cs) (at v (variables (suc k) n))) b ∙ omega (arith, ints, d)

variables-some : (k n j : ℕ) (cs : List ℤ) → j < n → dot cs (at (k + j) (variables k n)) ≡ coef j cs
variables-some k zero j cs h = absurd (omega (arith, h))
variables-some k (suc n) zero cs h =
    let e : k + 0 ≡ k = omega arith in
    let a = first cs (coef (k + 0) (variable k).coefs) (at (k + 0) (variables (suc k) n)) in
    let b : coef (k + 0) (variable k).coefs ≡ pos 1 = ap (λ (v : ℕ). coef v (variable k).coefs) e ∙ coef-unit k in
    let d = variables-none (k + 0) (suc k) n (rest cs) (inl (omega arith)) in
    a ∙ ap (λ (x : ℤ). (coef 0 cs *ℤ x) +ℤ dot (rest cs) (at (k + 0) (variables (suc k) n))) b ∙ omega (arith, ints, d)
variables-some k (suc n) (suc j) cs h =
    let e : suc k + j ≡ k + suc j = omega arith in
    let a = first cs (coef (k + suc j) (variable k).coefs) (at (k + suc j) (variables (suc k) n)) in
    let b : coef (k + suc j) (variable k).coefs ≡ pos 0 = coef-other (k + suc j) k (λ d. omega (arith, d)) in
    let c = variables-some (suc k) n j (rest cs) (omega (arith, h)) in
    let d : dot (rest cs) (at (k + suc j) (variables (suc k) n)) ≡ coef j (rest cs) = ap (λ (v : ℕ). dot (rest cs) (at v (variables (suc k) n))) (sym e) ∙ c in
    let f = coef-rest j cs in
    a ∙ ap (λ (x : ℤ). (coef 0 cs *ℤ x) +ℤ dot (rest cs) (at (k + suc j) (variables (suc k) n))) b ∙ omega (arith, ints, d, f)

-- what a term's seat gives at a variable
there : (z : ℤ) (v w : ℕ) → (nat_eq w v ≡ true × (z *ℤ coef v (variable w).coefs ≡ z)) ⊎ (nat_eq w v ≡ false × (z *ℤ coef v (variable w).coefs ≡ pos 0))
there z v w = by (nat_eq w v) refl
  where
    by : (b : Bool) → nat_eq w v ≡ b → (nat_eq w v ≡ true × (z *ℤ coef v (variable w).coefs ≡ z)) ⊎ (nat_eq w v ≡ false × (z *ℤ coef v (variable w).coefs ≡ pos 0))
    by true e = let d : w ≡ v = eqb-true w v e in let a : coef v (variable w).coefs ≡ pos 1 = subst (λ (n : ℕ). coef n (variable w).coefs ≡ pos 1) d (coef-unit w) in inl (e, ap (λ (x : ℤ). z *ℤ x) a ∙ omega (arith, ints))
    by false e = inr (e, ap (λ (x : ℤ). z *ℤ x) (coef-other v w (λ d. let f : nat_eq w v ≡ true = eq-eqb w v d in let g : true ≡ false = sym f ∙ e in cc)) ∙ omega (arith, ints))

pub seats-total : (v n : ℕ) (cs ds : List ℤ) (ts : List (Option ℕ)) → ((j : ℕ) → coef j ds ≡ coef (n + j) cs) → dot ds (at v (map seat_form ts)) ≡ total (numbers_there n ts v cs)
seats-total v n cs ds [] h = dot-none ds
seats-total v n cs ds (None ∷ ts) h =
    let a = first ds (pos 0) (at v (map seat_form ts)) in
    let b = seats-total v (n + 1) cs (rest ds) ts (λ j. let e : n + suc j ≡ n + 1 + j = omega arith in coef-rest j ds ∙ h (suc j) ∙ ap (λ (k : ℕ). coef k cs) e) in
    omega (arith, ints, a, b)
seats-total v n cs ds (Some w ∷ ts) h =
    let a = first ds (coef v (variable w).coefs) (at v (map seat_form ts)) in
    let b = seats-total v (n + 1) cs (rest ds) ts (λ j. let e : n + suc j ≡ n + 1 + j = omega arith in coef-rest j ds ∙ h (suc j) ∙ ap (λ (k : ℕ). coef k cs) e) in
    let z : n + 0 ≡ n = omega arith in
    let c : coef 0 ds ≡ number_at cs n = h 0 ∙ ap (λ (k : ℕ). coef k cs) z ∙ sym (number-coef cs n) in
    elim (there (coef 0 ds) v w) [
      | inl e ↦ rw (e.0) (omega (arith, ints, a, b, c, e.1))
      | inr e ↦ rw (e.0) (omega (arith, ints, a, b, c, e.1))
    ]

-- ---- a sum that is small is the sum
small_is : (zs : List ℤ) → is_small (or_large (small_total zs)) ≡ true → or_large (small_total zs) ≡ total zs
unfolding small_total
small_is zs h = by (list_all is_small zs) (is_small (total zs)) h
  where
    by : (a b : Bool) → is_small (or_large (cond a (cond b (Some (total zs)) None) None)) ≡ true → or_large (cond a (cond b (Some (total zs)) None) None) ≡ total zs
    by true true k = refl
    by true false k = absurd cc
    by false b k = absurd cc

-- no term stands at a variable
pub nothing-there : (n v : ℕ) (cs : List ℤ) (ts : List (Option ℕ)) → ((t w : ℕ) → slice_get ts t ≡ Some (Some w) → w ≡ v → ⊥) → total (numbers_there n ts v cs) ≡ pos 0
nothing-there n v cs [] h = refl
nothing-there n v cs (None ∷ ts) h = nothing-there (n + 1) v cs ts (λ t. h (suc t))
nothing-there n v cs (Some w ∷ ts) h = by (nat_eq w v) refl (nothing-there (n + 1) v cs ts (λ t. h (suc t)))
  where
    by : (b : Bool) → nat_eq w v ≡ b → total (numbers_there (n + 1) ts v cs) ≡ pos 0 → total (numbers_there n (Some w ∷ ts) v cs) ≡ pos 0
    by true e k = absurd (h 0 w refl (eqb-true w v e))
    by false e k = rw e k

module _ (s : Seats) (f : Aff) (a : AreApart s) (small : IsSeatedSmall s f) where
  abbrev cs : List ℤ
  cs = f.coefs

  abbrev inner : List ℤ
  inner = from s.params cs

  -- the number of the replaced form, by parameters, levels and terms
  parts : (v : ℕ) → coef v (replaced (seat_variables s) f).coefs ≡ dot cs (at v (variables 0 s.params)) +ℤ (dot inner (at v (variables s.first_level s.levels)) +ℤ total (numbers_there (s.params + s.levels) s.terms v cs))
  parts v =
      let n = length-at v 0 s.params in
      let m = length-at v s.first_level s.levels in
      let d = dot-append cs (at v (variables 0 s.params)) (at v (variables s.first_level s.levels ++ map seat_form s.terms)) in
      let e = dot-append inner (at v (variables s.first_level s.levels)) (at v (map seat_form s.terms)) in
      coef-combined v cs (seat_variables s) f.constant
      ∙ ap (λ (l : List ℤ). dot cs l) (map-append (λ (g : Aff). coef v g.coefs) (variables 0 s.params) (variables s.first_level s.levels ++ map seat_form s.terms))
      ∙ d
      ∙ ap (λ (k : ℕ). dot cs (at v (variables 0 s.params)) +ℤ dot (from k cs) (at v (variables s.first_level s.levels ++ map seat_form s.terms))) n
      ∙ ap (λ (l : List ℤ). dot cs (at v (variables 0 s.params)) +ℤ dot inner l) (map-append (λ (g : Aff). coef v g.coefs) (variables s.first_level s.levels) (map seat_form s.terms))
      ∙ ap (λ (x : ℤ). dot cs (at v (variables 0 s.params)) +ℤ x) (e ∙ ap (λ (k : ℕ). dot inner (at v (variables s.first_level s.levels)) +ℤ dot (from k inner) (at v (map seat_form s.terms))) m)
      ∙ ap (λ (x : ℤ). dot cs (at v (variables 0 s.params)) +ℤ (dot inner (at v (variables s.first_level s.levels)) +ℤ x))
      (seats-total v (s.params + s.levels) cs (from s.levels inner) s.terms (λ j. let k : s.params + (s.levels + j) ≡ s.params + s.levels + j = omega arith in coef-from s.levels j inner ∙ coef-from s.params (s.levels + j) cs ∙ ap (λ (n : ℕ). coef n cs) k))
    where
      length-at : (v k n : ℕ) → length (at v (variables k n)) ≡ n
      length-at v k zero = refl
      length-at v k (suc n) = ap (λ (m : ℕ). suc m) (length-at v (suc k) n)

  none_there : (v : ℕ) → (v < s.first_level + s.levels) ⊎ (s.vars ≤ v) → total (numbers_there (s.params + s.levels) s.terms v cs) ≡ pos 0
  none_there v h = nothing-there (s.params + s.levels) v cs s.terms (λ t w e d. let b = a.terms t w e in elim h [ inl l ↦ omega (arith, l, b.0, d) | inr l ↦ omega (arith, l, b.1, d) ])

  -- the number in the seats, by cases
  seated-is : (v : ℕ) → v < s.vars → seated_number s cs v ≡ coef v (replaced (seat_variables s) f).coefs
  unfolding seated_number
  seated-is v l = by (nat_lt v s.params) (is_level s v) refl refl (small v l)
    where
      by : (b c : Bool) → nat_lt v s.params ≡ b → is_level s v ≡ c
          → (b ≡ false → c ≡ false → is_small (cond b (number_at cs v) (cond c (number_at cs (s.params + (v - s.first_level))) (or_large (small_total (numbers_there (s.params + s.levels) s.terms v cs))))) ≡ true)
          → cond b (number_at cs v) (cond c (number_at cs (s.params + (v - s.first_level))) (or_large (small_total (numbers_there (s.params + s.levels) s.terms v cs)))) ≡ coef v (replaced (seat_variables s) f).coefs
      by true c e d k =
          let h : v < s.params = ltb-true v s.params e in
          let w : 0 + v ≡ v = omega arith in
          let x : dot cs (at v (variables 0 s.params)) ≡ coef v cs = ap (λ (n : ℕ). dot cs (at n (variables 0 s.params))) (sym w) ∙ variables-some 0 s.params v cs h in
          let y = variables-none v s.first_level s.levels inner (inl (omega (arith, h, a.first))) in
          let z = none_there v (inl (omega (arith, h, a.first))) in
          let p = parts v in
          let n = number-coef cs v in
          omega (arith, ints, p, x, y, z, n)
      by false true e d k =
          let t = and_parts (nat_le s.first_level v) (nat_lt (v - s.first_level) s.levels) d in
          let h : s.first_level ≤ v = leb-true s.first_level v t.0 in
          let m : v - s.first_level < s.levels = ltb-true (v - s.first_level) s.levels t.1 in
          let u : s.params ≤ v = ltb-false v s.params e in
          let w : s.first_level + (v - s.first_level) ≡ v = omega (arith, h) in
          let x = variables-none v 0 s.params cs (inr (omega (arith, u))) in
          let y : dot inner (at v (variables s.first_level s.levels)) ≡ coef (v - s.first_level) inner = ap (λ (n : ℕ). dot inner (at n (variables s.first_level s.levels))) (sym w) ∙ variables-some s.first_level s.levels (v - s.first_level) inner m in
          let q = coef-from s.params (v - s.first_level) cs in
          let z = none_there v (inl (omega (arith, h, m))) in
          let p = parts v in
          let n = number-coef cs (s.params + (v - s.first_level)) in
          omega (arith, ints, p, x, y, z, n, q)
      by false false e d k =
          let u : s.params ≤ v = ltb-false v s.params e in
          let x = variables-none v 0 s.params cs (inr (omega (arith, u))) in
          let y = variables-none v s.first_level s.levels inner (no_level d) in
          let p = parts v in
          let n = small_is (numbers_there (s.params + s.levels) s.terms v cs) (k refl refl) in
          omega (arith, ints, p, x, y, n)
        where
          no_level : is_level s v ≡ false → (v < s.first_level) ⊎ (s.first_level + s.levels ≤ v)
          no_level g = pick (nat_le s.first_level v) (nat_lt (v - s.first_level) s.levels) refl refl g
            where
              pick : (b c : Bool) → nat_le s.first_level v ≡ b → nat_lt (v - s.first_level) s.levels ≡ c → (b && c) ≡ false → (v < s.first_level) ⊎ (s.first_level + s.levels ≤ v)
              pick true true b c g = absurd cc
              pick true false b c g = inr (let h = leb-true s.first_level v b in let m = ltb-false (v - s.first_level) s.levels c in omega (arith, h, m))
              pick false c b c' g = inl (leb-false s.first_level v b)

  past : (v : ℕ) → s.vars ≤ v → coef v (replaced (seat_variables s) f).coefs ≡ pos 0
  past v l =
      let x = variables-none v 0 s.params cs (inr (omega (arith, l, a.first, a.levels))) in
      let y = variables-none v s.first_level s.levels inner (inr (omega (arith, l, a.levels))) in
      let z = none_there v (inr l) in
      let p = parts v in
      omega (arith, ints, p, x, y, z)

  constant-same : (ds : List ℤ) (gs : List Aff) (n : ℤ) → ((g : Aff) → IsIn g gs → g.constant ≡ pos 0) → (combined ds gs n).constant ≡ n
  constant-same [] gs n h = refl
  constant-same (d ∷ ds) [] n h = refl
  constant-same (d ∷ ds) (g ∷ gs) n h =
      let e : d *ℤ g.constant ≡ pos 0 = ap (λ (x : ℤ). d *ℤ x) (h g (inl refl)) ∙ *ℤ-zero d in
      let k = constant-same ds gs n (λ x m. h x (inr m)) in
      omega (arith, ints, e, k)

  variables-plain : (k n : ℕ) (g : Aff) → IsIn g (variables k n) → g.constant ≡ pos 0
  variables-plain k zero g h = absurd h
  variables-plain k (suc n) g (inl e) = ap (λ (x : Aff). x.constant) e
  variables-plain k (suc n) g (inr m) = variables-plain (suc k) n g m

  seats-plain : (ts : List (Option ℕ)) (g : Aff) → IsIn g (map seat_form ts) → g.constant ≡ pos 0
  seats-plain [] g h = absurd h
  seats-plain (Some v ∷ ts) g (inl e) = ap (λ (x : Aff). x.constant) e
  seats-plain (None ∷ ts) g (inl e) = ap (λ (x : Aff). x.constant) e
  seats-plain (t ∷ ts) g (inr m) = seats-plain ts g m

  all-plain : (g : Aff) → IsIn g (seat_variables s) → g.constant ≡ pos 0
  all-plain g h = elim (in_append g (variables 0 s.params) (variables s.first_level s.levels ++ map seat_form s.terms) h) [
    | inl m ↦ variables-plain 0 s.params g m
    | inr m ↦ elim (in_append g (variables s.first_level s.levels) (map seat_form s.terms) m) [ inl k ↦ variables-plain s.first_level s.levels g k | inr k ↦ seats-plain s.terms g k ]
  ]

  like : IsLike (placed s f) (replaced (seat_variables s) f)
  unfolding placed
  like = record {
    coefs = λ j. elim (below_or_not j s.vars) [
      | inl l ↦ coef-range (seated_number s cs) 0 s.vars j l ∙ (let e : 0 + j ≡ j = omega arith in ap (seated_number s cs) e) ∙ seated-is j l
      | inr l ↦ coef-behind_range (seated_number s cs) 0 s.vars j l ∙ sym (past j l)
    ];
    constant = sym (constant-same cs (seat_variables s) f.constant all-plain);
  }

pub placed_replaced : PlacedIsReplaced
placed_replaced s f a small = like s f a small
