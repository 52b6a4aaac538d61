-- The rows of value ranges are met at the values that arrays give.
use Rattle.std.proofs.Common.{◌≡◌, ◌⊎◌, inl, inr, ℕ, zero, suc, ◌+◌, ◌<◌, ◌≤◌, Bool, true, false, cond, List, [], ◌∷◌, ◌++◌, map, length, replicate, refl, sym, ◌∙◌, ap, subst, arith, ℤ, pos, negsuc, ◌+ℤ◌, ◌-ℤ◌, ◌*ℤ◌, ◌≤ℤ◌, nat_eq, bytes_eq}
use Rattle.std.specs.Prelude.{Option, Some, None, slice_get}
use Rattle.std.specs.List.{list_all, flat_map, range_with_len}
use Rattle.std.specs.Int.{w128, saturate_signed}
use Rattle.std.proofs.lemmas.Int.{ints}
use Rattle.std.proofs.lemmas.Bool.{and_parts, eqb-true, eq-eqb}
use Rattle.chill_base.proofs.Ring.{times_assoc}
use lib.IntN.{*ℤ-zero}
use Rattle.c_tree.specs.declared.program.Matrix.{Matrix}
use Rattle.c_tree.specs.declared.program.Program.{Program}
use Rattle.int_rows.specs.declared.row.Aff.{Aff}
use Rattle.int_rows.specs.declared.row.Row.{Row}
use Rattle.int_rows.specs.Rows.{dot, Holds, Meets as MeetsScaled}
use Rattle.int_rows.specs.Systems.{IsRowOf}
use Rattle.nest_core.specs.Numbers.{is_small}
use Rattle.nest_tree.specs.declared.kernel.Term.{Term}
use Rattle.nest_tree.specs.declared.made.Made.{Made}
use Rattle.nest_tree.specs.declared.made.MadeWhat.{MadeWhat}
use Rattle.nest_tree.specs.declared.made.MadeWhat.TheVariants.{Pointer, Kept, Count, Mark, Width, Columns, Block, Diag, Padded, Copy}
use Rattle.nest_tree.specs.Lists.{IsIn}
use Rattle.nest_tree.specs.Forms.{value, coef, Meets, MeetsRow, sum, times, variable}
use Rattle.nest_tree.specs.Pieces.{IsLike}
use Rattle.nest_tree.specs.Terms.{Input}
use Rattle.nest_laws.proofs.Forms.{value-sum, value-times}
use Rattle.nest_laws.proofs.Narrow.{coef-added, coef-scaled, like-value}
use Rattle.nest_laws.proofs.Points.{dot-same, length-map}
use Rattle.nest_systems.specs.declared.range.Span.{Span}
use Rattle.nest_systems.specs.Sums.{number_at, stopped_sum, stopped_difference, stopped_product}
use Rattle.nest_systems.specs.Spans.{unit_if, unit_at, low_number, high_number, low_row, high_row, unit_form}
use Rattle.nest_systems.specs.Ranges.{Names, of_two, of_one, of_none, from_zero, to_one, to_none, kept_span, made_value_span, matrix_value_span, said_of, said_of_made, first_span, value_span}
use Rattle.nest_systems.specs.Parts.{count_var, span_rows, term_rows, rows_of_term, value_rows}
use Rattle.point_laws.specs.Ranges.{count_value, InSpan, IsRanged, HasNoCounts}
use Rattle.point_laws.specs.Values.{AreSmall, BeginsWith, HasCell, ValueRowsAreMet}
use Rattle.point_laws.proofs.Seated.{number-coef, below_or_not, coef-unit, coef-other, coef-range, coef-behind_range}
use Rattle.point_laws.proofs.Alike.{coef-past}
use Rattle.point_laws.proofs.Placed.{value-variable}
use Rattle.point_laws.proofs.Stopped.{IsNear, small-near, small-bounds, stopped-is}

-- ---- the widths of ranges
abbrev IsWide : ℕ → Option Span → Type 0
IsWide n o = (s : Span) → o ≡ Some s → (length s.low.coefs ≡ n) × (length s.high.coefs ≡ n)

pub length-zeros : (n : ℕ) → length (replicate n (pos 0)) ≡ n
length-zeros zero = refl
length-zeros (suc n) = ap suc (length-zeros n)

none-wide : (n : ℕ) → IsWide n None
none-wide n s e = absurd cc

some-wide : (n : ℕ) (s : Span) → length s.low.coefs ≡ n → length s.high.coefs ≡ n → IsWide n (Some s)
some-wide n s a b t e = let d : s ≡ t = cc in subst (λ (x : Span). (length x.low.coefs ≡ n) × (length x.high.coefs ≡ n)) d (a, b)

module _ (params : Names) where
  abbrev n : ℕ
  n = length params

  two-wide : (a : List ℕ) (x : ℤ) (b : List ℕ) (y z : ℤ) → length (of_two params a x b y z).coefs ≡ n
  unfolding of_two
  two-wide a x b y z = length-map _ params

  pub zero-wide : (z : ℤ) → length (of_none params z).coefs ≡ n
  unfolding of_none
  zero-wide z = length-zeros n

  one-wide : (a : List ℕ) (z : ℤ) → IsWide n (Some (to_one params a z))
  unfolding from_zero of_one
  one-wide a z = some-wide n (to_one params a z) (zero-wide (pos 0)) (two-wide a (pos 1) a (pos 0) z)

  none_to-wide : (z : ℤ) (c : Option (List ℕ)) → IsWide n (Some (to_none params z c))
  unfolding from_zero
  none_to-wide z c = some-wide n (to_none params z c) (zero-wide (pos 0)) (zero-wide z)

  kept-wide : (m : Matrix) (c s0 d : ℤ) → IsWide n (Some (kept_span params m c s0 d))
  unfolding kept_span
  kept-wide m c s0 d = some-wide n (kept_span params m c s0 d) (two-wide _ _ _ _ _) (two-wide _ _ _ _ _)

  made-wide : (m : Matrix) (what : MadeWhat) → IsWide n (made_value_span params m what)
  unfolding made_value_span
  made-wide m (Pointer rows count) = none_to-wide (pos 0) (Some count)
  made-wide m (Kept c s0 d count) = kept-wide m c s0 d
  made-wide m Count = one-wide m.count (pos 0)
  made-wide m Width = one-wide m.count (pos 0)
  made-wide m (Columns width) = one-wide m.cols (negsuc 0)
  made-wide m Mark = none-wide n
  made-wide m (Block count rows cols) = none-wide n
  made-wide m (Diag count) = none-wide n
  made-wide m (Padded width) = none-wide n
  made-wide m (Copy extents) = none-wide n

  pick : (b : Bool) (x y : Option Span) → IsWide n x → IsWide n y → IsWide n (cond b x y)
  pick true x y h k = h
  pick false x y h k = k

  matrix-wide : (ms : List Matrix) (array : List ℕ) → IsWide n (matrix_value_span params ms array)
  matrix-wide [] array = none-wide n
  matrix-wide (m ∷ ms) array =
      pick (bytes_eq array m.index) _ _ (one-wide m.count (pos 0)) (pick (bytes_eq array m.col) _ _ (one-wide m.cols (negsuc 0)) (matrix-wide ms array))

  said-wide : (o : Option Matrix) (what : MadeWhat) → IsWide n (said_of o (λ m. made_value_span params m what))
  said-wide (Some m) what = made-wide m what
  said-wide None what = none-wide n

  said_made-wide : (ms : List Matrix) (all : List Made) (array : List ℕ) → IsWide n (said_of_made ms all array (made_value_span params))
  said_made-wide ms [] array = none-wide n
  said_made-wide ms (a ∷ all) array = pick (bytes_eq array a.name) _ _ (said-wide (slice_get ms a.matrix) a.what) (said_made-wide ms all array)

first-wide : (n : ℕ) (x y : Option Span) → IsWide n x → IsWide n y → IsWide n (first_span x y)
first-wide n (Some s) y h k = h
first-wide n None y h k = k

pub span-wide : (head : Program) (made : List Made) (array : List ℕ) → IsWide (length head.params) (value_span head made array)
unfolding value_span
span-wide head made array = first-wide (length head.params) _ _ (matrix-wide head.params head.matrices array) (said_made-wide head.params head.matrices made array)

-- ---- the numbers of rows that are within the limit
pub small-at : (zs : List ℤ) (k : ℤ) (j : ℕ) → list_all is_small (zs ++ k ∷ []) ≡ true → j < length zs → is_small (coef j zs) ≡ true
small-at [] k j h l = absurd (omega (arith, l))
small-at (z ∷ zs) k zero h l = (and_parts (is_small z) _ h).0
small-at (z ∷ zs) k (suc j) h l = small-at zs k j (and_parts (is_small z) _ h).1 (omega (arith, l))

pub small-last : (zs : List ℤ) (k : ℤ) → list_all is_small (zs ++ k ∷ []) ≡ true → is_small k ≡ true
small-last [] k h = (and_parts (is_small k) _ h).0
small-last (z ∷ zs) k h = small-last zs k (and_parts (is_small z) _ h).1

pub length-range : (b n : ℕ) → length (range_with_len b n) ≡ n
length-range b zero = refl
length-range b (suc n) = ap suc (length-range (b + 1) n)

-- a form of so many numbers, each within the limit
pub number-small : (g : ℕ → ℤ) (c : ℤ) (vars j : ℕ) → list_all is_small (map g (range_with_len 0 vars) ++ c ∷ []) ≡ true → j < vars → is_small (g j) ≡ true
number-small g c vars j h l =
    let e : 0 + j ≡ j = omega arith in
    let n : length (map g (range_with_len 0 vars)) ≡ vars = length-map g (range_with_len 0 vars) ∙ length-range 0 vars in
    subst (λ (z : ℤ). is_small z ≡ true) (coef-range g 0 vars j l ∙ ap g e) (small-at (map g (range_with_len 0 vars)) c j h (omega (arith, l, n)))

pub get-within : (us : List Term) (t : ℕ) (u : Term) → slice_get us t ≡ Some u → t < length us
get-within [] t u h = absurd cc
get-within (x ∷ us) zero u h = omega arith
get-within (x ∷ us) (suc t) u h = omega (arith, get-within us t u h)

-- ---- the variable whose range it is
unit-here : (t vars : ℕ) → t < vars → number_at (unit_form t vars).coefs t ≡ pos 1
unfolding unit_form
unit-here t vars l = let e : 0 + t ≡ t = omega arith in number-coef (map (unit_at t) (range_with_len 0 vars)) t ∙ coef-range (unit_at t) 0 vars t l ∙ ap (unit_at t) e ∙ here
  where
    here : unit_at t t ≡ pos 1
    here = rw (eq-eqb t t refl) refl

unit-other : (t vars v : ℕ) → (v ≡ t → ⊥) → number_at (unit_form t vars).coefs v ≡ pos 0
unfolding unit_form
unit-other t vars v h = elim (below_or_not v vars) [
  | inl l ↦ (let e : 0 + v ≡ v = omega arith in number-coef (map (unit_at t) (range_with_len 0 vars)) v ∙ coef-range (unit_at t) 0 vars v l ∙ ap (unit_at t) e ∙ other (nat_eq v t) refl)
  | inr l ↦ number-coef (map (unit_at t) (range_with_len 0 vars)) v ∙ coef-behind_range (unit_at t) 0 vars v l
]
  where
    other : (b : Bool) → nat_eq v t ≡ b → unit_if b ≡ pos 0
    other true e = absurd (h (eqb-true v t e))
    other false e = refl

pub same_or_not : (a b : ℕ) → (a ≡ b) ⊎ (a ≡ b → ⊥)
same_or_not zero zero = inl refl
same_or_not zero (suc b) = inr (λ e. omega (arith, e))
same_or_not (suc a) zero = inr (λ e. omega (arith, e))
same_or_not (suc a) (suc b) = elim (same_or_not a b) [ inl e ↦ inl (ap suc e) | inr h ↦ inr (λ e. h (omega (arith, e))) ]

-- ---- the two rows of a range
module _ (i : Input) (s : Span) (t vars : ℕ) (p : List ℤ) (inside : t < vars) (after : length i.params ≤ t) (low_wide : length s.low.coefs ≡ length i.params) (high_wide : length s.high.coefs ≡ length i.params) (begins : BeginsWith i.params p) where
  abbrev low_form : Aff
  low_form = sum s.low (times s.low_times (variable t))

  abbrev high_form : Aff
  high_form = sum s.high (times (negsuc 0 *ℤ s.high_times) (variable t))

  -- a form of the parameters has its value
  own-value : (f : Aff) → length f.coefs ≡ length i.params → value p f ≡ value i.params f
  own-value f e = ap (λ (z : ℤ). z +ℤ f.constant) (dot-same f.coefs p i.params (λ j held. elim (below_or_not j (length i.params)) [
    | inl l ↦ begins j l
    | inr l ↦ absurd (held (coef-past f.coefs j (omega (arith, l, e))))
  ]))

  low-value : value p low_form ≡ s.low_times *ℤ coef t p +ℤ value i.params s.low
  low-value =
      let a = value-sum p s.low (times s.low_times (variable t)) in
      let b = value-times p s.low_times (variable t) ∙ ap (λ (z : ℤ). s.low_times *ℤ z) (value-variable t p) in
      let c = own-value s.low low_wide in
      omega (arith, ints, a, b, c)

  coef-of : (f : Aff) (c : ℤ) (j : ℕ) → coef j (sum f (times c (variable t))).coefs ≡ coef j f.coefs +ℤ c *ℤ coef j (variable t).coefs
  coef-of f c j = coef-added j f.coefs (times c (variable t)).coefs ∙ ap (λ (z : ℤ). coef j f.coefs +ℤ z) (coef-scaled j c (variable t).coefs)

  past-params : (f : Aff) (j : ℕ) → length f.coefs ≡ length i.params → length i.params ≤ j → coef j f.coefs ≡ pos 0
  past-params f j e l = coef-past f.coefs j (omega (arith, l, e))

  -- sums that stop, of which one part is 0
  plain-sum : (x y : ℤ) → y ≡ pos 0 → is_small (stopped_sum x (stopped_product s.low_times y)) ≡ true → stopped_sum x (stopped_product s.low_times y) ≡ x
  unfolding stopped_sum stopped_product
  plain-sum x y e h =
      let z : s.low_times *ℤ y ≡ pos 0 = ap (λ (k : ℤ). s.low_times *ℤ k) e ∙ *ℤ-zero s.low_times in
      let w : x +ℤ saturate_signed w128 (s.low_times *ℤ y) ≡ x = ap (λ (k : ℤ). x +ℤ saturate_signed w128 k) z ∙ omega (arith, ints) in
      stopped-is (x +ℤ saturate_signed w128 (s.low_times *ℤ y)) (small-near _ h) ∙ w

  unit-sum : (x y : ℤ) → x ≡ pos 0 → y ≡ pos 1 → is_small (stopped_sum x (stopped_product s.low_times y)) ≡ true → stopped_sum x (stopped_product s.low_times y) ≡ s.low_times
  unfolding stopped_sum stopped_product
  unit-sum x y d e h =
      let z : s.low_times *ℤ y ≡ s.low_times = ap (λ (k : ℤ). s.low_times *ℤ k) e ∙ omega (arith, ints) in
      let w : x +ℤ saturate_signed w128 (s.low_times *ℤ y) ≡ saturate_signed w128 s.low_times = ap (λ (k : ℤ). x +ℤ saturate_signed w128 k) z ∙ omega (arith, ints, d) in
      let k = stopped-is (x +ℤ saturate_signed w128 (s.low_times *ℤ y)) (small-near _ h) in
      let near : IsNear (saturate_signed w128 s.low_times) = subst IsNear (k ∙ w) (small-near _ h) in
      k ∙ w ∙ stopped-is s.low_times near

  pub low-like : IsRowOf vars (low_row s (unit_form t vars) vars) → IsLike (low_row s (unit_form t vars) vars).form low_form
  unfolding low_row low_number unit_form
  low-like h = record {
    coefs = λ j. elim (below_or_not j vars) [
      | inl l ↦ (let e : 0 + j ≡ j = omega arith in coef-range (low_number s (unit_form t vars).coefs) 0 vars j l ∙ ap (low_number s (unit_form t vars).coefs) e ∙ at j (same_or_not j t) (number-small (low_number s (unit_form t vars).coefs) _ vars j h.small l) ∙ sym (coef-of s.low s.low_times j))
      | inr l ↦ coef-behind_range (low_number s (unit_form t vars).coefs) 0 vars j l ∙ sym (coef-of s.low s.low_times j ∙ behind j l)
    ];
    constant = last (small-last (map (low_number s (unit_form t vars).coefs) (range_with_len 0 vars)) _ h.small);
  }
    where
      at : (j : ℕ) → (j ≡ t) ⊎ (j ≡ t → ⊥) → is_small (low_number s (unit_form t vars).coefs j) ≡ true → low_number s (unit_form t vars).coefs j ≡ coef j s.low.coefs +ℤ s.low_times *ℤ coef j (variable t).coefs
      at j (inl e) h =
          let x : number_at s.low.coefs j ≡ pos 0 = number-coef s.low.coefs j ∙ past-params s.low j low_wide (omega (arith, e, after)) in
          let y : number_at (unit_form t vars).coefs j ≡ pos 1 = ap (number_at (unit_form t vars).coefs) e ∙ unit-here t vars inside in
          let u : coef j (variable t).coefs ≡ pos 1 = ap (λ (k : ℕ). coef k (variable t).coefs) e ∙ coef-unit t in
          let v : coef j s.low.coefs ≡ pos 0 = past-params s.low j low_wide (omega (arith, e, after)) in
          unit-sum (number_at s.low.coefs j) (number_at (unit_form t vars).coefs j) x y h ∙ rw (u, v) (omega (arith, ints))
      at j (inr n) h =
          let y : number_at (unit_form t vars).coefs j ≡ pos 0 = unit-other t vars j n in
          let u : coef j (variable t).coefs ≡ pos 0 = coef-other j t (λ e. n (sym e)) in
          let z = *ℤ-zero s.low_times in
          plain-sum (number_at s.low.coefs j) (number_at (unit_form t vars).coefs j) y h ∙ number-coef s.low.coefs j ∙ rw u (omega (arith, ints, z))

      behind : (j : ℕ) → vars ≤ j → coef j s.low.coefs +ℤ s.low_times *ℤ coef j (variable t).coefs ≡ pos 0
      behind j l =
          let u : coef j (variable t).coefs ≡ pos 0 = coef-other j t (λ e. omega (arith, e, l, inside)) in
          let v : coef j s.low.coefs ≡ pos 0 = past-params s.low j low_wide (omega (arith, l, inside, after)) in
          let z = *ℤ-zero s.low_times in
          rw (u, v) (omega (arith, ints, z))

      last : is_small (stopped_sum s.low.constant (stopped_product s.low_times (unit_form t vars).constant)) ≡ true → stopped_sum s.low.constant (stopped_product s.low_times (unit_form t vars).constant) ≡ low_form.constant
      last h = let z = *ℤ-zero s.low_times in plain-sum s.low.constant (pos 0) refl h ∙ omega (arith, ints, z)

  -- 0 has been taken from a number, or a number from 0
  less-none : (x y : ℤ) → y ≡ pos 0 → is_small (stopped_sum (stopped_difference x (stopped_product s.high_times y)) (pos 0)) ≡ true → stopped_sum (stopped_difference x (stopped_product s.high_times y)) (pos 0) ≡ x
  unfolding stopped_sum stopped_difference stopped_product
  less-none x y e h =
      let z : s.high_times *ℤ y ≡ pos 0 = ap (λ (k : ℤ). s.high_times *ℤ k) e ∙ *ℤ-zero s.high_times in
      let w : x -ℤ saturate_signed w128 (s.high_times *ℤ y) ≡ x = ap (λ (k : ℤ). x -ℤ saturate_signed w128 k) z ∙ omega (arith, ints) in
      let d : ℤ = saturate_signed w128 (x -ℤ saturate_signed w128 (s.high_times *ℤ y)) in
      let k : saturate_signed w128 (d +ℤ pos 0) ≡ d +ℤ pos 0 = stopped-is (d +ℤ pos 0) (small-near _ h) in
      let l : d +ℤ pos 0 ≡ d = omega (arith, ints) in
      let near : IsNear d = subst IsNear (k ∙ l) (small-near _ h) in
      k ∙ l ∙ stopped-is (x -ℤ saturate_signed w128 (s.high_times *ℤ y)) near ∙ w

  none-less : (x y : ℤ) → x ≡ pos 0 → y ≡ pos 1 → is_small (stopped_sum (stopped_difference x (stopped_product s.high_times y)) (pos 0)) ≡ true → stopped_sum (stopped_difference x (stopped_product s.high_times y)) (pos 0) ≡ negsuc 0 *ℤ s.high_times
  unfolding stopped_sum stopped_difference stopped_product
  none-less x y f e h =
      let z : s.high_times *ℤ y ≡ s.high_times = ap (λ (k : ℤ). s.high_times *ℤ k) e ∙ omega (arith, ints) in
      let c : ℤ = saturate_signed w128 s.high_times in
      let w : x -ℤ saturate_signed w128 (s.high_times *ℤ y) ≡ pos 0 -ℤ c = ap (λ (k : ℤ). x -ℤ saturate_signed w128 k) z ∙ omega (arith, ints, f) in
      let d : ℤ = saturate_signed w128 (x -ℤ saturate_signed w128 (s.high_times *ℤ y)) in
      let k : saturate_signed w128 (d +ℤ pos 0) ≡ d +ℤ pos 0 = stopped-is (d +ℤ pos 0) (small-near _ h) in
      let l : d +ℤ pos 0 ≡ d = omega (arith, ints) in
      let near : IsNear d = subst IsNear (k ∙ l) (small-near _ h) in
      let m : d ≡ pos 0 -ℤ c = stopped-is (x -ℤ saturate_signed w128 (s.high_times *ℤ y)) near ∙ w in
      let b = small-bounds (saturate_signed w128 (d +ℤ pos 0)) h in
      let n : saturate_signed w128 (d +ℤ pos 0) ≡ pos 0 -ℤ c = k ∙ l ∙ m in
      let low = b.0 in let top = b.1 in
      let t = stopped-is s.high_times (omega (arith, ints, low, top, n), omega (arith, ints, low, top, n)) in
      n ∙ omega (arith, ints, t)

  pub high-like : IsRowOf vars (high_row s (unit_form t vars) None vars) → IsLike (high_row s (unit_form t vars) None vars).form high_form
  unfolding high_row high_number unit_form stopped_difference stopped_product
  high-like h = record {
    coefs = λ j. elim (below_or_not j vars) [
      | inl l ↦ (let e : 0 + j ≡ j = omega arith in coef-range (high_number s (unit_form t vars).coefs None) 0 vars j l ∙ ap (high_number s (unit_form t vars).coefs None) e ∙ at j (same_or_not j t) (number-small (high_number s (unit_form t vars).coefs None) _ vars j h.small l) ∙ sym (coef-of s.high (negsuc 0 *ℤ s.high_times) j))
      | inr l ↦ coef-behind_range (high_number s (unit_form t vars).coefs None) 0 vars j l ∙ sym (coef-of s.high (negsuc 0 *ℤ s.high_times) j ∙ behind j l)
    ];
    constant = last (small-last (map (high_number s (unit_form t vars).coefs None) (range_with_len 0 vars)) _ h.small);
  }
    where
      at : (j : ℕ) → (j ≡ t) ⊎ (j ≡ t → ⊥) → is_small (high_number s (unit_form t vars).coefs None j) ≡ true
          → high_number s (unit_form t vars).coefs None j ≡ coef j s.high.coefs +ℤ (negsuc 0 *ℤ s.high_times) *ℤ coef j (variable t).coefs
      at j (inl e) h =
          let x : number_at s.high.coefs j ≡ pos 0 = number-coef s.high.coefs j ∙ past-params s.high j high_wide (omega (arith, e, after)) in
          let y : number_at (unit_form t vars).coefs j ≡ pos 1 = ap (number_at (unit_form t vars).coefs) e ∙ unit-here t vars inside in
          let u : coef j (variable t).coefs ≡ pos 1 = ap (λ (k : ℕ). coef k (variable t).coefs) e ∙ coef-unit t in
          let v : coef j s.high.coefs ≡ pos 0 = past-params s.high j high_wide (omega (arith, e, after)) in
          none-less (number_at s.high.coefs j) (number_at (unit_form t vars).coefs j) x y h ∙ rw (u, v) (omega (arith, ints))
      at j (inr n) h =
          let y : number_at (unit_form t vars).coefs j ≡ pos 0 = unit-other t vars j n in
          let u : coef j (variable t).coefs ≡ pos 0 = coef-other j t (λ e. n (sym e)) in
          let z = *ℤ-zero (negsuc 0 *ℤ s.high_times) in
          less-none (number_at s.high.coefs j) (number_at (unit_form t vars).coefs j) y h ∙ number-coef s.high.coefs j ∙ rw u (omega (arith, ints, z))

      behind : (j : ℕ) → vars ≤ j → coef j s.high.coefs +ℤ (negsuc 0 *ℤ s.high_times) *ℤ coef j (variable t).coefs ≡ pos 0
      behind j l =
          let u : coef j (variable t).coefs ≡ pos 0 = coef-other j t (λ e. omega (arith, e, l, inside)) in
          let v : coef j s.high.coefs ≡ pos 0 = past-params s.high j high_wide (omega (arith, l, inside, after)) in
          let z = *ℤ-zero (negsuc 0 *ℤ s.high_times) in
          rw (u, v) (omega (arith, ints, z))

      last : is_small (stopped_difference s.high.constant (stopped_product s.high_times (unit_form t vars).constant)) ≡ true → stopped_difference s.high.constant (stopped_product s.high_times (unit_form t vars).constant) ≡ high_form.constant
      last h =
          let z = *ℤ-zero s.high_times in
          let y = *ℤ-zero (negsuc 0 *ℤ s.high_times) in
          let w : s.high.constant -ℤ saturate_signed w128 (s.high_times *ℤ pos 0) ≡ s.high.constant = ap (λ (k : ℤ). s.high.constant -ℤ saturate_signed w128 k) z ∙ omega (arith, ints) in
          stopped-is (s.high.constant -ℤ saturate_signed w128 (s.high_times *ℤ pos 0)) (small-near _ h) ∙ w ∙ omega (arith, ints, y)

  high-value : value p high_form ≡ value i.params s.high -ℤ (s.high_times *ℤ coef t p)
  high-value =
      let a = value-sum p s.high (times (negsuc 0 *ℤ s.high_times) (variable t)) in
      let b = value-times p (negsuc 0 *ℤ s.high_times) (variable t) ∙ ap (λ (z : ℤ). (negsuc 0 *ℤ s.high_times) *ℤ z) (value-variable t p) in
      let c = own-value s.high high_wide in
      let d = times_assoc (negsuc 0) s.high_times (coef t p) in
      omega (arith, ints, a, b, c, d)

  pub low-met : IsRowOf vars (low_row s (unit_form t vars) vars) → InSpan i s (coef t p) → MeetsRow p (low_row s (unit_form t vars) vars)
  unfolding low_row
  low-met h r = subst (λ (z : ℤ). pos 0 ≤ℤ z) (sym (like-value p (low_row s (unit_form t vars) vars).form low_form (low-like h) ∙ low-value)) r.low

  pub high-met : s.count ≡ None → IsRowOf vars (high_row s (unit_form t vars) None vars) → InSpan i s (coef t p) → MeetsRow p (high_row s (unit_form t vars) None vars)
  unfolding high_row
  high-met e h r =
      let c : count_value i s.count ≡ pos 0 = ap (count_value i) e in
      let b = r.high in
      subst (λ (z : ℤ). pos 0 ≤ℤ z) (sym (like-value p (high_row s (unit_form t vars) None vars).form high_form (high-like h) ∙ high-value)) (omega (arith, ints, b, c))

-- ---- all ranges
pub meets-append : (p : List ℤ) (rs ss : List Row) → Meets p rs → Meets p ss → Meets p (rs ++ ss)
meets-append p [] ss h k = k
meets-append p (r ∷ rs) ss h k = (h.0, meets-append p rs ss h.1 k)

-- a constant that is taken once
pub meets-once : (p : List ℤ) (rows : List Row) → Meets p rows → MeetsScaled (pos 1) p rows
meets-once p [] h = tt
meets-once p (r ∷ rows) h = (subst (Holds r.equal) (once (dot (r.form).coefs p) (r.form).constant) h.0, meets-once p rows h.1)
  where
    once : (a c : ℤ) → a +ℤ c ≡ a +ℤ (pos 1 *ℤ c)
    once a c = omega (arith, ints)

pub small-append : (vars : ℕ) (rs ss : List Row) → AreSmall vars (rs ++ ss) → AreSmall vars rs × AreSmall vars ss
small-append vars [] ss h = (tt, h)
small-append vars (r ∷ rs) ss h = let k = small-append vars rs ss h.1 in ((h.0, k.0), k.1)

module _ (head : Program) (made : List Made) (i : Input) (first : ℕ) (terms : List Term) (p : List ℤ) (r : IsRanged head made i) (none : HasNoCounts head made) (wide : length head.params ≤ first) (begins : BeginsWith i.params p) where
  abbrev vars : ℕ
  vars = first + length terms

  term-met : (t : ℕ) → HasCell i first terms p t → AreSmall vars (rows_of_term head made first terms t) → Meets p (rows_of_term head made first terms t)
  term-met t c small = subst (λ (o : Option Term). AreSmall vars (term_rows head made first terms t o) → Meets p (term_rows head made first terms t o)) (sym c.is) (by (value_span head made (c.term).array) refl) small
    where
      inside : first + t < first + length terms
      inside = let l = get-within terms t c.term c.is in omega (arith, l)

      after : length i.params ≤ first + t
      after = let e = r.count in omega (arith, e, wide)

      by : (o : Option Span) → value_span head made (c.term).array ≡ o → AreSmall vars (span_rows first terms (unit_form (first + t) vars) o) → Meets p (span_rows first terms (unit_form (first + t) vars) o)
      by None e h = tt
      by (Some s) e h =
          let w = span-wide head made (c.term).array s e in
          let n = none (c.term).array s e in
          let in_span = r.values (c.term).array c.at (coef (first + t) p) s e c.cell in
          let v : count_var first terms s.count ≡ None = ap (count_var first terms) n in
          let m : MeetsRow p (high_row s (unit_form (first + t) vars) None vars) =
          high-met i s (first + t) vars p inside after (w.0 ∙ sym r.count) (w.1 ∙ sym r.count) begins n (subst (λ (o : Option ℕ). IsRowOf vars (high_row s (unit_form (first + t) vars) o vars)) v (h.1).0) in_span in
          (low-met i s (first + t) vars p inside after (w.0 ∙ sym r.count) (w.1 ∙ sym r.count) begins h.0 in_span, (subst (λ (o : Option ℕ). MeetsRow p (high_row s (unit_form (first + t) vars) o vars)) (sym v) m, tt))

  all-met : (order : List ℕ) → ((t : ℕ) → IsIn t order → HasCell i first terms p t) → AreSmall vars (flat_map (rows_of_term head made first terms) order) → Meets p (flat_map (rows_of_term head made first terms) order)
  all-met [] c small = tt
  all-met (t ∷ order) c small =
      let s = small-append vars (rows_of_term head made first terms t) (flat_map (rows_of_term head made first terms) order) small in
      meets-append p (rows_of_term head made first terms t) (flat_map (rows_of_term head made first terms) order) (term-met t (c t (inl refl)) s.0) (all-met order (λ u a. c u (inr a)) s.1)

pub values_met : ValueRowsAreMet
unfolding value_rows
values_met head made i first terms order p r none wide begins cells small = all-met head made i first terms p r none wide begins order cells small
