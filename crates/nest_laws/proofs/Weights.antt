-- An expression of a small size has its value.
use Rattle.std.proofs.Common.{◌≡◌, ◌⊎◌, inl, inr, ℕ, zero, suc, ◌+◌, ◌*◌, ◌≤◌, max, List, [], ◌∷◌, refl, ◌∙◌, ap, arith, ℤ, pos, negsuc, ◌+ℤ◌, ◌-ℤ◌, ◌*ℤ◌, neg_ℤ, ◌≤ℤ◌, ◌<ℤ◌, unsigned_abs, true, Some, Ok, mul-le-mul_left}
use Rattle.std.specs.Prelude.{nat_le}
use Rattle.std.specs.Int.{int_min, int_max, int_div_euclid}
use Rattle.std.proofs.lemmas.Int.{ints, clamps, unsigned_abs-mul}
use Rattle.chill_base.proofs.Ring.{not_negative_product, sum_times, expand}
use Rattle.c_tree.specs.declared.index.Index.{Index}
use Rattle.c_tree.specs.declared.index.Subscripts.{Subscripts}
use Rattle.c_tree.specs.declared.index.Index.TheVariants.{At, Neg, Plus, Minus, Times, Min, Max, Floor, Ceil}
use Rattle.c_tree.specs.declared.index.Subscripts.TheVariants.{One, Two, Three}
use Rattle.c_meaning.specs.Names.{Name}
use Rattle.c_meaning.specs.Weighed.{Weighed, greatest, negated, sum_of, difference_of, multiple_of, lesser_of, greater_of, floor_of, ceil_of}
use Rattle.c_meaning.specs.Value.{Sight, Answer, ◌>>=◌, judged, held, plain_answer, three_answers, on_one, on_two, cell_seen, measure, subscripts_of, value_of}
use Rattle.c_meaning.proofs.Equations.{cell_value_is, measure-Const, measure-Var, measure-At, measure-Neg, measure-Plus, measure-Minus, measure-Times, measure-Min, measure-Max, measure-Floor, measure-Ceil, subscripts-One, subscripts-Two, subscripts-Three}
use Rattle.nest_tree.specs.Levels.{IsInTile}
use Rattle.nest_laws.specs.Weights.{Sizes, HasSize, const, name, one, two, three, neg, plus, minus, times, lesser, greater, floor, ceil, SmallExpressionHasValue}
use Rattle.nest_laws.proofs.Levels.{quotient_is}

abs-neg : (a : ℤ) → unsigned_abs (neg_ℤ a) ≡ unsigned_abs a
abs-neg a = grind (arith, ints)

abs-sum : (a b : ℤ) (m n : ℕ) → unsigned_abs a ≤ m → unsigned_abs b ≤ n → unsigned_abs (a +ℤ b) ≤ m + n
abs-sum a b m n h k = grind (arith, ints, h, k)

abs-difference : (a b : ℤ) (m n : ℕ) → unsigned_abs a ≤ m → unsigned_abs b ≤ n → unsigned_abs (a -ℤ b) ≤ m + n
abs-difference a b m n h k = grind (arith, ints, h, k)

abs-product : (c a : ℤ) (m : ℕ) → unsigned_abs a ≤ m → unsigned_abs (c *ℤ a) ≤ unsigned_abs c * m
abs-product c a m h = rw (unsigned_abs-mul c a) (mul-le-mul_left (unsigned_abs c) h)

abs-min : (a b : ℤ) (m n : ℕ) → unsigned_abs a ≤ m → unsigned_abs b ≤ n → unsigned_abs (int_min a b) ≤ max m n
abs-min a b m n h k = omega (arith, ints, clamps, h, k)

abs-max : (a b : ℤ) (m n : ℕ) → unsigned_abs a ≤ m → unsigned_abs b ≤ n → unsigned_abs (int_max a b) ≤ max m n
abs-max a b m n h k = omega (arith, ints, clamps, h, k)

not_below_or_below : (t : ℤ) → (pos 0 ≤ℤ t) ⊎ (t <ℤ pos 0)
not_below_or_below t = grind (arith, ints)

suc_times : (d : ℕ) (t : ℤ) → pos (suc d) *ℤ t ≡ (pos d *ℤ t) +ℤ t
suc_times d t =
    let k : pos (suc d) ≡ pos d +ℤ pos 1 = omega (arith, ints) in
    let l = sum_times (pos d) (pos 1) t in
    rw k (omega (arith, ints, l))

abs-quotient : (e d : ℤ) → pos 1 ≤ℤ d → unsigned_abs (int_div_euclid e d) ≤ unsigned_abs e
abs-quotient e (pos zero) h = absurd (omega (arith, ints))
abs-quotient e (negsuc d) h = absurd (omega (arith, ints))
abs-quotient e (pos (suc d)) h =
    let t = int_div_euclid e (pos (suc d)) in
    let q : IsInTile (pos (suc d)) t e = quotient_is d e in
    let low = q.low in
    let high = q.high in
    elim (not_below_or_below t) [
      | inl g ↦ (
          let p : pos 0 ≤ℤ (pos d *ℤ t) = not_negative_product (pos d) t (omega (arith, ints)) g in
          let s = suc_times d t in
          grind (arith, ints, p, s, low, g))
      | inr g ↦ (
          let p : pos 0 ≤ℤ (pos d *ℤ (neg_ℤ t +ℤ negsuc 0)) = not_negative_product (pos d) (neg_ℤ t +ℤ negsuc 0) (omega (arith, ints)) (omega (arith, ints)) in
          let r = simp expand at p in
          let s = suc_times d t in
          grind (arith, ints, r, s, high, g))
    ]

abs-ceil : (e d : ℤ) → pos 1 ≤ℤ d → unsigned_abs (neg_ℤ (int_div_euclid (neg_ℤ e) d)) ≤ unsigned_abs e
abs-ceil e d h = let q = abs-quotient (neg_ℤ e) d h in let n = abs-neg e in let m = abs-neg (int_div_euclid (neg_ℤ e) d) in omega (arith, q, n, m)

-- the expression has a weighed value: this one, its weight covers it and is at most n
record Weighs (s : Sight) (e : Index) (v : ℤ) (n : ℕ) : Type 0 where
  weight : ℕ
  is : measure e s ≡ Ok (record { value = v; weight = weight })
  covers : unsigned_abs v ≤ weight
  within : weight ≤ n

judged-small : (w : Weighed) → w.weight ≤ greatest → judged w ≡ Ok w.value
judged-small w h = let k : nat_le w.weight greatest ≡ true = grind (arith, h) in rw k refl

small_value : (s : Sight) (e : Index) (v : ℤ) (n : ℕ) → Weighs s e v n → n ≤ greatest → value_of e s ≡ Ok v
small_value s e v n h k =
    let w = h.within in
    ap (λ (a : Answer Weighed). a >>= judged) h.is ∙ judged-small (record { value = v; weight = h.weight }) (omega arith)

two_weigh : (s : Sight) (e a b : Index) (f : Weighed → Weighed → Weighed) (v u : ℤ) (n m : ℕ) → measure e s ≡ on_two f (measure a s) (measure b s) → (h : Weighs s a v n) → (k : Weighs s b u m)
    → measure e s ≡ Ok (f (record { value = v; weight = h.weight }) (record { value = u; weight = k.weight }))
two_weigh s e a b f v u n m is h k = is ∙ ap (λ (x : Answer Weighed). on_two f x (measure b s)) h.is ∙ ap (λ (y : Answer Weighed). on_two f (Ok (record { value = v; weight = h.weight })) y) k.is

one_weighs : (s : Sight) (e a : Index) (f : Weighed → Weighed) (v : ℤ) (n : ℕ) → measure e s ≡ on_one f (measure a s) → (h : Weighs s a v n) → measure e s ≡ Ok (f (record { value = v; weight = h.weight }))
one_weighs s e a f v n is h = is ∙ ap (λ (x : Answer Weighed). on_one f x) h.is

-- a cell that is found
cell_weighs : (s : Sight) (array : Name) (at : Subscripts) (is : List ℤ) (w : ℤ) (n : ℕ) → subscripts_of at s ≡ Ok is → cell_seen s array is ≡ Some w → unsigned_abs w ≤ n → Weighs s (At (record { array = array; at = at })) w n
cell_weighs s array at is w n e f h = record {
  weight = unsigned_abs w;
  is = measure-At (record { array = array; at = at }) s
      ∙ ap plain_answer (cell_value_is (record { array = array; at = at }) s ∙ ap (λ (x : Answer (List ℤ)). x >>= (λ is. held array (cell_seen s array is))) e ∙ ap (held array) f);
  covers = omega arith;
  within = h;
}

module _ (z : Sizes) (s : Sight) where
  weighs : (e : Index) (v : ℤ) (n : ℕ) → HasSize z s e v n → Weighs s e v n
  weighs _ _ _ (const n) = record { weight = unsigned_abs n; is = measure-Const n s; covers = omega arith; within = omega arith }
  weighs _ _ _ (name x k) = record { weight = unsigned_abs (s.value x); is = measure-Var x s; covers = omega arith; within = k }
  weighs _ _ _ (one array a v w n h l f k) =
      let i = small_value s a v n (weighs a v n h) l in
      cell_weighs s array (One a) (v ∷ pos 0 ∷ pos 0 ∷ []) w (z.cells array) (subscripts-One a s ∙ ap (λ (x : Answer ℤ). three_answers x (Ok (pos 0)) (Ok (pos 0))) i) f k
  weighs _ _ _ (two array a b v u w n m h l k o f c) =
      let i = small_value s a v n (weighs a v n h) l in
      let j = small_value s b u m (weighs b u m k) o in
      cell_weighs s array (Two a b) (v ∷ u ∷ pos 0 ∷ []) w (z.cells array)
      (subscripts-Two a b s ∙ ap (λ (x : Answer ℤ). three_answers x (value_of b s) (Ok (pos 0))) i ∙ ap (λ (y : Answer ℤ). three_answers (Ok v) y (Ok (pos 0))) j) f c
  weighs _ _ _ (three array a b c v u t w n m q h l k o g p f d) =
      let i = small_value s a v n (weighs a v n h) l in
      let j = small_value s b u m (weighs b u m k) o in
      let r = small_value s c t q (weighs c t q g) p in
      cell_weighs s array (Three a b c) (v ∷ u ∷ t ∷ []) w (z.cells array)
      (subscripts-Three a b c s ∙ ap (λ (x : Answer ℤ). three_answers x (value_of b s) (value_of c s)) i ∙ ap (λ (y : Answer ℤ). three_answers (Ok v) y (value_of c s)) j ∙ ap (λ (y : Answer ℤ). three_answers (Ok v) (Ok u) y) r) f d
  weighs _ _ _ (neg a v n h) =
      let k = weighs a v n h in
      let c = k.covers in
      let m = abs-neg v in
      record { weight = k.weight; is = one_weighs s (Neg a) a negated v n (measure-Neg a s) k; covers = omega (arith, c, m); within = k.within }
  weighs _ _ _ (plus a b v u n m h k) =
      let x = weighs a v n h in
      let y = weighs b u m k in
      let p = x.within in
      let q = y.within in
      record { weight = x.weight + y.weight; is = two_weigh s (Plus a b) a b sum_of v u n m (measure-Plus a b s) x y; covers = abs-sum v u x.weight y.weight x.covers y.covers; within = omega (arith, p, q) }
  weighs _ _ _ (minus a b v u n m h k) =
      let x = weighs a v n h in
      let y = weighs b u m k in
      let p = x.within in
      let q = y.within in
      record { weight = x.weight + y.weight; is = two_weigh s (Minus a b) a b difference_of v u n m (measure-Minus a b s) x y; covers = abs-difference v u x.weight y.weight x.covers y.covers; within = omega (arith, p, q) }
  weighs _ _ _ (times c a v n h) =
      let k = weighs a v n h in
      record { weight = unsigned_abs c * k.weight; is = one_weighs s (Times c a) a (multiple_of c) v n (measure-Times c a s) k; covers = abs-product c v k.weight k.covers; within = mul-le-mul_left (unsigned_abs c) k.within }
  weighs _ _ _ (lesser a b v u n m h k) =
      let x = weighs a v n h in
      let y = weighs b u m k in
      let p = x.within in
      let q = y.within in
      record { weight = max x.weight y.weight; is = two_weigh s (Min a b) a b lesser_of v u n m (measure-Min a b s) x y; covers = abs-min v u x.weight y.weight x.covers y.covers; within = omega (arith, p, q) }
  weighs _ _ _ (greater a b v u n m h k) =
      let x = weighs a v n h in
      let y = weighs b u m k in
      let p = x.within in
      let q = y.within in
      record { weight = max x.weight y.weight; is = two_weigh s (Max a b) a b greater_of v u n m (measure-Max a b s) x y; covers = abs-max v u x.weight y.weight x.covers y.covers; within = omega (arith, p, q) }
  weighs _ _ _ (floor a d v n h l) =
      let k = weighs a v n h in
      let c = k.covers in
      let q = abs-quotient v d l in
      record { weight = k.weight; is = one_weighs s (Floor a d) a (λ x. floor_of x d) v n (measure-Floor a d s) k; covers = omega (arith, c, q); within = k.within }
  weighs _ _ _ (ceil a d v n h l) =
      let k = weighs a v n h in
      let c = k.covers in
      let q = abs-ceil v d l in
      record { weight = k.weight; is = one_weighs s (Ceil a d) a (λ x. ceil_of x d) v n (measure-Ceil a d s) k; covers = omega (arith, c, q); within = k.within }

pub small : SmallExpressionHasValue
small z s e v n h k =
    let w = weighs z s e v n h in
    let c = w.covers in
    let l = w.within in
    (small_value s e v n w k, omega arith)
