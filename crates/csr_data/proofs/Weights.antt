-- Values of expressions that fit parameters are at most as large as the expressions' sizes.
use Rattle.std.proofs.Common.{◌≡◌, ℕ, zero, suc, ◌+◌, ◌*◌, ◌≤◌, ◌^◌, max, ℤ, pos, negsuc, ◌+ℤ◌, ◌-ℤ◌, ◌*ℤ◌, neg_ℤ, unsigned_abs, Bool, true, false, ◌&&◌, List, Ok, Err, refl, sym, ap, ◌∙◌, subst, arith, mul-le-mul_left}
use Rattle.std.specs.Prelude.{int_le, nat_eq, nat_le, IsTrue}
use Rattle.std.specs.Int.{int_min, int_max, int_div_euclid}
use Rattle.std.proofs.lemmas.Int.{ints, clamps, unsigned_abs-mul}
use Rattle.std.proofs.Math.Nat.{div-le_self, le_trans}
use Rattle.std.proofs.lemmas.Bool.Decides.{nat_tests}
use Rattle.c_tree.specs.declared.index.Index.{Index}
use Rattle.c_tree.specs.declared.index.Index.TheVariants.{Const, Var, At, Neg, Plus, Minus, Times, Min, Max, Floor, Ceil}
use Rattle.c_tree.specs.declared.index.Cell.{Cell}
use Rattle.c_tree.specs.declared.index.Subscripts.{Subscripts, Subscripts-F, out-Subscripts}
use Rattle.c_tree.specs.declared.index.Index.TheOpen as layer
use Rattle.c_judge.specs.Limits.{size_of, unit}
use Rattle.c_judge.proofs.SizesAt.{size_const, size_var, size_neg, size_plus, size_minus, size_times, size_min, size_max, size_floor, size_ceil}
use Rattle.c_meaning.specs.Names.{Name}
use Rattle.c_meaning.specs.Scope.{Scope, fits, subscripts_fit, cell_fits}
use Rattle.c_meaning.specs.Weighed.{Weighed, greatest, plain, negated, sum_of, difference_of, multiple_of, lesser_of, greater_of, floor_of, ceil_of}
use Rattle.c_meaning.specs.Value.{Answer, ◌>>=◌, judged, measure, value_of, on_one, on_two}
use Rattle.c_meaning.proofs.Equations.{measure-Const, measure-Var, measure-Neg, measure-Plus, measure-Minus, measure-Times, measure-Min, measure-Max, measure-Floor, measure-Ceil, fits-At, fits-Neg, fits-Plus, fits-Minus, fits-Times, fits-Min, fits-Max, fits-Floor, fits-Ceil, cell_fits_is, subscripts_fit_at}
use Rattle.c_meaning.proofs.Fitting.{and_left, and_right}
use Rattle.csr_data.specs.declared.values.Parameter.{Parameter}
use Rattle.csr_data.specs.Parameters.{has, sight_of, AreSmall}
use Rattle.csr_data.specs.Signature.{is_small}
use Rattle.c_meaning.proofs.Indices.{Cases, induct}

-- a value that its weight covers, which is at most n
record IsWithin (n : ℕ) (w : Weighed) : Type 0 where
  covers : unsigned_abs w.value ≤ w.weight
  within : w.weight ≤ n

-- there is such a value
abbrev HasWeight : Answer Weighed → ℕ → Type 0
HasWeight (Ok w) n = IsWithin n w
HasWeight (Err e) n = ⊥

negated_within : (x : Weighed) (n : ℕ) → IsWithin n x → IsWithin n (negated x)
negated_within x n h = let c = h.covers in record { covers = grind (arith, ints, c); within = h.within }

sum_within : (x y : Weighed) (n m : ℕ) → IsWithin n x → IsWithin m y → IsWithin (n + m) (sum_of x y)
sum_within x y n m h k =
    let c = h.covers in
    let d = k.covers in
    let p = h.within in
    let q = k.within in
    record { covers = grind (arith, ints, c, d); within = omega (arith, p, q) }

difference_within : (x y : Weighed) (n m : ℕ) → IsWithin n x → IsWithin m y → IsWithin (n + m) (difference_of x y)
difference_within x y n m h k =
    let c = h.covers in
    let d = k.covers in
    let p = h.within in
    let q = k.within in
    record { covers = grind (arith, ints, c, d); within = omega (arith, p, q) }

multiple_within : (f : ℤ) (x : Weighed) (n : ℕ) → IsWithin n x → IsWithin (unsigned_abs f * n) (multiple_of f x)
multiple_within f x n h = record { covers = rw (unsigned_abs-mul f x.value) (mul-le-mul_left (unsigned_abs f) h.covers); within = mul-le-mul_left (unsigned_abs f) h.within }

lesser_within : (x y : Weighed) (n m : ℕ) → IsWithin n x → IsWithin m y → IsWithin (max n m) (lesser_of x y)
lesser_within x y n m h k =
    let c = h.covers in
    let d = k.covers in
    let p = h.within in
    let q = k.within in
    record { covers = omega (arith, ints, clamps, c, d); within = omega (arith, p, q) }

greater_within : (x y : Weighed) (n m : ℕ) → IsWithin n x → IsWithin m y → IsWithin (max n m) (greater_of x y)
greater_within x y n m h k =
    let c = h.covers in
    let d = k.covers in
    let p = h.within in
    let q = k.within in
    record { covers = omega (arith, ints, clamps, c, d); within = omega (arith, p, q) }

quotient : (v d : ℤ) → int_le (pos 1) d ≡ true → unsigned_abs (int_div_euclid v d) ≤ unsigned_abs v
quotient v (pos zero) h = cc
quotient v (negsuc d) h = cc
quotient (pos a) (pos (suc n)) h = let q = div-le_self a (suc n) in omega (arith, ints, q)
quotient (negsuc a) (pos (suc n)) h = let q = div-le_self a (suc n) in omega (arith, ints, q)

floor_within : (x : Weighed) (d : ℤ) (n : ℕ) → int_le (pos 1) d ≡ true → IsWithin n x → IsWithin n (floor_of x d)
floor_within x d n e h = let c = h.covers in let q = quotient x.value d e in record { covers = omega (arith, c, q); within = h.within }

ceil_within : (x : Weighed) (d : ℤ) (n : ℕ) → int_le (pos 1) d ≡ true → IsWithin n x → IsWithin n (ceil_of x d)
ceil_within x d n e h = negated_within (floor_of (negated x) d) n (floor_within (negated x) d n e (negated_within x n h))

on_one_within : (f : Weighed → Weighed) (a : Answer Weighed) (n k : ℕ) → ((x : Weighed) → IsWithin n x → IsWithin k (f x)) → HasWeight a n → HasWeight (on_one f a) k
on_one_within f (Ok x) n k step h = step x h
on_one_within f (Err e) n k step h = absurd h

on_two_within : (f : Weighed → Weighed → Weighed) (a b : Answer Weighed) (n m k : ℕ) → ((x y : Weighed) → IsWithin n x → IsWithin m y → IsWithin k (f x y)) → HasWeight a n → HasWeight b m → HasWeight (on_two f a b) k
on_two_within f (Ok x) (Ok y) n m k step h g = step x y h g
on_two_within f (Ok x) (Err e) n m k step h g = absurd g
on_two_within f (Err e) b n m k step h g = absurd h

judged_one : (w : Weighed) → w.weight ≤ 2 ^ 41 → unsigned_abs w.value ≤ w.weight → is_small (judged w) ≡ true
judged_one w le covers =
    let most : nat_le w.weight greatest ≡ true = grind (arith, nat_tests, le) in
    let size : unsigned_abs w.value ≤ 2 ^ 41 = le_trans covers le in
    rw most (grind (arith, nat_tests, size))

judged_small : (a : Answer Weighed) (n : ℕ) → n ≤ 2 ^ 41 → HasWeight a n → is_small (a >>= judged) ≡ true
judged_small (Ok w) n le h = judged_one w (le_trans h.within le) h.covers
judged_small (Err e) n le h = absurd h

-- parameters alone
abbrev pub alone : List Name → Scope
alone xs = record { numbers = has xs; index_arrays = λ a. 0; data_arrays = λ a. 0 }

module _ (xs : List Name) (vs : List Parameter) (small : AreSmall vs) where
  abbrev Weighs : Index → Type 0
  Weighs e = fits e (alone xs) ≡ true → HasWeight (measure e (sight_of vs)) (size_of e)

  moved : (e : Index) (a : Answer Weighed) (n : ℕ) → measure e (sight_of vs) ≡ a → size_of e ≡ n → HasWeight a n → HasWeight (measure e (sight_of vs)) (size_of e)
  moved e a n i s h = subst (λ (b : Answer Weighed). HasWeight b (size_of e)) (sym i) (subst (HasWeight a) (sym s) h)

  one : (e a : Index) (f : Weighed → Weighed) (n : ℕ) → measure e (sight_of vs) ≡ on_one f (measure a (sight_of vs)) → size_of e ≡ n → (fits e (alone xs) ≡ true → fits a (alone xs) ≡ true)
      → (fits e (alone xs) ≡ true → (x : Weighed) → IsWithin (size_of a) x → IsWithin n (f x)) → Weighs a → Weighs e
  one e a f n i s part step h fit = moved e _ n i s (on_one_within f (measure a (sight_of vs)) (size_of a) n (step fit) (h (part fit)))

  two : (e a b : Index) (f : Weighed → Weighed → Weighed) (n : ℕ) → measure e (sight_of vs) ≡ on_two f (measure a (sight_of vs)) (measure b (sight_of vs)) → size_of e ≡ n → fits e (alone xs) ≡ (fits a (alone xs) && fits b (alone xs))
      → ((x y : Weighed) → IsWithin (size_of a) x → IsWithin (size_of b) y → IsWithin n (f x y)) → Weighs a → Weighs b → Weighs e
  two e a b f n i s parts step h k fit =
      let all = sym parts ∙ fit in
      moved e _ n i s (on_two_within f (measure a (sight_of vs)) (measure b (sight_of vs)) (size_of a) (size_of b) n step
      (h (and_left (fits a (alone xs)) (fits b (alone xs)) all)) (k (and_right (fits a (alone xs)) (fits b (alone xs)) all)))

  none_at : (s : Subscripts) (d : Subscripts-F Index Subscripts Cell) → out-Subscripts s ≡ d → subscripts_fit s (alone xs) 0 ≡ true → ⊥
  none_at s (layer.One i) h k = (let e = sym (subscripts_fit_at s (layer.One i) h (alone xs) 0) ∙ k in cc)
  none_at s (layer.Two i j) h k = (let e = sym (subscripts_fit_at s (layer.Two i j) h (alone xs) 0) ∙ k in cc)
  none_at s (layer.Three i j l) h k = (let e = sym (subscripts_fit_at s (layer.Three i j l) h (alone xs) 0) ∙ k in cc)

  no_cell : (c : Cell) → Weighs (At c)
  no_cell c fit = absurd (none_at c.at _ refl (sym (cell_fits_is c (alone xs)) ∙ sym (fits-At c (alone xs)) ∙ fit))

  weighs : (e : Index) → Weighs e
  weighs = induct Weighs (record {
    constant = λ n fit. moved (Const n) _ _ (measure-Const n (sight_of vs)) (size_const n) (record { covers = omega arith; within = omega arith });
    name = λ x fit. let s = small x in moved (Var x) _ _ (measure-Var x (sight_of vs)) (size_var x) (record { covers = omega arith; within = omega (arith, ints, s) });
    cell = no_cell;
    negated = λ a. one (Neg a) a negated _ (measure-Neg a (sight_of vs)) (size_neg a) (λ fit. sym (fits-Neg a (alone xs)) ∙ fit) (λ fit x. negated_within x (size_of a));
    sum = λ a b. two (Plus a b) a b sum_of _ (measure-Plus a b (sight_of vs)) (size_plus a b) (fits-Plus a b (alone xs)) (λ x y. sum_within x y (size_of a) (size_of b));
    difference = λ a b. two (Minus a b) a b difference_of _ (measure-Minus a b (sight_of vs)) (size_minus a b) (fits-Minus a b (alone xs)) (λ x y. difference_within x y (size_of a) (size_of b));
    product = λ n a. one (Times n a) a (multiple_of n) _ (measure-Times n a (sight_of vs)) (size_times n a) (λ fit. sym (fits-Times n a (alone xs)) ∙ fit) (λ fit x. multiple_within n x (size_of a));
    lesser = λ a b. two (Min a b) a b lesser_of _ (measure-Min a b (sight_of vs)) (size_min a b) (fits-Min a b (alone xs)) (λ x y. lesser_within x y (size_of a) (size_of b));
    greater = λ a b. two (Max a b) a b greater_of _ (measure-Max a b (sight_of vs)) (size_max a b) (fits-Max a b (alone xs)) (λ x y. greater_within x y (size_of a) (size_of b));
    floor = λ a d. one (Floor a d) a (λ x. floor_of x d) _ (measure-Floor a d (sight_of vs)) (size_floor a d) (λ fit. and_right (int_le (pos 1) d) (fits a (alone xs)) (sym (fits-Floor a d (alone xs)) ∙ fit))
        (λ fit x. floor_within x d (size_of a) (and_left (int_le (pos 1) d) (fits a (alone xs)) (sym (fits-Floor a d (alone xs)) ∙ fit)));
    ceil = λ a d. one (Ceil a d) a (λ x. ceil_of x d) _ (measure-Ceil a d (sight_of vs)) (size_ceil a d) (λ fit. and_right (int_le (pos 1) d) (fits a (alone xs)) (sym (fits-Ceil a d (alone xs)) ∙ fit))
        (λ fit x. ceil_within x d (size_of a) (and_left (int_le (pos 1) d) (fits a (alone xs)) (sym (fits-Ceil a d (alone xs)) ∙ fit)));
  })

  -- of an expression with a small size the value is small
  pub small_value : (e : Index) → fits e (alone xs) ≡ true → size_of e ≤ 2 ^ 41 → is_small (value_of e (sight_of vs)) ≡ true
  small_value e fit le = judged_small (measure e (sight_of vs)) (size_of e) le (weighs e fit)
