-- Printed bounds and tests have the values of their rows.
use Rattle.std.proofs.Common.{◌≡◌, ℕ, ◌+◌, ◌≤◌, ◌^◌, List, [], refl, sym, ◌∙◌, ap, subst, arith, ℤ, pos, negsuc, ◌+ℤ◌, neg_ℤ, ◌≤ℤ◌, unsigned_abs, Bool, true, false, cond, div-one, T}
use Rattle.std.specs.Prelude.{Result, Ok, Err, nat_le}
use Rattle.std.specs.Ordering.{int_eq}
use Rattle.std.specs.Int.{int_div_euclid, w128, saturate_signed}
use Rattle.std.specs.Int.Signed.{le_z, le_z_yes}
use Rattle.std.proofs.lemmas.Int.{ints}
use Rattle.std.proofs.lemmas.Bool.Decides.{Decides-int_eq, nat_tests}
use Rattle.c_tree.specs.declared.index.Index.{Index}
use Rattle.c_tree.specs.declared.index.Index.TheVariants.{Const, Plus, Floor, Ceil}
use Rattle.c_tree.specs.declared.statement.Cmp.TheVariants.{Same, AtLeast}
use Rattle.c_tree.specs.declared.statement.Test.{Test}
use Rattle.c_meaning.specs.Weighed.{greatest}
use Rattle.c_meaning.specs.Value.{Sight, Answer, ◌>>=◌, compares, value_of, holds}
use Rattle.int_rows.specs.Rows.{dot, Holds}
use Rattle.nest_core.specs.Making.{after}
use Rattle.nest_tree.specs.declared.kernel.Kernel.{Kernel}
use Rattle.nest_tree.specs.Loops.{Levels}
use Rattle.nest_tree.specs.Terms.{Input}
use Rattle.nest_laws.specs.Weights.{const, plus, floor, ceil}
use Rattle.nest_laws.proofs.Weights.{small}
use Rattle.print_laws.specs.Printed.{IsSized}
use Rattle.scan_forms.specs.declared.affine.Affine.{Affine}
use Rattle.scan_forms.specs.declared.bounds.Bound.{Bound}
use Rattle.scan_forms.specs.declared.reads.Read.{Read}
use Rattle.scan_forms.specs.declared.fault.ScanFault.{ScanFault}
use Rattle.scan_forms.specs.declared.fault.ScanFault.TheVariants.{Size}
use Rattle.scan_forms.specs.Numbers.{next}
use Rattle.scan_forms.specs.Forms.{plus_one}
use Rattle.scan_forms.specs.Sums.{printed_size, judged_size}
use Rattle.scanning.specs.Sizes.{Sizes}
use Rattle.scanning.specs.Written.{size_of, form_printed, lower_printed, quotient_printed, upper_printed}
use Rattle.scanning_laws.specs.Tested.{TestsSay}
use Rattle.scanning_laws.specs.Valued.{values_from}
use Rattle.printed_laws.specs.Printed.{AreDistinct, Sees, seen_sizes, CanBeRead}
use Rattle.printed_laws.specs.Laws.{worth, low_value, high_value, HasValue, PrintedFormsHaveValues, PrintedBoundsHaveValues, PrintedTestsSay}
use Rattle.printed_laws.proofs.Parts.{ok_same}
use Rattle.scanning_laws.proofs.Derived.{came}
use Rattle.printed_laws.proofs.Cells.{printed_form}

-- ---- numbers
size_is : (st : ℕ) (c y : ℤ) → printed_size st c ≡ Ok y → pos (unsigned_abs c) ≡ y
unfolding printed_size
size_is st c y h = passed (nat_le (unsigned_abs c) (2 ^ 62)) h
  where
    passed : (b : Bool) → cond b (Ok (pos (unsigned_abs c))) (let r : Result ℤ ScanFault = Err (Size st) in r) ≡ Ok y → pos (unsigned_abs c) ≡ y
    passed true h = ok_same (pos (unsigned_abs c)) y h
    passed false h = cc

judged_is : (st n : ℕ) (u : Unit {0}) → judged_size st n ≡ Ok u → n ≤ greatest
judged_is st n u h = passed (nat_le n (2 ^ 62)) (λ e. is_small n e) h
  where
    is_small : (n : ℕ) → nat_le n (2 ^ 62) ≡ true → n ≤ greatest
    is_small n e = grind (arith, nat_tests, e)

    passed : (b : Bool) → (b ≡ true → n ≤ greatest) → cond b (Ok tt) (let r : Result (Unit {0}) ScanFault = Err (Size st) in r) ≡ Ok u → n ≤ greatest
    passed true k h = k refl
    passed false k h = cc

true_is : (b : Bool) → T b → b ≡ true
true_is true t = refl
true_is false t = absurd t

pub int_le_says : (a b : ℤ) → (le_z a b ≡ true → a ≤ℤ b) × (a ≤ℤ b → le_z a b ≡ true)
int_le_says a b = (λ h. le_z_yes (subst T (sym h) tt), λ h. true_is (le_z a b) h.le)

positive_is : (d : ℤ) → pos 1 ≤ℤ d → pos (unsigned_abs d) ≡ d
positive_is d h = omega (arith, ints, h)

by_one : (v : ℤ) → int_div_euclid v (pos 1) ≡ v
by_one (pos a) = ap pos (div-one a)
by_one (negsuc a) = ap negsuc (div-one a)

low_by_one : (v d : ℤ) → d ≡ pos 1 → low_value v d ≡ v
low_by_one v d h = ap (low_value v) h ∙ ap neg_ℤ (by_one (neg_ℤ v)) ∙ twice v
  where
    twice : (v : ℤ) → neg_ℤ (neg_ℤ v) ≡ v
    twice v = omega (arith, ints)

high_by_one : (v d : ℤ) → d ≡ pos 1 → high_value v d ≡ v +ℤ pos 1
high_by_one v d h = ap (high_value v) h ∙ ap (λ (x : ℤ). x +ℤ pos 1) (by_one v)

within_limit : (z : ℤ) → unsigned_abs (saturate_signed w128 z) ≤ 2 ^ 62 → saturate_signed w128 z ≡ z
within_limit (pos n) h = ap pos (omega (arith, h))
within_limit (negsuc n) h = ap negsuc (omega (arith, h))

next_is : (c : ℤ) (a b n : ℕ) → a + b + n + unsigned_abs (next c) ≤ greatest → next c ≡ c +ℤ pos 1
next_is c a b n h = within_limit (c +ℤ pos 1) (omega (arith, h))

pub has_value : (k : Kernel) (s : Sight) (x : Index) (v : ℤ) (m : ℕ) → IsSized (seen_sizes k s) s m x v → m ≤ greatest → HasValue k s x v m
has_value k s x v m h l = record { sized = h; small = l; value = (small (seen_sizes k s) s x v h.0 h.1 (let k = h.2 in omega (arith, k, l))).0 }

module _ (k : Kernel) (table : List Read) (order : List ℕ) (sizes : Sizes) (n : ℕ) (s : Sight) (i : Input) (e : Levels) (w : Sees k i sizes e s) (d : AreDistinct order) where
  form_has : (f : Affine) (x : Index) → CanBeRead i table e f → form_printed k table order sizes n f ≡ Ok x → HasValue k s x (worth i table e f) (size_of k table order sizes n f)
  form_has f x c h = let r = printed_form k table order sizes n s i e w d f x c h in has_value k s x (worth i table e f) (size_of k table order sizes n f) r.0 r.1

  same_value : (x y : Index) (v u : ℤ) (m l : ℕ) → (x, m) ≡ (let p : Index × ℕ = (y, l) in p) → v ≡ u → HasValue k s x v m → HasValue k s y u l
  same_value x y v u m l p q h =
      subst (λ (t : ℤ). HasValue k s y t l) q (subst (λ (t : Index × ℕ). HasValue k s t.0 v t.1) p h)

  -- the divisor is printed as it is
  divisor_is : (b : Bound) (q : ℤ) → pos 1 ≤ℤ b.divisor → printed_size n b.divisor ≡ Ok q → q ≡ b.divisor
  divisor_is b q one h = sym (size_is n b.divisor q h) ∙ positive_is b.divisor one

  -- ---- lower bounds
  low_by : (b : Bound) (y x : Index) (v : ℤ) (l m : ℕ) → pos 1 ≤ℤ b.divisor → HasValue k s y v l → (t : Bool) → (t ≡ true → b.divisor ≡ pos 1)
      → (elim t as (λ c. Result (Index × ℕ) ScanFault) [
        | true ↦ Ok (y, l)
        | false ↦ after (printed_size n b.divisor) (λ q. Ok (Ceil y q, l))
      ]) ≡ Ok (x, m) → HasValue k s x (low_value v b.divisor) m
  low_by b y x v l m one a true t h = same_value y x v (low_value v b.divisor) l m (ok_same (y, l) (x, m) h) (sym (low_by_one v b.divisor (t refl))) a
  low_by b y x v l m one a false t h =
      let c = came (printed_size n b.divisor) (λ q. (let r : Result (Index × ℕ) ScanFault = Ok (Ceil y q, l) in r)) (x, m) h in
      let is = divisor_is b c.value one c.is in
      let z = a.sized in
      same_value (Ceil y c.value) x (low_value v c.value) (low_value v b.divisor) l m (ok_same (Ceil y c.value, l) (x, m) c.then) (ap (low_value v) is)
      (has_value k s (Ceil y c.value) (low_value v c.value) l (z.0, ceil y c.value v z.0 z.1 (subst (λ (q : ℤ). pos 1 ≤ℤ q) (sym is) one), z.2) a.small)

  low_has : (b : Bound) (x : Index) (m : ℕ) → CanBeRead i table e b.form → pos 1 ≤ℤ b.divisor → lower_printed k table order sizes n b ≡ Ok (x, m)
      → HasValue k s x (low_value (worth i table e b.form) b.divisor) m
  low_has b x m c one h =
      let a = came (form_printed k table order sizes n b.form) (λ y. elim (int_eq b.divisor (pos 1)) as (λ c. Result (Index × ℕ) ScanFault) [
        | true ↦ Ok (y, size_of k table order sizes n b.form)
        | false ↦ after (printed_size n b.divisor) (λ q. Ok (Ceil y q, size_of k table order sizes n b.form))
      ]) (x, m) h in
      low_by b a.value x (worth i table e b.form) (size_of k table order sizes n b.form) m one (form_has b.form a.value c a.is)
      (int_eq b.divisor (pos 1)) (λ t. (Decides-int_eq b.divisor (pos 1)).0 t) a.then

  -- ---- upper bounds
  quotient_has : (b : Bound) (x : Index) (m : ℕ) → CanBeRead i table e b.form → pos 1 ≤ℤ b.divisor → quotient_printed k table order sizes n b ≡ Ok (x, m)
      → HasValue k s x (high_value (worth i table e b.form) b.divisor) m
  quotient_has b x m c one h =
      let l = size_of k table order sizes n b.form in
      let v = worth i table e b.form in
      let made : ℤ → Index → Result (Index × ℕ) ScanFault = λ q y. Ok (Plus (Floor y q) (Const (pos 1)), l + 1) in
      let a = came (judged_size n (l + 1)) (λ u. after (printed_size n b.divisor) (λ q. after (form_printed k table order sizes n b.form) (made q))) (x, m) h in
      let g = came (printed_size n b.divisor) (λ q. after (form_printed k table order sizes n b.form) (made q)) (x, m) a.then in
      let f = came (form_printed k table order sizes n b.form) (made g.value) (x, m) g.then in
      let is = divisor_is b g.value one g.is in
      let z = (form_has b.form f.value c f.is).sized in
      same_value (Plus (Floor f.value g.value) (Const (pos 1))) x (high_value v g.value) (high_value v b.divisor) (l + 1) m (ok_same (Plus (Floor f.value g.value) (Const (pos 1)), l + 1) (x, m) f.then) (ap (high_value v) is)
      (has_value k s (Plus (Floor f.value g.value) (Const (pos 1))) (high_value v g.value) (l + 1)
      (z.0 + 1, plus (Floor f.value g.value) (Const (pos 1)) (int_div_euclid v g.value) (pos 1) z.0 1 (floor f.value g.value v z.0 z.1 (subst (λ (q : ℤ). pos 1 ≤ℤ q) (sym is) one)) (const (pos 1)), (let y = z.2 in omega (arith, y)))
      (judged_is n (l + 1) a.value a.is))

  -- a form with 1 more
  one_more : (f : Affine) (x : Index) → CanBeRead i table e f → form_printed k table order sizes n (plus_one f) ≡ Ok x → HasValue k s x (worth i table e f +ℤ pos 1) (size_of k table order sizes n (plus_one f))
  one_more f x c h =
      let r = form_has (plus_one f) x (record { found = c.found; before = c.before }) h in
      let m = next_is f.constant _ _ _ r.small in
      same_value x x (worth i table e (plus_one f)) (worth i table e f +ℤ pos 1) (size_of k table order sizes n (plus_one f)) (size_of k table order sizes n (plus_one f)) refl
      (moved (dot f.params i.params) (dot f.levels e) (dot f.reads (values_from i e [] table)) f.constant (next f.constant) m) r
    where
      moved : (p l r c u : ℤ) → u ≡ c +ℤ pos 1 → p +ℤ (l +ℤ (r +ℤ u)) ≡ (p +ℤ (l +ℤ (r +ℤ c))) +ℤ pos 1
      moved p l r c u h = omega (arith, ints, h)

  high_by : (b : Bound) (x : Index) (m : ℕ) → CanBeRead i table e b.form → pos 1 ≤ℤ b.divisor → (t : Bool) → (t ≡ true → b.divisor ≡ pos 1)
      → (elim t as (λ c. Result (Index × ℕ) ScanFault) [
        | true ↦ after (form_printed k table order sizes n (plus_one b.form)) (λ y. Ok (y, size_of k table order sizes n (plus_one b.form)))
        | false ↦ quotient_printed k table order sizes n b
      ]) ≡ Ok (x, m) → HasValue k s x (high_value (worth i table e b.form) b.divisor) m
  high_by b x m c one true t h =
      let l = size_of k table order sizes n (plus_one b.form) in
      let v = worth i table e b.form in
      let a = came (form_printed k table order sizes n (plus_one b.form)) (λ y. (let r : Result (Index × ℕ) ScanFault = Ok (y, l) in r)) (x, m) h in
      same_value a.value x (v +ℤ pos 1) (high_value v b.divisor) l m (ok_same (a.value, l) (x, m) a.then) (sym (high_by_one v b.divisor (t refl))) (one_more b.form a.value c a.is)
  high_by b x m c one false t h = quotient_has b x m c one h

  high_has : (b : Bound) (x : Index) (m : ℕ) → CanBeRead i table e b.form → pos 1 ≤ℤ b.divisor → upper_printed k table order sizes n b ≡ Ok (x, m)
      → HasValue k s x (high_value (worth i table e b.form) b.divisor) m
  high_has b x m c one h = high_by b x m c one (int_eq b.divisor (pos 1)) (λ t. (Decides-int_eq b.divisor (pos 1)).0 t) h

  -- ---- tests
  test_is : (t : Test) (v u : ℤ) → value_of t.left s ≡ Ok v → value_of t.right s ≡ Ok u → holds t s ≡ Ok (compares t.cmp v u)
  test_is t v u p q =
      ap (λ (a : Answer ℤ). a >>= (λ x. value_of t.right s >>= (λ y. Ok (compares t.cmp x y)))) p ∙ ap (λ (a : Answer ℤ). a >>= (λ y. Ok (compares t.cmp v y))) q

  compared : (equal : Bool) (v : ℤ) → (compares (cond equal Same AtLeast) v (pos 0) ≡ true → Holds equal v) × (Holds equal v → compares (cond equal Same AtLeast) v (pos 0) ≡ true)
  compared true v = Decides-int_eq v (pos 0)
  compared false v = int_le_says (pos 0) v

  test_says : TestsSay k table order sizes n (λ x. CanBeRead i table e x.form) (λ x. Holds x.equal (worth i table e x.form)) s
  test_says x t h c =
      let v = worth i table e x.form in
      let made : Index → Test = λ y. record { left = y; cmp = cond x.equal Same AtLeast; right = Const (pos 0) } in
      let a = came (form_printed k table order sizes n x.form) (λ y. (let r : Result Test ScanFault = Ok (made y) in r)) t h in
      let f = form_has x.form a.value c a.is in
      let z = has_value k s (Const (pos 0)) (pos 0) 0 (0, const (pos 0), omega arith) (omega arith) in
      let r = compared x.equal v in (
        compares (cond x.equal Same AtLeast) v (pos 0),
        subst (λ (u : Test). holds u s ≡ Ok (compares (cond x.equal Same AtLeast) v (pos 0))) (ok_same (made a.value) t a.then) (test_is (made a.value) v (pos 0) f.value z.value),
        r.0,
        r.1,
      )

pub forms_have_values : PrintedFormsHaveValues
forms_have_values k table order sizes n s i e w d f x c h = form_has k table order sizes n s i e w d f x c h

pub bounds_have_values : PrintedBoundsHaveValues
bounds_have_values k table order sizes n s i e w d b x m c one = (low_has k table order sizes n s i e w d b x m c one, high_has k table order sizes n s i e w d b x m c one)

pub tests_say : PrintedTestsSay
tests_say k table order sizes n s i e w d = test_says k table order sizes n s i e w d
