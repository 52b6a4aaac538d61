-- Sums that are printed part by part.
use Rattle.std.proofs.Common.{◌≡◌, ◌⊎◌, inl, inr, ℕ, suc, ◌+◌, ◌*◌, ◌≤◌, ◌^◌, refl, sym, ◌∙◌, ap, subst, arith, ℤ, pos, negsuc, ◌+ℤ◌, ◌-ℤ◌, ◌*ℤ◌, neg_ℤ, unsigned_abs, Bool, true, false, cond, tests}
use Rattle.std.specs.Prelude.{Option, Some, None, Result, Ok, Err, nat_le}
use Rattle.std.specs.Ordering.{int_eq}
use Rattle.std.specs.Int.Signed.{lt_z}
use Rattle.std.proofs.lemmas.Int.{ints}
use Rattle.std.proofs.lemmas.Bool.{cases_Bool}
use Rattle.std.proofs.lemmas.Bool.Decides.{Decides-int_eq}
use Rattle.chill_base.proofs.Ring.{neg_times}
use Rattle.c_tree.specs.declared.index.Index.{Index}
use Rattle.c_tree.specs.declared.index.Index.TheVariants.{Const, Times}
use Rattle.c_meaning.specs.Value.{Sight}
use Rattle.nest_core.specs.Making.{after}
use Rattle.nest_laws.specs.Weights.{Sizes, HasSize, const, neg, plus, minus, times}
use Rattle.print_laws.specs.Printed.{IsSized}
use Rattle.scan_forms.specs.declared.fault.ScanFault.{ScanFault}
use Rattle.scan_forms.specs.declared.fault.ScanFault.TheVariants.{Size}
use Rattle.scan_forms.specs.Numbers.{is_zero}
use Rattle.scan_forms.specs.Sums.{printed_size, multiple, first_part, next_part, joined, with_summand, closed, with_constant}

abbrev ok_in : {A E : Type 0} → A → Result A E → A
ok_in d (Ok x) = x
ok_in d (Err e) = d

pub ok_same : {A E : Type 0} (x y : A) → (let r : Result A E = Ok x in r) ≡ Ok y → x ≡ y
ok_same x y h = ap (ok_in x) h

module _ (z : Sizes) (s : Sight) where
  -- what a sum is so far: its value, and a size that it keeps to
  abbrev pub IsPart : Option Index → ℤ → ℕ → Type 0
  IsPart None v n = v ≡ pos 0
  IsPart (Some x) v n = IsSized z s n x v

  pub sized-more : (x : Index) (v w : ℤ) (n m : ℕ) → v ≡ w → n ≤ m → IsSized z s n x v → IsSized z s m x w
  sized-more x v w n m e l h = let k = h.2 in (h.0, subst (λ (u : ℤ). HasSize z s x u h.0) e h.1, omega (arith, k, l))

  pub part-more : (o : Option Index) (v w : ℤ) (n m : ℕ) → v ≡ w → n ≤ m → IsPart o v n → IsPart o w m
  part-more None v w n m e l h = sym e ∙ h
  part-more (Some x) v w n m e l h = sized-more x v w n m e l h

  -- 1 in front isn't printed
  multiple_is : (c : ℤ) (x : Index) (w : ℤ) (m : ℕ) → IsSized z s m x w → IsSized z s (unsigned_abs c * m) (multiple c x) (c *ℤ w)
  multiple_is c x w m h = chosen (int_eq c (pos 1)) (λ e. (Decides-int_eq c (pos 1)).0 e)
    where
      within : (k : ℕ) → k ≤ m → unsigned_abs c * k ≤ unsigned_abs c * m
      within k l = grind (arith, l)

      one : (w : ℤ) → w ≡ pos 1 *ℤ w
      one w = omega (arith, ints)

      once : (c : ℤ) → c ≡ pos 1 → m ≤ unsigned_abs c * m
      once c e = rw e (omega arith)

      chosen : (b : Bool) → (b ≡ true → c ≡ pos 1) → IsSized z s (unsigned_abs c * m) (cond b x (Times c x)) (c *ℤ w)
      chosen true e = sized-more x w (c *ℤ w) m (unsigned_abs c * m) (one w ∙ ap (λ (y : ℤ). y *ℤ w) (sym (e refl))) (once c (e refl)) h
      chosen false e = (unsigned_abs c * h.0, times c x w h.0 h.1, within h.0 h.2)

  abbrev signed : Bool → ℤ → ℤ
  signed b v = cond b (neg_ℤ v) v

  -- one part more
  joined_is : (o : Option Index) (b : Bool) (x : Index) (v w : ℤ) (n m : ℕ) → IsPart o v n → IsSized z s m x w → IsSized z s (n + m) (joined o b x) (v +ℤ signed b w)
  joined_is None false x v w n m h k = sized-more x w (v +ℤ w) m (n + m) (sum_zero v w h) (omega arith) k
    where
      sum_zero : (v w : ℤ) → v ≡ pos 0 → w ≡ v +ℤ w
      sum_zero v w h = omega (arith, ints, h)
  joined_is None true x v w n m h k = (k.0, subst (λ (u : ℤ). HasSize z s (first_part true x) u k.0) (sum_zero v (neg_ℤ w) h) (neg x w k.0 k.1), (let l = k.2 in omega (arith, l)))
    where
      sum_zero : (v w : ℤ) → v ≡ pos 0 → w ≡ v +ℤ w
      sum_zero v w h = omega (arith, ints, h)
  joined_is (Some y) false x v w n m h k = (h.0 + k.0, plus y x v w h.0 k.0 h.1 k.1, (let l = k.2 in let p = h.2 in omega (arith, l, p)))
  joined_is (Some y) true x v w n m h k = (
    h.0 + k.0,
    subst (λ (u : ℤ). HasSize z s (next_part y true x) u (h.0 + k.0)) (taken v w) (minus y x v w h.0 k.0 h.1 k.1),
    (let l = k.2 in let p = h.2 in omega (arith, l, p)),
  )
    where
      taken : (v w : ℤ) → v -ℤ w ≡ v +ℤ neg_ℤ w
      taken v w = omega (arith, ints)

  not_below : (n : ℕ) → lt_z (pos n) (pos 0) ≡ false
  not_below n = grind (arith, tests)

  -- a number by its sign and its size
  signed_is : (c w : ℤ) → signed (lt_z c (pos 0)) (pos (unsigned_abs c) *ℤ w) ≡ c *ℤ w
  signed_is (pos n) w = ap (λ (b : Bool). signed b (pos n *ℤ w)) (not_below n)
  signed_is (negsuc n) w = sym (neg_times (pos (suc n)) w)

  -- what is printed where the size isn't too great
  size_passed : {A : Type 0} (st : ℕ) (c : ℤ) (f : ℤ → A) (y : A) → after (printed_size st c) (λ n. (let r : Result A ScanFault = Ok (f n) in r)) ≡ Ok y → f (pos (unsigned_abs c)) ≡ y
  unfolding printed_size
  size_passed {A} st c f y h = passed (nat_le (unsigned_abs c) (2 ^ 62)) h
    where
      passed : (b : Bool) → after (cond b (Ok (pos (unsigned_abs c))) (let r : Result ℤ ScanFault = Err (Size st) in r)) (λ n. (let r : Result A ScanFault = Ok (f n) in r)) ≡ Ok y → f (pos (unsigned_abs c)) ≡ y
      passed true h = ok_same (f (pos (unsigned_abs c))) y h
      passed false h = cc

  -- a multiple of a factor more; one of 0 needs no factor
  pub summand_is : (st : ℕ) (o q : Option Index) (c : ℤ) (x : Index) (v w : ℤ) (n m : ℕ) → with_summand st o c x ≡ Ok q → IsPart o v n → ((c ≡ pos 0 → ⊥) → IsSized z s m x w) → IsPart q (v +ℤ c *ℤ w) (n + unsigned_abs c * m)
  unfolding with_summand
  summand_is st o q c x v w n m h p k =
      let e = size_passed st c (λ n. cond (is_zero n) o (Some (joined o (lt_z c (pos 0)) (multiple n x)))) q h in
      subst (λ (u : Option Index). IsPart u (v +ℤ c *ℤ w) (n + unsigned_abs c * m)) e (by_size (cases_Bool (is_zero (pos (unsigned_abs c)))))
    where
      none : (c : ℤ) → pos (unsigned_abs c) ≡ pos 0 → c ≡ pos 0
      none c e = omega (arith, ints, e)

      nothing : (c v w : ℤ) → c ≡ pos 0 → v ≡ v +ℤ c *ℤ w
      nothing c v w e = let l : v ≡ v +ℤ pos 0 *ℤ w = omega (arith, ints) in l ∙ ap (λ (y : ℤ). v +ℤ y *ℤ w) (sym e)

      not_none : (c : ℤ) → is_zero (pos (unsigned_abs c)) ≡ false → c ≡ pos 0 → ⊥
      not_none c f e = absurd (let g : is_zero (pos 0) ≡ false = ap (λ (y : ℤ). is_zero (pos (unsigned_abs y))) (sym e) ∙ f in cc)

      by_size : (is_zero (pos (unsigned_abs c)) ≡ true) ⊎ (is_zero (pos (unsigned_abs c)) ≡ false)
          → IsPart (cond (is_zero (pos (unsigned_abs c))) o (Some (joined o (lt_z c (pos 0)) (multiple (pos (unsigned_abs c)) x)))) (v +ℤ c *ℤ w) (n + unsigned_abs c * m)
      by_size (inl t) = rw t (part-more o v (v +ℤ c *ℤ w) n (n + unsigned_abs c * m) (nothing c v w (none c ((Decides-int_eq (pos (unsigned_abs c)) (pos 0)).0 t))) (omega arith) p)
      by_size (inr f) = rw f (
          let g = k (not_none c f) in
          sized-more (joined o (lt_z c (pos 0)) (multiple (pos (unsigned_abs c)) x)) (v +ℤ signed (lt_z c (pos 0)) (pos (unsigned_abs c) *ℤ w)) (v +ℤ c *ℤ w) (n + unsigned_abs c * m) (n + unsigned_abs c * m)
          (ap (λ (y : ℤ). v +ℤ y) (signed_is c w)) (omega arith)
          (joined_is o (lt_z c (pos 0)) (multiple (pos (unsigned_abs c)) x) v (pos (unsigned_abs c) *ℤ w) n (unsigned_abs c * m) p (multiple_is (pos (unsigned_abs c)) x w m g)))

  -- the constant; 0 isn't printed behind others
  pub constant_is : (st : ℕ) (o : Option Index) (c : ℤ) (x : Index) (v : ℤ) (n : ℕ) → with_constant st o c ≡ Ok x → IsPart o v n → IsSized z s (n + unsigned_abs c) x (v +ℤ c)
  unfolding with_constant
  constant_is st o c x v n h p =
      subst (λ (u : Index). IsSized z s (n + unsigned_abs c) u (v +ℤ c)) (size_passed st c (λ n. closed o (lt_z c (pos 0)) n) x h) (by_kind o p)
    where
      number : (c : ℤ) → signed (lt_z c (pos 0)) (pos (unsigned_abs c)) ≡ c
      number (pos n) = ap (λ (b : Bool). signed b (pos n)) (not_below n)
      number (negsuc n) = refl

      behind : (o : Option Index) → IsPart o v n → IsSized z s (n + unsigned_abs c) (joined o (lt_z c (pos 0)) (Const (pos (unsigned_abs c)))) (v +ℤ c)
      behind o p =
          sized-more (joined o (lt_z c (pos 0)) (Const (pos (unsigned_abs c)))) (v +ℤ signed (lt_z c (pos 0)) (pos (unsigned_abs c))) (v +ℤ c) (n + unsigned_abs c) (n + unsigned_abs c)
          (ap (λ (y : ℤ). v +ℤ y) (number c)) (omega arith)
          (joined_is o (lt_z c (pos 0)) (Const (pos (unsigned_abs c))) v (pos (unsigned_abs c)) n (unsigned_abs c) p (unsigned_abs c, const (pos (unsigned_abs c)), omega arith))

      none : (c v : ℤ) → pos (unsigned_abs c) ≡ pos 0 → v ≡ v +ℤ c
      none c v e = omega (arith, ints, e)

      by_size : (y : Index) → IsSized z s n y v → (b : Bool) → (b ≡ true → pos (unsigned_abs c) ≡ pos 0) → IsSized z s (n + unsigned_abs c) (cond b y (next_part y (lt_z c (pos 0)) (Const (pos (unsigned_abs c))))) (v +ℤ c)
      by_size y p true e = sized-more y v (v +ℤ c) n (n + unsigned_abs c) (none c v (e refl)) (omega arith) p
      by_size y p false e = behind (Some y) p

      by_kind : (o : Option Index) → IsPart o v n → IsSized z s (n + unsigned_abs c) (closed o (lt_z c (pos 0)) (pos (unsigned_abs c))) (v +ℤ c)
      by_kind None p = behind None p
      by_kind (Some y) p = by_size y p (is_zero (pos (unsigned_abs c))) (λ e. (Decides-int_eq (pos (unsigned_abs c)) (pos 0)).0 e)
