-- Printed forms have the values of their forms.
use Rattle.std.proofs.Common.{◌≡◌, ◌⊎◌, inl, inr, ℕ, zero, suc, ◌+◌, ◌*◌, ◌≤◌, ◌<◌, ◌^◌, List, [], ◌∷◌, length, drop, refl, sym, ◌∙◌, ap, subst, arith, ℤ, pos, negsuc, ◌+ℤ◌, ◌*ℤ◌, unsigned_abs, Bool, true, false, slice_index_or, zero-mul}
use Rattle.std.specs.Prelude.{Option, Some, None, Result, Ok, slice_get, ◌||◌}
use Rattle.std.specs.List.{filter, range_with_len}
use Rattle.std.proofs.lemmas.Int.{ints}
use lib.IntN.{zero-*ℤ}
use Rattle.std.proofs.lemmas.Bool.{and_parts}
use Rattle.std.proofs.lemmas.Bool.Decides.{Decides-int_eq}
use Rattle.c_tree.specs.declared.index.Index.{Index}
use Rattle.c_tree.specs.declared.index.Cell.{Cell}
use Rattle.c_tree.specs.declared.index.Index.TheVariants.{Var, At}
use Rattle.c_meaning.specs.Value.{Sight}
use Rattle.int_rows.specs.Rows.{dot}
use Rattle.nest_core.specs.Making.{after}
use Rattle.nest_tree.specs.declared.kernel.Kernel.{Kernel}
use Rattle.nest_tree.specs.Loops.{Levels}
use Rattle.nest_tree.specs.Terms.{Input}
use Rattle.nest_laws.specs.Weights.{HasSize, name}
use Rattle.print_laws.specs.Printed.{IsSized}
use Rattle.scan_forms.specs.declared.affine.Affine.{Affine}
use Rattle.scan_forms.specs.declared.reads.Read.{Read}
use Rattle.scan_forms.specs.declared.fault.ScanFault.{ScanFault}
use Rattle.scan_forms.specs.Numbers.{number_at, is_zero, are_zero}
use Rattle.scan_forms.specs.Sums.{with_summand, with_constant}
use Rattle.scanning.specs.Reads.{if_held}
use Rattle.scanning.specs.Sizes.{Sizes, size_there}
use Rattle.scanning.specs.Written.{level_name, size_of, over, level_added, param_added, cell_added, read_added, not_in_order, printed_sum}
use Rattle.scanning_laws.specs.Valued.{form_value, only_where}
use Rattle.scanning_laws.proofs.Derived.{came}
use Rattle.printed_laws.specs.Printed.{AreDistinct, Sees, seen_sizes}
use Rattle.printed_laws.proofs.Sums.{sums, sums-ordered, dot-sums, products, weights, sizes-sums, integers, naturals, apart}
use Rattle.printed_laws.proofs.Parts.{IsPart, sized-more, part-more, summand_is, constant_is, ok_same}

-- ---- marked places
abbrev pub marked : ℕ → List Bool → Bool
marked i bs = slice_index_or bs i false

zero_is : (z : ℤ) → is_zero z ≡ true → z ≡ pos 0
zero_is z h = (Decides-int_eq z (pos 0)).0 h

zeros-at : (zs : List ℤ) (i : ℕ) → are_zero zs ≡ true → number_at i zs ≡ pos 0
zeros-at [] i h = refl
zeros-at (z ∷ zs) zero h = zero_is z (and_parts (is_zero z) (are_zero zs) h).0
zeros-at (z ∷ zs) (suc i) h = zeros-at zs i (and_parts (is_zero z) (are_zero zs) h).1

-- a number other than 0 stands at a marked place
pub where_marked : (bs : List Bool) (zs : List ℤ) (i : ℕ) → only_where bs zs ≡ true → (number_at i zs ≡ pos 0 → ⊥) → marked i bs ≡ true
where_marked [] zs i h n = absurd (n (zeros-at zs i h))
where_marked (b ∷ bs) [] i h n = absurd (n refl)
where_marked (true ∷ bs) (z ∷ zs) zero h n = refl
where_marked (false ∷ bs) (z ∷ zs) zero h n = absurd (n (zero_is z (and_parts (is_zero z) (only_where bs zs) h).0))
where_marked (b ∷ bs) (z ∷ zs) (suc i) h n = where_marked bs zs i (and_parts (b || is_zero z) (only_where bs zs) h).1 n

past_unmarked : (bs : List Bool) (i : ℕ) → length bs ≤ i → marked i bs ≡ false
past_unmarked [] i h = refl
past_unmarked (b ∷ bs) zero h = absurd (omega (arith, h))
past_unmarked (b ∷ bs) (suc i) h = past_unmarked bs i (omega (arith, h))

-- a number of a level from the q-th on
pub level_before : (q : ℕ) (zs : List ℤ) (i : ℕ) → are_zero (drop q zs) ≡ true → (number_at i zs ≡ pos 0 → ⊥) → i < q
level_before zero zs i h n = absurd (n (zeros-at zs i h))
level_before (suc q) [] i h n = absurd (n refl)
level_before (suc q) (z ∷ zs) zero h n = omega arith
level_before (suc q) (z ∷ zs) (suc i) h n = let r = level_before q zs i h n in omega (arith, r)

abbrev pub AllOf : (ℕ → Type 0) → List ℕ → Type 0
AllOf P [] = Unit
AllOf P (i ∷ is) = P i × AllOf P is

counted : (n a m : ℕ) → a + n ≤ m → AllOf (λ i. i < m) (range_with_len a n)
counted zero a m h = tt
counted (suc n) a m h = (omega (arith, h), counted n (a + 1) m (omega (arith, h)))

all-any : (P : ℕ → Type 0) → ((i : ℕ) → P i) → (is : List ℕ) → AllOf P is
all-any P f [] = tt
all-any P f (i ∷ is) = (f i, all-any P f is)

pub held_or_not : (n : ℤ) → (n ≡ pos 0) ⊎ (n ≡ pos 0 → ⊥)
held_or_not (pos zero) = inl refl
held_or_not (pos (suc n)) = inr (λ e. omega (arith, ints, e))
held_or_not (negsuc n) = inr (λ e. omega (arith, ints, e))

added : (l p r l1 p1 a b r1 c : ℤ) → l ≡ l1 → p ≡ p1 → r ≡ r1 → a +ℤ b ≡ r1 → ((((pos 0 +ℤ l1) +ℤ p1) +ℤ a) +ℤ b) +ℤ c ≡ p +ℤ (l +ℤ (r +ℤ c))
added l p r l1 p1 a b r1 c e f g h = omega (arith, ints, e, f, g, h)

within : (l p r l1 p1 a b r1 c : ℕ) → l1 ≤ l → p1 ≤ p → r1 ≤ r → a + b ≡ r1 → ((((0 + l1) + p1) + a) + b) + c ≤ p + l + r + c
within l p r l1 p1 a b r1 c e f g h = omega (arith, e, f, g, h)

module _ (k : Kernel) (table : List Read) (order : List ℕ) (sizes : Sizes) (n : ℕ) (s : Sight) where
  abbrev pub Sized : ℕ → Index → ℤ → Type 0
  Sized m x v = IsSized (seen_sizes k s) s m x v

  abbrev pub So : Option Index → ℤ → ℕ → Type 0
  So o v m = IsPart (seen_sizes k s) s o v m

  -- a sum over some numbers, each of which adds its product and its size
  over_is : (add : Option Index → ℕ → Result (Option Index) ScanFault) (g : ℕ → ℤ) (h : ℕ → ℕ) (is : List ℕ) (o q : Option Index) (v : ℤ) (m : ℕ)
      → AllOf (λ i. (o q : Option Index) (v : ℤ) (m : ℕ) → add o i ≡ Ok q → So o v m → So q (v +ℤ g i) (m + h i)) is
      → over k table order sizes n add is o ≡ Ok q → So o v m → So q (v +ℤ sums (pos 0) ◌+ℤ◌ g is) (m + sums 0 ◌+◌ h is)
  over_is add g h [] o q v m all e p =
      subst (λ (u : Option Index). So u (v +ℤ pos 0) (m + 0)) (ok_same o q e) (part-more (seen_sizes k s) s o v (v +ℤ pos 0) m (m + 0) (omega (arith, ints)) (omega arith) p)
  over_is add g h (i ∷ is) o q v m all e p =
      let c = came (add o i) (over k table order sizes n add is) q e in
      let r = over_is add g h is c.value q (v +ℤ g i) (m + h i) all.1 c.then (all.0 o c.value v m c.is p) in
      part-more (seen_sizes k s) s q ((v +ℤ g i) +ℤ sums (pos 0) ◌+ℤ◌ g is) (v +ℤ (g i +ℤ sums (pos 0) ◌+ℤ◌ g is)) ((m + h i) + sums 0 ◌+◌ h is) (m + (h i + sums 0 ◌+◌ h is)) (omega (arith, ints)) (omega arith) r

  -- ---- what each summand is
  module _ (i : Input) (e : Levels) (w : Sees k i sizes e s) where
    level_is : (f : Affine) → are_zero (drop (length e) f.levels) ≡ true → (q : ℕ) (o p : Option Index) (v : ℤ) (m : ℕ)
        → level_added k table order sizes n f o q ≡ Ok p → So o v m → So p (v +ℤ products f.levels e q) (m + weights f.levels (λ q. slice_index_or sizes q 0) q)
    level_is f b q o p v m h so =
        summand_is (seen_sizes k s) s n o p (number_at q f.levels) (Var (level_name q)) v (number_at q e) m (slice_index_or sizes q 0) h so (λ held.
        let l = level_before (length e) f.levels q b held in
        let is = w.level q l in (
          unsigned_abs (s.value (level_name q)),
          subst (λ (u : ℤ). HasSize (seen_sizes k s) s (Var (level_name q)) u (unsigned_abs (s.value (level_name q)))) is (name (level_name q) (omega arith)),
          (let z = w.level_sized q l in let y = ap unsigned_abs is in omega (arith, z, y)),
        ))

    param_is : (f : Affine) (p : ℕ) → p < length k.head.params → (o q : Option Index) (v : ℤ) (m : ℕ)
        → param_added k table order sizes n f o p ≡ Ok q → So o v m → So q (v +ℤ products f.params i.params p) (m + weights f.params (λ p. 2 ^ 24) p)
    param_is f p l o q v m h so =
        let x = slice_index_or k.head.params p [] in
        summand_is (seen_sizes k s) s n o q (number_at p f.params) (Var x) v (number_at p i.params) m (2 ^ 24) h so (λ held.
        let is = w.param p l in (
          unsigned_abs (s.value x),
          subst (λ (u : ℤ). HasSize (seen_sizes k s) s (Var x) u (unsigned_abs (s.value x))) is (name x (omega arith)),
          (let z = w.param_sized p l in let y = ap unsigned_abs is in omega (arith, z, y)),
        ))

    -- a read is held only where it is printed and has its value
    abbrev pub AreHeld : List (Result Cell ScanFault) → List ℤ → Affine → Type 0
    AreHeld cells rs f =
        (j : ℕ) → (number_at j f.reads ≡ pos 0 → ⊥) → (c : Result Cell ScanFault) × (slice_get cells j ≡ Some c) × (j < length cells)
        × ((x : Cell) → c ≡ Ok x → Sized (size_there k.made (slice_get table j)) (At x) (number_at j rs))

    abbrev pub IsHeld : List (Result Cell ScanFault) → ℕ → ℕ → ℤ → Type 0
    IsHeld cells j size v = (c : Result Cell ScanFault) × (slice_get cells j ≡ Some c) × (j < length cells) × ((x : Cell) → c ≡ Ok x → Sized size (At x) v)

    by_cell : (cells : List (Result Cell ScanFault)) (j size : ℕ) (z u : ℤ) (o q : Option Index) (v : ℤ) (m : ℕ) → IsHeld cells j size u
        → cell_added k table order sizes n (slice_get cells j) o z ≡ Ok q → So o v m → So q (v +ℤ z *ℤ u) (m + unsigned_abs z * size)
    by_cell cells j size z u o q v m r h so =
        let g : after r.0 (λ c. with_summand n o z (At c)) ≡ Ok q = sym (ap (λ (c : Option (Result Cell ScanFault)). cell_added k table order sizes n c o z) r.1) ∙ h in
        let c = came r.0 (λ c. with_summand n o z (At c)) q g in
        summand_is (seen_sizes k s) s n o q z (At c.value) v u m size c.then so (λ held. r.3 c.value c.is)

    by_number : (cells : List (Result Cell ScanFault)) (j size : ℕ) (z u : ℤ) (o q : Option Index) (v : ℤ) (m : ℕ) → ((z ≡ pos 0 → ⊥) → IsHeld cells j size u)
        → if_held z (λ z s. cell_added k table order sizes n (slice_get cells j) o z) (let r : Result (Option Index) ScanFault = Ok o in r) ≡ Ok q
        → So o v m → So q (v +ℤ z *ℤ u) (m + unsigned_abs z * size)
    by_number cells j size (pos zero) u o q v m r h so =
        subst (λ (p : Option Index). So p (v +ℤ pos 0 *ℤ u) (m + 0 * size)) (ok_same o q h) (part-more (seen_sizes k s) s o v (v +ℤ pos 0 *ℤ u) m (m + 0 * size) (nothing v u) (omega arith) so)
      where
        nothing : (v y : ℤ) → v ≡ v +ℤ pos 0 *ℤ y
        nothing v y = omega (arith, ints)
    by_number cells j size (pos (suc z)) u o q v m r h so = by_cell cells j size (pos (suc z)) u o q v m (r (λ e. omega (arith, ints, e))) h so
    by_number cells j size (negsuc z) u o q v m r h so = by_cell cells j size (negsuc z) u o q v m (r (λ e. omega (arith, ints, e))) h so

    read_is : (cells : List (Result Cell ScanFault)) (rs : List ℤ) (f : Affine) → AreHeld cells rs f → (j : ℕ) (o q : Option Index) (v : ℤ) (m : ℕ)
        → read_added k table order sizes n cells f o j ≡ Ok q → So o v m → So q (v +ℤ products f.reads rs j) (m + weights f.reads (λ j. size_there k.made (slice_get table j)) j)
    read_is cells rs f all j o q v m h so = by_number cells j (size_there k.made (slice_get table j)) (number_at j f.reads) (number_at j rs) o q v m (all j) h so

    -- ---- the whole form
    pub sum_is : (cells : List (Result Cell ScanFault)) (rs : List ℤ) (f : Affine) (x : Index) → AreDistinct order → length rs ≡ length cells → AreHeld cells rs f
        → are_zero (drop (length e) f.levels) ≡ true → printed_sum k table order sizes n cells f ≡ Ok x → Sized (size_of k table order sizes n f) x (form_value i e rs f)
    sum_is cells rs f x d long all b h =
        let size : ℕ → ℕ = λ j. size_there k.made (slice_get table j) in
        let others = filter (not_in_order k table order sizes n) (range_with_len 0 (length cells)) in
        let last : Option Index → Result Index ScanFault = λ o. with_constant n o f.constant in
        let rest : Option Index → Result Index ScanFault = λ o. after (over k table order sizes n (read_added k table order sizes n cells f) others o) last in
        let own : Option Index → Result Index ScanFault = λ o. after (over k table order sizes n (read_added k table order sizes n cells f) order o) rest in
        let params : Option Index → Result Index ScanFault = λ o. after (over k table order sizes n (param_added k table order sizes n f) (range_with_len 0 (length k.head.params)) o) own in
        let a = came (over k table order sizes n (level_added k table order sizes n f) (range_with_len 0 8) None) params x h in
        let a_is = over_is (level_added k table order sizes n f) (products f.levels e) (weights f.levels (λ q. slice_index_or sizes q 0)) (range_with_len 0 8) None a.value (pos 0) 0
        (all-any _ (level_is f b) (range_with_len 0 8)) a.is refl in
        let c = came (over k table order sizes n (param_added k table order sizes n f) (range_with_len 0 (length k.head.params)) a.value) own x a.then in
        let c_is = over_is (param_added k table order sizes n f) (products f.params i.params) (weights f.params (λ p. 2 ^ 24)) (range_with_len 0 (length k.head.params)) a.value c.value _ _
        (params_are (range_with_len 0 (length k.head.params)) (counted (length k.head.params) 0 (length k.head.params) (omega arith))) c.is a_is in
        let g = came (over k table order sizes n (read_added k table order sizes n cells f) order c.value) rest x c.then in
        let g_is = over_is (read_added k table order sizes n cells f) (products f.reads rs) (weights f.reads size) order c.value g.value _ _ (all-any _ (read_is cells rs f all) order) g.is c_is in
        let l = came (over k table order sizes n (read_added k table order sizes n cells f) others g.value) last x g.then in
        let l_is = over_is (read_added k table order sizes n cells f) (products f.reads rs) (weights f.reads size) others g.value l.value _ _ (all-any _ (read_is cells rs f all) others) l.is g_is in
        let r = constant_is (seen_sizes k s) s n l.value f.constant x _ _ l.then l_is in
        sized-more (seen_sizes k s) s x _ (form_value i e rs f) _ (size_of k table order sizes n f) (values others refl) (sizes_within others refl) r
      where
        params_are : (is : List ℕ) → AllOf (λ p. p < length k.head.params) is
            → AllOf (λ p. (o q : Option Index) (v : ℤ) (m : ℕ) → param_added k table order sizes n f o p ≡ Ok q → So o v m → So q (v +ℤ products f.params i.params p) (m + weights f.params (λ p. 2 ^ 24) p)) is
        params_are [] l = tt
        params_are (p ∷ is) l = (param_is f p l.0, params_are is l.1)

        past : (j : ℕ) → length cells ≤ j → number_at j f.reads ≡ pos 0
        past j l = elim (held_or_not (number_at j f.reads)) [ inl z ↦ z | inr y ↦ absurd (let r = (all j y).2 in omega (arith, r, l)) ]

        values : (others : List ℕ) → others ≡ filter (apart order) (range_with_len 0 (length cells))
            → ((((pos 0 +ℤ sums (pos 0) ◌+ℤ◌ (products f.levels e) (range_with_len 0 8)) +ℤ sums (pos 0) ◌+ℤ◌ (products f.params i.params) (range_with_len 0 (length k.head.params)))
            +ℤ sums (pos 0) ◌+ℤ◌ (products f.reads rs) order) +ℤ sums (pos 0) ◌+ℤ◌ (products f.reads rs) others) +ℤ f.constant ≡ form_value i e rs f
        values others o =
            let g = products f.reads rs in
            let zero : (j : ℕ) → length cells ≤ j → g j ≡ pos 0 = λ j l. ap (λ (y : ℤ). y *ℤ number_at j rs) (past j l) ∙ zero-*ℤ (number_at j rs) in
            let split = sums-ordered (pos 0) ◌+ℤ◌ integers g (length cells) order d zero in
            added (dot f.levels e) (dot f.params i.params) (dot f.reads rs) _ _ _ _ _ f.constant
            (dot-sums f.levels e 8 w.few) (dot-sums f.params i.params (length k.head.params) (let c = w.count in omega (arith, c))) (dot-sums f.reads rs (length cells) (omega (arith, long)))
            (ap (λ (l : List ℕ). sums (pos 0) ◌+ℤ◌ g order +ℤ sums (pos 0) ◌+ℤ◌ g l) o ∙ split)

        sizes_within : (others : List ℕ) → others ≡ filter (apart order) (range_with_len 0 (length cells))
            → ((((0 + sums 0 ◌+◌ (weights f.levels (λ q. slice_index_or sizes q 0)) (range_with_len 0 8)) + sums 0 ◌+◌ (weights f.params (λ p. 2 ^ 24)) (range_with_len 0 (length k.head.params)))
            + sums 0 ◌+◌ (weights f.reads (λ j. size_there k.made (slice_get table j))) order) + sums 0 ◌+◌ (weights f.reads (λ j. size_there k.made (slice_get table j))) others) + unsigned_abs f.constant
            ≤ size_of k table order sizes n f
        sizes_within others o =
            let size : ℕ → ℕ = λ j. size_there k.made (slice_get table j) in
            let g = weights f.reads size in
            let zero : (j : ℕ) → length cells ≤ j → g j ≡ 0 = λ j l. ap (λ (y : ℤ). unsigned_abs y * size j) (past j l) ∙ zero-mul (size j) in
            let split = sums-ordered 0 ◌+◌ naturals g (length cells) order d zero in
            within _ _ _ _ _ _ _ _ (unsigned_abs f.constant)
            (sizes-sums 8 (λ q. slice_index_or sizes q 0) f.levels) (sizes-sums (length k.head.params) (λ p. 2 ^ 24) f.params) (sizes-sums (length cells) size f.reads)
            (ap (λ (l : List ℕ). sums 0 ◌+◌ g order + sums 0 ◌+◌ g l) o ∙ split)
