-- The facts of one loop, from those of its tests, its bounds and its rows.
use Rattle.std.proofs.Common.{◌≡◌, ◌⊎◌, inl, inr, ℕ, zero, suc, ◌<◌, ◌≤◌, List, [], ◌∷◌, ◌++◌, map, length, refl, sym, ◌∙◌, ap, subst, arith, ℤ, pos, negsuc, ◌≤ℤ◌, ◌<ℤ◌, neg_ℤ, Bool, true, false, cond}
use Rattle.std.specs.Prelude.{Result, Ok, ◌&&◌, ◌||◌}
use Rattle.std.specs.Ordering.{int_eq}
use Rattle.std.specs.Int.Signed.{lt_z}
use Rattle.std.specs.List.{list_all, fold, AllByRecursion}
use Rattle.std.proofs.lemmas.Int.{ints}
use Rattle.std.proofs.lemmas.Bool.{and_parts, and_from}
use Rattle.std.proofs.lemmas.Bool.Decides.{Decides-int_eq}
use Rattle.nest_core.specs.Making.{after, each_made}
use Rattle.nest_tree.specs.declared.kernel.Kernel.{Kernel}
use Rattle.nest_tree.specs.Lists.{IsIn}
use Rattle.nest_tree.specs.Loops.{Levels}
use Rattle.nest_tree.specs.Terms.{Input}
use Rattle.scan_laws.specs.Bounds.{least, greatest}
use Rattle.scan_laws.specs.Laws.{AreAtMost, AreAbove}
use Rattle.scan_laws.proofs.Groups.{at_most-greatest, above-least}
use Rattle.scan_forms.specs.declared.affine.Affine.{Affine}
use Rattle.scan_forms.specs.declared.bounds.Bound.{Bound}
use Rattle.scan_forms.specs.declared.bounds.Bounds.{Bounds}
use Rattle.scan_forms.specs.declared.claim.Claim.{Claim}
use Rattle.scan_forms.specs.declared.reads.Read.{Read}
use Rattle.scan_forms.specs.declared.fault.ScanFault.{ScanFault}
use Rattle.scan_forms.specs.Numbers.{number_at, is_zero, are_zero, same_numbers, opposite}
use Rattle.scan_forms.specs.Forms.{level_of, same_form, negated, without_level}
use Rattle.scan_forms.specs.Bounds.{same_bound, bound_of, with_bound, rising, falling, with_claim, bounds_of}
use Rattle.loop_scan.specs.declared.sides.Sides.{Sides}
use Rattle.loop_scan.specs.Choices.{printed_sides, known_of, have_same_bounds, has_lower, has_upper}
use Rattle.scanning.specs.Named.{named}
use Rattle.scanning.specs.Projections.{Left}
use Rattle.scanning.specs.Parts.{Part, context_of, sizes_of, number_of}
use Rattle.scanning.specs.Heads.{bound_reads, order_of}
use Rattle.scanning.specs.Sides.{sides_of, sides_by, left_sides, bounding, several, projected, instance_of_part}
use Rattle.scanning_laws.specs.Valued.{only_where, founds_from, befores_from, Says}
use Rattle.scanning_laws.specs.Asking.{InnerFirst}
use Rattle.scanning_laws.specs.Naming.{IsTable}
use Rattle.scanning_laws.proofs.Derived.{came}
use Rattle.scanning_laws.proofs.Naming.{names_more}
use Rattle.scanning_laws.proofs.Opening.{opened_asks}
use Rattle.scanning_laws.proofs.Valued.{zero_is, where-same, founds-same}
use Rattle.printed_laws.specs.Printed.{AreDistinct}
use Rattle.printed_laws.specs.Loops.{low_of, high_of, own_low, own_high, CanBePrinted}
use Rattle.printed_laws.specs.Between.{is_small, IsRow, AreBounds, IsBetween, HoldsWith}
use Rattle.printed_laws.specs.Opened.{Readable, Holding, Found, IsLevelRow, AreSides, RestsOn, OpenedLoopsDo}
use Rattle.printed_laws.proofs.Parts.{ok_same}
use Rattle.printed_laws.proofs.Forms.{marked, where_marked, held_or_not}
use Rattle.printed_laws.proofs.Marked.{BoundsHoldMarked, sides_in_order, rest_in_order}
use Rattle.printed_laws.proofs.Cells.{both}
use Rattle.printed_laws.proofs.Bounds.{tests_say}
use Rattle.printed_laws.proofs.Heads.{heads_have_values}
use Rattle.printed_laws.proofs.Between.{with-all, all-with, opposite_is, above_zero, between}

-- ---- marked places
zeros_from : (zs : List ℤ) → ((j : ℕ) → number_at j zs ≡ pos 0) → are_zero zs ≡ true
zeros_from [] h = refl
zeros_from (z ∷ zs) h = and_from (is_zero z) (are_zero zs) ((Decides-int_eq z (pos 0)).1 (h zero)) (zeros_from zs (λ j. h (suc j)))

or_true : (b c : Bool) → c ≡ true → (b || c) ≡ true
or_true true c h = refl
or_true false c h = h

pub marked_where : (bs : List Bool) (zs : List ℤ) → ((j : ℕ) → (number_at j zs ≡ pos 0 → ⊥) → marked j bs ≡ true) → only_where bs zs ≡ true
marked_where [] zs h = zeros_from zs (λ j. elim (held_or_not (number_at j zs)) [ inl e ↦ e | inr n ↦ absurd (let f : false ≡ true = h j n in cc) ])
marked_where (b ∷ bs) [] h = refl
marked_where (b ∷ bs) (z ∷ zs) h = and_from (b || is_zero z) (only_where bs zs) (first (held_or_not z)) (marked_where bs zs (λ j. h (suc j)))
  where
    first : ((z ≡ pos 0) ⊎ (z ≡ pos 0 → ⊥)) → (b || is_zero z) ≡ true
    first (inl e) = or_true b (is_zero z) ((Decides-int_eq z (pos 0)).1 e)
    first (inr n) = ap (λ (t : Bool). t || is_zero z) (h zero n)

pub held_inside : (zs : List ℤ) (j : ℕ) → (number_at j zs ≡ pos 0 → ⊥) → j < length zs
held_inside [] j n = absurd (n refl)
held_inside (z ∷ zs) zero n = omega arith
held_inside (z ∷ zs) (suc j) n = let l = held_inside zs j n in omega (arith, l)

-- equal lists are zero at the same places
where-zeros : (bs : List Bool) (ys : List ℤ) → are_zero ys ≡ true → only_where bs ys ≡ true
where-zeros [] ys h = h
where-zeros (b ∷ bs) [] h = refl
where-zeros (b ∷ bs) (y ∷ ys) h = let a = and_parts (is_zero y) (are_zero ys) h in and_from (b || is_zero y) (only_where bs ys) (or_true b (is_zero y) a.0) (where-zeros bs ys a.1)

where-equal : (bs : List Bool) (xs ys : List ℤ) → same_numbers xs ys ≡ true → only_where bs xs ≡ true → only_where bs ys ≡ true
where-equal bs [] ys s h = where-zeros bs ys s
where-equal [] (x ∷ xs) [] s h = refl
where-equal (b ∷ bs) (x ∷ xs) [] s h = refl
where-equal [] (x ∷ xs) (y ∷ ys) s h =
    let p = and_parts (int_eq x y) (same_numbers xs ys) s in
    let a = and_parts (is_zero x) (are_zero xs) h in
    and_from (is_zero y) (are_zero ys) (subst (λ (z : ℤ). is_zero z ≡ true) ((Decides-int_eq x y).0 p.0) a.0) (where-equal [] xs ys p.1 a.1)
where-equal (b ∷ bs) (x ∷ xs) (y ∷ ys) s h =
    let p = and_parts (int_eq x y) (same_numbers xs ys) s in
    let a = and_parts (b || is_zero x) (only_where bs xs) h in
    and_from (b || is_zero y) (only_where bs ys) (subst (λ (z : ℤ). (b || is_zero z) ≡ true) ((Decides-int_eq x y).0 p.0) a.0) (where-equal bs xs ys p.1 a.1)

opposite_zero : (z : ℤ) → is_small z ≡ true → is_zero (opposite z) ≡ true → is_zero z ≡ true
opposite_zero z s h = (Decides-int_eq z (pos 0)).1 (back z (sym (opposite_is z s) ∙ zero_is (opposite z) h))
  where
    back : (z : ℤ) → neg_ℤ z ≡ pos 0 → z ≡ pos 0
    back z e = omega (arith, ints, e)

opposite_where : (bs : List Bool) (zs : List ℤ) → list_all is_small zs ≡ true → only_where bs (map opposite zs) ≡ true → only_where bs zs ≡ true
opposite_where [] [] s h = refl
opposite_where [] (z ∷ zs) s h =
    let p = and_parts (is_small z) (list_all is_small zs) s in
    let a = and_parts (is_zero (opposite z)) (are_zero (map opposite zs)) h in
    and_from (is_zero z) (are_zero zs) (opposite_zero z p.0 a.0) (opposite_where [] zs p.1 a.1)
opposite_where (b ∷ bs) [] s h = refl
opposite_where (true ∷ bs) (z ∷ zs) s h = opposite_where bs zs (and_parts (is_small z) (list_all is_small zs) s).1 (and_parts true (only_where bs (map opposite zs)) h).1
opposite_where (false ∷ bs) (z ∷ zs) s h =
    let p = and_parts (is_small z) (list_all is_small zs) s in
    let a = and_parts (false || is_zero (opposite z)) (only_where bs (map opposite zs)) h in
    and_from (false || is_zero z) (only_where bs zs) (opposite_zero z p.0 a.0) (opposite_where bs zs p.1 a.1)

-- turned numbers are zero at the same places
where_opposite : (bs : List Bool) (zs : List ℤ) → only_where bs zs ≡ true → only_where bs (map opposite zs) ≡ true
where_opposite bs zs h = marked_where bs (map opposite zs) (λ j n. where_marked bs zs j h (λ e. n (opposite_at zs j e)))
  where
    opposite_at : (zs : List ℤ) (j : ℕ) → number_at j zs ≡ pos 0 → number_at j (map opposite zs) ≡ pos 0
    opposite_at [] j e = refl
    opposite_at (z ∷ zs) zero e = ap opposite e
    opposite_at (z ∷ zs) (suc j) e = opposite_at zs j e

same_length : {A B : Type 0} (f : A → B) (xs : List A) → length (map f xs) ≡ length xs
same_length f [] = refl
same_length f (x ∷ xs) = ap suc (same_length f xs)

-- ---- of all bounds, from the rows; and of all rows, from the bounds
AllOfBounds : (Bound → Type 0) → Bounds → Type 0
AllOfBounds P bs = AllByRecursion P bs.lower × AllByRecursion P bs.upper

abbrev OfRow : (Bound → Type 0) → ℕ → Claim → Type 0
OfRow P q c = (d : ℤ) → P (bound_of (negated (without_level q c.form)) d) × P (bound_of (without_level q c.form) d)

cond_all : (P : Bound → Type 0) (t : Bool) (xs ys : List Bound) → AllByRecursion P xs → AllByRecursion P ys → AllByRecursion P (cond t xs ys)
cond_all P true xs ys h k = h
cond_all P false xs ys h k = k

cond_bounds : (P : Bound → Type 0) (t : Bool) (xs ys : Bounds) → AllOfBounds P xs → AllOfBounds P ys → AllOfBounds P (cond t xs ys)
cond_bounds P true xs ys h k = h
cond_bounds P false xs ys h k = k

claim_all : (P : Bound → Type 0) (q : ℕ) (c : Claim) (bs : Bounds) → OfRow P q c → AllOfBounds P bs → AllOfBounds P (with_claim q bs c)
unfolding with_claim rising falling AllOfBounds
claim_all P q c bs p h =
    let z = level_of q c.form in
    let up = negated (without_level q c.form) in
    let down = without_level q c.form in
    let rise : AllOfBounds P (rising q c z bs) = (with-all P up z bs.lower h.0 (p z).0, cond_all P c.equal (with_bound up z bs.upper) bs.upper (with-all P up z bs.upper h.1 (p z).0) h.1) in
    let fall : AllOfBounds P (falling q c (opposite z) bs) = (cond_all P c.equal (with_bound down (opposite z) bs.lower) bs.lower (with-all P down (opposite z) bs.lower h.0 (p (opposite z)).1) h.0, with-all P down (opposite z) bs.upper h.1 (p (opposite z)).1) in
    cond_bounds P (lt_z (pos 0) z) (rising q c z bs) (cond (lt_z z (pos 0)) (falling q c (opposite z) bs) bs) rise (cond_bounds P (lt_z z (pos 0)) (falling q c (opposite z) bs) bs fall h)

claims_all : (P : Bound → Type 0) (q : ℕ) (cs : List Claim) (bs : Bounds) → AllByRecursion (OfRow P q) cs → AllOfBounds P bs → AllOfBounds P (fold (with_claim q) bs cs)
claims_all P q [] bs p h = h
claims_all P q (c ∷ cs) bs p h = claims_all P q cs (with_claim q bs c) p.1 (claim_all P q c bs p.0 h)

-- a property of bounds that equal ones share
abbrev Shared : (Bound → Type 0) → Type 0
Shared P = (x y : Bound) → same_bound y x ≡ true → P y → P x

cond_back : (P : Bound → Type 0) (t : Bool) (xs ys : List Bound) → (AllByRecursion P xs → AllByRecursion P ys) → AllByRecursion P (cond t xs ys) → AllByRecursion P ys
cond_back P true xs ys f h = f h
cond_back P false xs ys f h = h

rising_back : (P : Bound → Type 0) → Shared P → (q : ℕ) (c : Claim) (d : ℤ) (bs : Bounds) → AllOfBounds P (rising q c d bs) → AllOfBounds P bs × P (bound_of (negated (without_level q c.form)) d)
unfolding rising AllOfBounds
rising_back P s q c d bs h =
    let f = negated (without_level q c.form) in
    let back : (xs : List Bound) → AllByRecursion P (with_bound f d xs) → AllByRecursion P xs × P (bound_of f d) = λ xs. all-with P f d (λ y e p. s (bound_of f d) y e p) xs in
    let l = back bs.lower h.0 in
    ((l.0, cond_back P c.equal (with_bound f d bs.upper) bs.upper (λ a. (back bs.upper a).0) h.1), l.1)

falling_back : (P : Bound → Type 0) → Shared P → (q : ℕ) (c : Claim) (d : ℤ) (bs : Bounds) → AllOfBounds P (falling q c d bs) → AllOfBounds P bs × P (bound_of (without_level q c.form) d)
unfolding falling AllOfBounds
falling_back P s q c d bs h =
    let f = without_level q c.form in
    let back : (xs : List Bound) → AllByRecursion P (with_bound f d xs) → AllByRecursion P xs × P (bound_of f d) = λ xs. all-with P f d (λ y e p. s (bound_of f d) y e p) xs in
    let u = back bs.upper h.1 in
    ((cond_back P c.equal (with_bound f d bs.lower) bs.lower (λ a. (back bs.lower a).0) h.0, u.0), u.1)

claim_back : (P : Bound → Type 0) (Q : Claim → Type 0) → Shared P → (q : ℕ) (c : Claim) → (level_of q c.form ≡ pos 0 → ⊥)
    → ((d : ℤ) → P (bound_of (negated (without_level q c.form)) d) → Q c) → ((d : ℤ) → P (bound_of (without_level q c.form) d) → Q c)
    → (bs : Bounds) → AllOfBounds P (with_claim q bs c) → AllOfBounds P bs × Q c
unfolding with_claim
claim_back P Q s q c n up down bs = by_number (level_of q c.form) n
  where
    by_number : (z : ℤ) → (z ≡ pos 0 → ⊥) → AllOfBounds P (cond (lt_z (pos 0) z) (rising q c z bs) (cond (lt_z z (pos 0)) (falling q c (opposite z) bs) bs)) → AllOfBounds P bs × Q c
    by_number (pos zero) n h = absurd (n refl)
    by_number (pos (suc d)) n h =
        let r = rising_back P s q c (pos (suc d)) bs (subst (λ (t : Bool). AllOfBounds P (cond t (rising q c (pos (suc d)) bs) (cond (lt_z (pos (suc d)) (pos 0)) (falling q c (opposite (pos (suc d))) bs) bs))) (above_zero d) h) in
        (r.0, up (pos (suc d)) r.1)
    by_number (negsuc d) n h = let r = falling_back P s q c (opposite (negsuc d)) bs h in (r.0, down (opposite (negsuc d)) r.1)

-- ---- sides that a scan made
left_made : (k : Kernel) (table : List Read) (q : ℕ) (p : Part) (l : Left) → (left_sides k table q p l).bounds ≡ bounds_of q (left_sides k table q p l).used
left_made k table q p l = refl

abbrev IsMade : ℕ → Sides → Type 0
IsMade q d = d.bounds ≡ bounds_of q d.used

sides_made : (k : Kernel) (table : List Read) (context : List Claim) (q : ℕ) (s : Bool) (p : Part) (direct : List Claim) (d : Sides) → sides_of k table context q s p direct ≡ Ok d → IsMade q d
sides_made k table context q s p direct d h = by_direct (has_lower q direct && has_upper q direct) h
  where
    by_direct : (b : Bool) → (elim b as (λ b. Result Sides ScanFault) [
      | true ↦ Ok (sides_by k table q direct p.order)
      | false ↦ after (projected k table context q s p (instance_of_part k table p)) (λ l. Ok (left_sides k table q p l))
    ]) ≡ Ok d → IsMade q d
    by_direct true h = subst (IsMade q) (ok_same (sides_by k table q direct p.order) d h) refl
    by_direct false h =
        let c = came (projected k table context q s p (instance_of_part k table p)) (λ l. (let r : Result Sides ScanFault = Ok (left_sides k table q p l) in r)) d h in
        subst (IsMade q) (ok_same (left_sides k table q p c.value) d c.then) refl

all_made : (k : Kernel) (table : List Read) (context : List Claim) (q : ℕ) (s : Bool) (direct : Part → List Claim) (ps : List Part) (ds : List Sides) → each_made (λ p. sides_of k table context q s p (direct p)) ps ≡ Ok ds → AllByRecursion (IsMade q) ds
all_made k table context q s direct [] ds h = subst (AllByRecursion (IsMade q)) (ok_same [] ds h) tt
all_made k table context q s direct (p ∷ ps) ds h =
    let b = both (sides_of k table context q s p (direct p)) (each_made (λ p. sides_of k table context q s p (direct p)) ps) ds h in
    subst (AllByRecursion (IsMade q)) b.all (sides_made k table context q s p (direct p) b.first b.is, all_made k table context q s direct ps b.others b.are)

printed_all : (P : Sides → Type 0) (ds : List Sides) → AllByRecursion P ds → AllByRecursion P (printed_sides ds)
printed_all P [] h = tt
printed_all P (s ∷ []) h = h
printed_all P (s ∷ t ∷ ds) h = by_same (have_same_bounds (s ∷ t ∷ ds))
  where
    by_same : (b : Bool) → AllByRecursion P (cond b (s ∷ []) (s ∷ t ∷ ds))
    by_same true = (h.0, tt)
    by_same false = h

-- ---- the reads that bounds name
module _ (table : List Read) (t : IsTable table) where
  -- each read of the table that a bound holds is among these
  abbrev IsNamed : List ℕ → Bound → Type 0
  IsNamed ns b = (j : ℕ) → j < length table → (number_at j b.form.reads ≡ pos 0 → ⊥) → IsIn j ns

  abbrev Keeps : List ℕ → List ℕ → Type 0
  Keeps ns ms = (j : ℕ) → IsIn j ns → IsIn j ms

  bounds_keep : (bs : List Bound) (ns : List ℕ) → Keeps ns (fold (λ ms b. named table ms b.form) ns bs)
  bounds_keep [] ns j m = m
  bounds_keep (b ∷ bs) ns j m = bounds_keep bs (named table ns b.form) j ((names_more table t ns b.form).0 j m)

  bounds_named : (bs : List Bound) (ns : List ℕ) → AllByRecursion (IsNamed (fold (λ ms b. named table ms b.form) ns bs)) bs
  bounds_named [] ns = tt
  bounds_named (b ∷ bs) ns = (λ j l k. bounds_keep bs (named table ns b.form) j ((names_more table t ns b.form).1 j l k), bounds_named bs (named table ns b.form))

  module _ (g : Sides → List Bound) where
    sides_keep : (ds : List Sides) (ns : List ℕ) → Keeps ns (fold (λ ns s. fold (λ ms b. named table ms b.form) ns (g s)) ns ds)
    sides_keep [] ns j m = m
    sides_keep (d ∷ ds) ns j m = sides_keep ds (fold (λ ms b. named table ms b.form) ns (g d)) j (bounds_keep (g d) ns j m)

    all_keep : (bs : List Bound) (ns ms : List ℕ) → Keeps ns ms → AllByRecursion (IsNamed ns) bs → AllByRecursion (IsNamed ms) bs
    all_keep [] ns ms k h = tt
    all_keep (b ∷ bs) ns ms k h = (λ j l n. k j (h.0 j l n), all_keep bs ns ms k h.1)

    sides_named : (ds : List Sides) (ns : List ℕ) → AllByRecursion (λ d. AllByRecursion (IsNamed (fold (λ ns s. fold (λ ms b. named table ms b.form) ns (g s)) ns ds)) (g d)) ds
    sides_named [] ns = tt
    sides_named (d ∷ ds) ns =
        let ms = fold (λ ms b. named table ms b.form) ns (g d) in
        (all_keep (g d) ms (fold (λ ns s. fold (λ ms b. named table ms b.form) ns (g s)) ms ds) (sides_keep ds ms) (bounds_named (g d) ns), sides_named ds ms)

-- ---- a statement of a loop, where its bounds' reads are found
at_in : {A : Type 0} (P : A → Type 0) (xs : List A) (x : A) → AllByRecursion P xs → IsIn x xs → P x
at_in P [] x h m = absurd m
at_in P (y ∷ xs) x h (inl e) = subst P (sym e) h.0
at_in P (y ∷ xs) x h (inr m) = at_in P xs x h.1 m

module _ (i : Input) (table : List Read) (t : IsTable table) (e : Levels) where
  abbrev founds : List Bool
  founds = founds_from i e [] [] table

  abbrev q : ℕ
  q = suc (length e)

  abbrev Seen : Affine → Type 0
  Seen f = only_where founds f.reads ≡ true

  abbrev Fits : Bound → Type 0
  Fits b = length b.form.reads ≤ length table

  shared : Shared (λ b. Seen b.form)
  shared x y s h =
      let p = and_parts (int_eq y.divisor x.divisor) (same_form y.form x.form) s in
      let r = and_parts (int_eq y.form.constant x.form.constant && same_numbers y.form.params x.form.params && same_numbers y.form.levels x.form.levels) (same_numbers y.form.reads x.form.reads) p.1 in
      where-equal founds y.form.reads x.form.reads r.1 h

  reads_small : (c : Claim) → IsLevelRow i table e c → list_all is_small c.form.reads ≡ true
  reads_small c w =
      let f = c.form in
      let a = and_parts (list_all is_small f.params) (list_all is_small f.levels && (list_all is_small f.reads && is_small f.constant)) w.small in
      let b = and_parts (list_all is_small f.levels) (list_all is_small f.reads && is_small f.constant) a.1 in
      (and_parts (list_all is_small f.reads) (is_small f.constant) b.1).0

  rows_seen : (cs : List Claim) (bs : Bounds) → AllByRecursion (IsLevelRow i table e) cs → AllOfBounds (λ b. Seen b.form) (fold (with_claim q) bs cs) → AllOfBounds (λ b. Seen b.form) bs × AllByRecursion (λ c. Seen c.form) cs
  rows_seen [] bs all h = (h, tt)
  rows_seen (c ∷ cs) bs all h =
      let r = rows_seen cs (with_claim q bs c) all.1 h in
      let s = claim_back (λ b. Seen b.form) (λ c. Seen c.form) shared q c (all.0).named (λ d p. opposite_where founds c.form.reads (reads_small c all.0) p) (λ d p. p) bs r.0 in
      (s.0, (s.1, r.1))

  rows_are : (cs : List Claim) → AllByRecursion (IsLevelRow i table e) cs → AllByRecursion (λ c. Seen c.form) cs → AllByRecursion (IsRow i table e) cs
  rows_are [] all h = tt
  rows_are (c ∷ cs) all h = (record { small = (all.0).small; levels = (all.0).levels; found = h.0; before = (all.0).before }, rows_are cs all.1 h.1)

  rows_fit : (cs : List Claim) → AllByRecursion (IsLevelRow i table e) cs → AllByRecursion (OfRow Fits q) cs
  rows_fit [] all = tt
  rows_fit (c ∷ cs) all = (λ d. ((let l = same_length opposite c.form.reads in let f = (all.0).fits in omega (arith, l, f)), (all.0).fits), rows_fit cs all.1)

  -- the bounds of rows that hold only marked reads hold only such reads
  abbrev befores : List Bool
  befores = befores_from (length e) [] table

  abbrev HasMarks : Bound → Type 0
  HasMarks b = only_where befores b.form.reads ≡ true

  rows_marked : (cs : List Claim) → AllByRecursion (IsLevelRow i table e) cs → AllByRecursion (OfRow HasMarks q) cs
  rows_marked [] all = tt
  rows_marked (c ∷ cs) all = (λ d. (where_opposite befores c.form.reads (all.0).before, (all.0).before), rows_marked cs all.1)

  bounds_marked : (bs : List Bound) → AllByRecursion HasMarks bs → BoundsHoldMarked (length e) table t bs
  bounds_marked [] h = tt
  bounds_marked (b ∷ bs) h = (λ j n. where_marked befores b.form.reads j h.0 n, bounds_marked bs h.1)

  sides_marked : (ds : List Sides) → AllByRecursion (IsMade q) ds → AllByRecursion (AreSides i table e) ds
      → AllByRecursion (λ d. BoundsHoldMarked (length e) table t (d.bounds).lower) ds × AllByRecursion (λ d. BoundsHoldMarked (length e) table t (d.bounds).upper) ds
  unfolding AllOfBounds
  sides_marked [] m w = (tt, tt)
  sides_marked (d ∷ ds) m w =
      let own : AllOfBounds HasMarks d.bounds = subst (AllOfBounds HasMarks) (sym m.0) (claims_all HasMarks q d.used (record { lower = []; upper = [] }) (rows_marked d.used (w.0).rows) (tt, tt)) in
      let rest = sides_marked ds m.1 w.1 in
      ((bounds_marked (d.bounds).lower own.0, rest.0), (bounds_marked (d.bounds).upper own.1, rest.1))

  -- so the reads of a loop's bounds come inner ones first
  reads_in_order : (k : Kernel) (ds : List Sides) → AllByRecursion (IsMade q) ds → AllByRecursion (AreSides i table e) ds → InnerFirst (RestsOn table e) (bound_reads k table ds) []
  reads_in_order k ds m w =
      let marks = sides_marked ds m w in
      let lows = sides_in_order (length e) table t (λ d. (d.bounds).lower) ds [] (tt, λ j m. absurd m) marks.0 in
      let all = sides_in_order (length e) table t (λ d. (d.bounds).upper) ds (fold (λ ns d. fold (λ ms b. named table ms b.form) ns (d.bounds).lower) [] ds) lows marks.1 in
      rest_in_order table e (bound_reads k table ds) [] all.0 all.1

  seen_all : (ns : List ℕ) → ((j : ℕ) → IsIn j ns → Found i table e j) → (bs : List Bound) → AllByRecursion Fits bs → AllByRecursion (IsNamed table t ns) bs → AllByRecursion (λ b. Seen b.form) bs
  seen_all ns found [] f n = tt
  seen_all ns found (b ∷ bs) f n =
      (marked_where founds b.form.reads (λ j k. (let l = held_inside b.form.reads j k in let m = f.0 in (found j (n.0 j (omega (arith, l, m)) k)).0)), seen_all ns found bs f.1 n.1)

  -- the statement's rows are found, so its bounds can be printed
  record IsReady (d : Sides) : Type 0 where
    made : IsMade q d
    rows : AllByRecursion (IsRow i table e) d.used
    named : AllByRecursion (IsLevelRow i table e) d.used
    printed : CanBePrinted i table e d

  side_ready : (ns : List ℕ) → ((j : ℕ) → IsIn j ns → Found i table e j) → (d : Sides) → IsMade q d → AreSides i table e d → AllByRecursion (IsNamed table t ns) (d.bounds).lower → AllByRecursion (IsNamed table t ns) (d.bounds).upper → IsReady d
  unfolding AllOfBounds
  side_ready ns found d made w low high =
      let fits : AllOfBounds Fits d.bounds = subst (AllOfBounds Fits) (sym made) (claims_all Fits q d.used (record { lower = []; upper = [] }) (rows_fit d.used w.rows) (tt, tt)) in
      let seen : AllOfBounds (λ b. Seen b.form) d.bounds = (seen_all ns found (d.bounds).lower fits.0 low, seen_all ns found (d.bounds).upper fits.1 high) in
      let rows = rows_are d.used w.rows (rows_seen d.used (record { lower = []; upper = [] }) w.rows (subst (AllOfBounds (λ b. Seen b.form)) made seen)).1 in
      let b : AreBounds i table e d.bounds = subst (AreBounds i table e) (sym made) (between i table e d.used rows).0 in
      record {
        made = made;
        rows = rows;
        named = w.rows;
        printed = record { order = w.order; some_lower = w.some_lower; some_upper = w.some_upper; lower = b.lower; upper = b.upper };
      }

  sides_ready : (ns : List ℕ) → ((j : ℕ) → IsIn j ns → Found i table e j) → (ds : List Sides) → AllByRecursion (IsMade q) ds → AllByRecursion (AreSides i table e) ds
      → AllByRecursion (λ d. AllByRecursion (IsNamed table t ns) (d.bounds).lower) ds → AllByRecursion (λ d. AllByRecursion (IsNamed table t ns) (d.bounds).upper) ds → AllByRecursion IsReady ds
  sides_ready ns found [] m w l h = tt
  sides_ready ns found (d ∷ ds) m w l h = (side_ready ns found d m.0 w.0 l.0 h.0, sides_ready ns found ds m.1 w.1 l.1 h.1)

  all_printed : (ds : List Sides) → AllByRecursion IsReady ds → AllByRecursion (CanBePrinted i table e) ds
  all_printed [] h = tt
  all_printed (d ∷ ds) h = ((h.0).printed, all_printed ds h.1)

  -- ---- in a turn
  lows_at_most : (bs : List Bound) (v : ℤ) → AreAtMost (map (low_of i table e) bs) v → AllByRecursion (λ b. low_of i table e b ≤ℤ v) bs
  lows_at_most [] v h = tt
  lows_at_most (b ∷ bs) v h = (h (low_of i table e b) (inl refl), lows_at_most bs v (λ n m. h n (inr m)))

  highs_above : (bs : List Bound) (v : ℤ) → AreAbove (map (high_of i table e) bs) v → AllByRecursion (λ b. v <ℤ high_of i table e b) bs
  highs_above [] v h = tt
  highs_above (b ∷ bs) v h = (h (high_of i table e b) (inl refl), highs_above bs v (λ n m. h n (inr m)))

  used_says : (d : Sides) (v : ℤ) → IsReady d → own_low i table e d ≤ℤ v → v <ℤ own_high i table e d → (x : Claim) → IsIn x d.used → Says i table x (e ++ v ∷ [])
  used_says d v r l h x m =
      let b : IsBetween i table e d.bounds v = record {
        above = lows_at_most (d.bounds).lower v (at_most-greatest (map (low_of i table e) (d.bounds).lower) v l);
        below = highs_above (d.bounds).upper v (above-least (map (high_of i table e) (d.bounds).upper) v h);
      } in
      let all = ((between i table e d.used r.rows).1 v).0 (subst (λ (bs : Bounds). IsBetween i table e bs v) r.made b) in
      let row = at_in (IsRow i table e) d.used x r.rows m in
      record {
        found = sym (where-same i e v (befores_from (length e) [] table) x.form.reads founds (founds_from i (e ++ v ∷ []) [] [] table) row.before (founds-same i e v table [] [] [] [] [] tt tt)) ∙ row.found;
        holds = at_in (HoldsWith i table e v) d.used x all m (at_in (IsLevelRow i table e) d.used x r.named m).named;
      }

  known_says : (ds : List Sides) (v : ℤ) → AllByRecursion IsReady ds → least (map (own_low i table e) ds) ≤ℤ v → v <ℤ greatest (map (own_high i table e) ds) → (x : Claim) → IsIn x (known_of ds) → Says i table x (e ++ v ∷ [])
  known_says [] v r l h x m = absurd m
  known_says (d ∷ []) v r l h x m = used_says d v r.0 l h x m
  known_says (d ∷ b ∷ ds) v r l h x m = absurd m

  first_order : (ds : List Sides) → AllByRecursion (AreSides i table e) ds → AreDistinct (order_of ds)
  first_order [] h = tt
  first_order (d ∷ ds) h = (h.0).order

pub opened_do : OpenedLoopsDo
opened_do k table a ps o w s i e sees t long some sides all asks =
    let ds : List Sides = printed_sides w.sides in
    let reads : List ℕ = bound_reads k table ds in
    let says = tests_say k table (order_of ds) (sizes_of a) (number_of ps) s i e sees (first_order i table t e ds sides) in
    let made : AllByRecursion (IsMade (suc (length e))) ds =
    subst (λ (n : ℕ). AllByRecursion (IsMade (suc n)) ds) (sym long)
    (printed_all (IsMade (suc (length a))) w.sides (all_made k table (context_of a) (suc (length a)) (several ps) (bounding k table (context_of a) (suc (length a)) ps) ps w.sides w.are_sides)) in
    let first = reads_in_order i table t e k ds made sides in
    let r = opened_asks k table (Readable i table e) (Holding i table e) (Found i table e) _ s asks a ps o w all first says in
    let lower : Sides → List Bound = λ d. (d.bounds).lower in
    let upper : Sides → List Bound = λ d. (d.bounds).upper in
    let lows : List ℕ = fold (λ ns d. fold (λ ms b. named table ms b.form) ns (lower d)) [] ds in
    let ready : r.0 ≡ true → AllByRecursion (IsReady i table t e) ds = λ y.
    sides_ready i table t e reads (r.2 y).1 ds made sides (kept_all table t lower ds lows reads (sides_keep table t upper ds lows) (sides_named table t lower ds [])) (sides_named table t upper ds lows) in
    let heads = λ (y : r.0 ≡ true). heads_have_values k table a ps o w s i e sees some (all_printed i table t e ds (ready y)) in
    record {
      answer = r.0;
      tests = r.1;
      asked = λ y. (r.2 y).0;
      passes = r.3;
      low = λ y. (heads y).0;
      high = λ y. (heads y).1;
      known = λ y v l h x m. known_says i table t e ds v (ready y) l h x (subst (λ (l : List Claim). IsIn x l) w.known m);
    }
  where
    kept_all : (table : List Read) (t : IsTable table) (g : Sides → List Bound) (ds : List Sides) (ns ms : List ℕ) → Keeps table t ns ms
        → AllByRecursion (λ d. AllByRecursion (IsNamed table t ns) (g d)) ds → AllByRecursion (λ d. AllByRecursion (IsNamed table t ms) (g d)) ds
    kept_all table t g [] ns ms k h = tt
    kept_all table t g (d ∷ ds) ns ms k h = (all_keep table t g (g d) ns ms k h.0, kept_all table t g ds ns ms k h.1)
