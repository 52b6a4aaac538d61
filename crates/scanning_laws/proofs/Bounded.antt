-- Bounds of all statements of a group fit the group's points, so what is printed by them has the kernel's list.
use Rattle.std.proofs.Common.{◌≡◌, inl, inr, ℕ, suc, ◌+◌, ◌<◌, List, [], ◌∷◌, ◌++◌, map, length, refl, sym, ◌∙◌, ap, subst, arith, ℤ, ◌≤ℤ◌, ◌<ℤ◌, int_le, int_lt, nat_eq, Bool, true, false, not, ◌||◌, append_assoc, append-nil, length-append}
use Rattle.std.specs.Ordering.{int_eq}
use Rattle.std.specs.List.{list_all}
use Rattle.std.proofs.lemmas.Bool.{and_parts, and_from}
use Rattle.std.proofs.lemmas.Bool.Decides.{Decides-int_eq}
use Rattle.std.proofs.lemmas.Int.{ints}
use Rattle.nest_tree.specs.Lists.{IsIn}
use Rattle.nest_tree.specs.Terms.{Input}
use Rattle.nest_tree.specs.Loops.{Levels}
use Rattle.nest_tree.specs.Scans.{Slot, under}
use Rattle.nest_laws.proofs.Loops.{map_in}
use Rattle.scan_laws.specs.Rows.{depth}
use Rattle.scanning_laws.specs.Bounded.{Bounded, own_low, own_high, group_low, group_high, keeps_within, is_within, are_within, is_known, IsFull, BoundsMakeSoundScans}
use Rattle.scan_laws.specs.Laws.{AreAtMost, AreAbove}
use Rattle.scan_laws.proofs.Groups.{greatest-at_most, least-above, least-in, greatest-in}

-- ---- tests
pub at_most-test : (a b : ℤ) → a ≤ℤ b → int_le a b ≡ true
at_most-test a b h = grind (arith, ints)

pub test-at_most : (a b : ℤ) → int_le a b ≡ true → a ≤ℤ b
test-at_most a b h = grind (arith, ints)

pub below-test : (a b : ℤ) → a <ℤ b → int_lt a b ≡ true
below-test a b h = grind (arith, ints)

pub test-below : (a b : ℤ) → int_lt a b ≡ true → a <ℤ b
test-below a b h = grind (arith, ints)

pub test-same : (a b : ℤ) → int_eq a b ≡ true → a ≡ b
test-same a b h = (Decides-int_eq a b).0 h

test-number : (a b : ℕ) → nat_eq a b ≡ true → a ≡ b
test-number a b h = grind arith

number-test : (a b : ℕ) → a ≡ b → nat_eq a b ≡ true
number-test a b h = grind arith

if_not : (a b : Bool) → (not a || b) ≡ true → a ≡ true → b ≡ true
if_not true b h e = h
if_not false b h e = absurd cc

not_if : (a b : Bool) → (a ≡ true → b ≡ true) → (not a || b) ≡ true
not_if true b h = h refl
not_if false b h = refl

pub all_in : {A : Type 0} (p : A → Bool) (xs : List A) (x : A) → list_all p xs ≡ true → IsIn x xs → p x ≡ true
all_in p [] x h a = absurd a
all_in p (y ∷ ys) x h (inl e) = ap p e ∙ (and_parts (p y) (list_all p ys) h).0
all_in p (y ∷ ys) x h (inr a) = all_in p ys x (and_parts (p y) (list_all p ys) h).1 a

-- ---- levels
inner_levels : (e : Levels) (v : ℤ) (vs : Levels) (d : ℕ) → length (e ++ v ∷ vs) ≡ d → length e < d
inner_levels e v vs d h = let l : length (e ++ v ∷ vs) ≡ length e + length (v ∷ vs) = length-append e (v ∷ vs) in omega arith

module _ (i : Input) where
  within_end : (s : Bounded i) (e vs : Levels) (v : ℤ) → are_within s e vs ≡ true → is_within s (e ++ vs) v ≡ true → are_within s e (vs ++ v ∷ []) ≡ true
  within_end s e [] v h k = and_from (is_within s e v) true (subst (λ (w : Levels). is_within s w v ≡ true) (append-nil e) k) refl
  within_end s e (w ∷ vs) v h k =
      let p = and_parts (is_within s e w) (are_within s (e ++ w ∷ []) vs) h in
      and_from (is_within s e w) (are_within s (e ++ w ∷ []) (vs ++ v ∷ [])) p.0
      (within_end s (e ++ w ∷ []) vs v p.1 (subst (λ (u : Levels). is_within s u v ≡ true) (sym (append_assoc e (w ∷ []) vs)) k))

  within_middle : (s : Bounded i) (e vs : Levels) (v : ℤ) (us : Levels) → are_within s e (vs ++ v ∷ us) ≡ true → is_within s (e ++ vs) v ≡ true
  within_middle s e [] v us h = subst (λ (w : Levels). is_within s w v ≡ true) (sym (append-nil e)) (and_parts (is_within s e v) (are_within s (e ++ v ∷ []) us) h).0
  within_middle s e (w ∷ vs) v us h =
      let p = and_parts (is_within s e w) (are_within s (e ++ w ∷ []) (vs ++ v ∷ us)) h in
      subst (λ (u : Levels). is_within s u v ≡ true) (append_assoc e (w ∷ []) vs) (within_middle s (e ++ w ∷ []) vs v us p.1)

  -- a point is within its statement's own bounds
  within_own : (s : Bounded i) (e : Levels) (v : ℤ) (vs : Levels) → IsFull s (e ++ v ∷ vs) → (own_low e s ≤ℤ v) × (v <ℤ own_high e s)
  within_own s e v vs h =
      let inner = inner_levels e v vs (depth s.nest) h.full in
      let b = s.follow e v vs h.full h.meets in (greatest-at_most (s.lows e) v (s.lower e inner) b.0, least-above (s.highs e) v (s.upper e inner) b.1)

  settled_there : (s : Bounded i) (us : Levels) → are_within s [] us ≡ true → (e : Levels) (v : ℤ) (vs : Levels) → us ≡ e ++ v ∷ vs → AreAtMost (s.settled_lows e) v × AreAbove (s.settled_highs e) v
  settled_there s us w e v vs h =
      let k : is_within s e v ≡ true = within_middle s [] e v vs (subst (λ (u : Levels). are_within s [] u ≡ true) h w) in
      let p = and_parts (list_all (λ n. int_le n v) (s.settled_lows e)) (list_all (λ n. int_lt v n) (s.settled_highs e)) k in (
        λ n a. test-at_most n v (all_in (λ n. int_le n v) (s.settled_lows e) n p.0 a),
        λ n a. test-below v n (all_in (λ n. int_lt v n) (s.settled_highs e) n p.1 a),
      )

  list_weaker : (p q : ℤ → Bool) (ns : List ℤ) → ((n : ℤ) → p n ≡ true → q n ≡ true) → list_all p ns ≡ true → list_all q ns ≡ true
  list_weaker p q [] h k = refl
  list_weaker p q (n ∷ ns) h k = let t = and_parts (p n) (list_all p ns) k in and_from (q n) (list_all q ns) (h n t.0) (list_weaker p q ns h t.1)

  known_next : (group : List (Slot (Bounded i))) (s : Slot (Bounded i)) (n : ℕ) (e : Levels) (v : ℤ) → list_all (keeps_within group e) group ≡ true → IsIn s group → is_known (under n s) e ≡ true → group_low group e ≤ℤ v → v <ℤ group_high group e → is_known s (e ++ v ∷ []) ≡ true
  known_next group s n e v ok a k l u =
      let p = and_parts (nat_eq (length (n ∷ s.left) + length e) (suc (depth ((s.of).nest)))) (are_within s.of [] e) k in
      let c : length (n ∷ s.left) + length e ≡ suc (depth ((s.of).nest)) = test-number (length (n ∷ s.left) + length e) (suc (depth ((s.of).nest))) p.0 in
      let m : length (e ++ v ∷ []) ≡ length e + 1 = length-append e (v ∷ []) in
      let w = and_parts (list_all (λ n. int_le n (group_low group e)) ((s.of).settled_lows e)) (list_all (λ n. int_le (group_high group e) n) ((s.of).settled_highs e)) (all_in (keeps_within group e) group s ok a) in
      and_from (nat_eq (length s.left + length (e ++ v ∷ [])) (suc (depth ((s.of).nest)))) (are_within s.of [] (e ++ v ∷ []))
      (number-test (length s.left + length (e ++ v ∷ [])) (suc (depth ((s.of).nest))) (omega arith))
      (within_end s.of [] e v p.1 (and_from (list_all (λ n. int_le n v) ((s.of).settled_lows e)) (list_all (λ n. int_lt v n) ((s.of).settled_highs e))
      (list_weaker (λ n. int_le n (group_low group e)) (λ n. int_le n v) ((s.of).settled_lows e) (λ n h. let x = test-at_most n (group_low group e) h in at_most-test n v (omega (arith, ints, x, l))) w.0)
      (list_weaker (λ n. int_le (group_high group e) n) (λ n. int_lt v n) ((s.of).settled_highs e) (λ n h. let x = test-at_most (group_high group e) n h in below-test v n (omega (arith, ints, x, u))) w.1)))

pub sound_bounds : BoundsMakeSoundScans
sound_bounds i ready need = record {
  bounds = λ group s e v vs ok a d h. (
      let own = within_own i s.of e v vs h in (
        least-in (map (λ (x : Slot (Bounded i)). own_low e x.of) group) (own_low e s.of) v (map_in (λ (x : Slot (Bounded i)). own_low e x.of) s group a) own.0,
        greatest-in (map (λ (x : Slot (Bounded i)). own_high e x.of) group) (own_high e s.of) v (map_in (λ (x : Slot (Bounded i)). own_high e x.of) s group a) own.1,
      ));
  ready = λ group s e v vs ok a d h. need group s e v vs ok a d h;
  settled = λ group s n e v ok a left k l u. known_next i group s n e v ok a k l u;
  tested = λ s e h. s.tested e h.full h.meets;
  enough = λ s p e k t. (
      let c = and_parts (nat_eq (1 + length e) (suc (depth s.nest))) (are_within s [] e) k in
      let f : 1 + length e ≡ suc (depth s.nest) = test-number (1 + length e) (suc (depth s.nest)) c.0 in
      let full : length e ≡ depth s.nest = omega arith in
      record { full = full; meets = s.enough e full t (settled_there i s e c.1) });
}
