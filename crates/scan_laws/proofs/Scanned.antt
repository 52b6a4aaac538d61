-- Bounds made from all rows of all statements of a group fit the group's points, so what is printed by them has the kernel's list.
use Rattle.std.proofs.Common.{◌≡◌, inl, inr, ℕ, zero, suc, ◌+◌, ◌<◌, List, [], ◌∷◌, ◌++◌, map, length, refl, sym, ◌∙◌, ap, subst, arith, ℤ, ◌≤ℤ◌, ◌<ℤ◌, int_le, int_lt, nat_eq, Bool, true, false, not, ◌&&◌, ◌||◌, append_assoc, append-nil, length-append}
use Rattle.std.specs.Ordering.{int_eq}
use Rattle.std.specs.List.{list_all}
use Rattle.std.proofs.lemmas.Bool.{and_parts, and_from}
use Rattle.std.proofs.lemmas.Bool.Decides.{Decides-int_eq}
use Rattle.std.proofs.lemmas.Int.{ints}
use Rattle.int_rows.specs.declared.row.Row.{Row}
use Rattle.c_meaning.specs.Ground.{Step}
use Rattle.nest_tree.specs.declared.kernel.Nest.{Nest}
use Rattle.nest_tree.specs.Lists.{IsIn}
use Rattle.nest_tree.specs.Places.{place, IsInstance, Item}
use Rattle.nest_tree.specs.Forms.{MeetsRow}
use Rattle.nest_tree.specs.Terms.{Input}
use Rattle.nest_tree.specs.Kernels.{point, item_at, IsItemOf}
use Rattle.nest_tree.specs.Loops.{Levels}
use Rattle.nest_tree.specs.Scans.{Slot, under, IsPoint}
use Rattle.nest_laws.specs.Acts.{act}
use Rattle.nest_laws.specs.Trees.{without_faults, tree_of}
use Rattle.nest_laws.specs.RunLaws.{MeetsRows}
use Rattle.nest_laws.proofs.Loops.{in_map, map_in}
use Rattle.nest_laws.proofs.Rewriting.{instance-depth}
use Rattle.nest_laws.proofs.Scans.{scan-list}
use Rattle.scan_laws.specs.Bounds.{lowers, uppers}
use Rattle.scan_laws.specs.Rows.{depth, rest, next, Scanned, own_low, own_high, group_low, group_high, has_bounds, is_within, are_within, is_known, maker, IsFull, slots}
use Rattle.scan_laws.specs.Laws.{RowsMakeSoundBounds, ScannedKernelHasItsList}
use Rattle.scan_laws.proofs.Wrapped.{wrapped}
use Rattle.scan_laws.proofs.Printing.{printed-fine, printed-scan, some_step, items_of, fine-listing}
use Rattle.scan_laws.proofs.Bounds.{hold_bounds, bounds_hold}
use Rattle.scan_laws.proofs.Groups.{greatest-at_most, at_most-greatest, least-above, above-least, least-in, greatest-in}

-- ---- tests
pub at_most-test : (a b : ℤ) → a ≤ℤ b → int_le a b ≡ true
at_most-test a b h = grind (arith, ints)

pub test-at_most : (a b : ℤ) → int_le a b ≡ true → a ≤ℤ b
test-at_most a b h = grind (arith, ints)

pub below-test : (a b : ℤ) → a <ℤ b → int_lt a b ≡ true
below-test a b h = grind (arith, ints)

pub test-below : (a b : ℤ) → int_lt a b ≡ true → a <ℤ b
test-below a b h = grind (arith, ints)

pub test-same : (a b : ℤ) → int_eq a b ≡ true → a ≡ b
test-same a b h = (Decides-int_eq a b).0 h

test-number : (a b : ℕ) → nat_eq a b ≡ true → a ≡ b
test-number a b h = grind arith

number-test : (a b : ℕ) → a ≡ b → nat_eq a b ≡ true
number-test a b h = grind arith

if_not : (a b : Bool) → (not a || b) ≡ true → a ≡ true → b ≡ true
if_not true b h e = h
if_not false b h e = absurd cc

not_if : (a b : Bool) → (a ≡ true → b ≡ true) → (not a || b) ≡ true
not_if true b h = h refl
not_if false b h = refl

pub all_in : {A : Type 0} (p : A → Bool) (xs : List A) (x : A) → list_all p xs ≡ true → IsIn x xs → p x ≡ true
all_in p [] x h a = absurd a
all_in p (y ∷ ys) x h (inl e) = ap p e ∙ (and_parts (p y) (list_all p ys) h).0
all_in p (y ∷ ys) x h (inr a) = all_in p ys x (and_parts (p y) (list_all p ys) h).1 a

-- ---- levels
inner_levels : (e : Levels) (v : ℤ) (vs : Levels) (d : ℕ) → length (e ++ v ∷ vs) ≡ d → length e < d
inner_levels e v vs d h = let l : length (e ++ v ∷ vs) ≡ length e + length (v ∷ vs) = length-append e (v ∷ vs) in omega arith

-- the level values around a level, its value, and those behind
cut_at : (q : ℕ) (vs : Levels) → q < length vs → (e : Levels) × (v : ℤ) × (us : Levels) × (vs ≡ e ++ v ∷ us) × (length e ≡ q)
cut_at q [] h = absurd (omega arith)
cut_at zero (v ∷ vs) h = ([], v, vs, refl, refl)
cut_at (suc q) (v ∷ vs) h = let c = cut_at q vs (omega arith) in (v ∷ c.0, c.1, c.2, ap (λ (w : Levels). v ∷ w) c.3, ap suc c.4)

module _ (i : Input) where
  within_end : (s : Scanned i) (e vs : Levels) (v : ℤ) → are_within s e vs ≡ true → is_within s (e ++ vs) v ≡ true → are_within s e (vs ++ v ∷ []) ≡ true
  within_end s e [] v h k = and_from (is_within s e v) true (subst (λ (w : Levels). is_within s w v ≡ true) (append-nil e) k) refl
  within_end s e (w ∷ vs) v h k =
      let p = and_parts (is_within s e w) (are_within s (e ++ w ∷ []) vs) h in
      and_from (is_within s e w) (are_within s (e ++ w ∷ []) (vs ++ v ∷ [])) p.0
      (within_end s (e ++ w ∷ []) vs v p.1 (subst (λ (u : Levels). is_within s u v ≡ true) (sym (append_assoc e (w ∷ []) vs)) k))

  within_middle : (s : Scanned i) (e vs : Levels) (v : ℤ) (us : Levels) → are_within s e (vs ++ v ∷ us) ≡ true → is_within s (e ++ vs) v ≡ true
  within_middle s e [] v us h = subst (λ (w : Levels). is_within s w v ≡ true) (sym (append-nil e)) (and_parts (is_within s e v) (are_within s (e ++ v ∷ []) us) h).0
  within_middle s e (w ∷ vs) v us h =
      let p = and_parts (is_within s e w) (are_within s (e ++ w ∷ []) (vs ++ v ∷ us)) h in
      subst (λ (u : Levels). is_within s u v ≡ true) (append_assoc e (w ∷ []) vs) (within_middle s (e ++ w ∷ []) vs v us p.1)

  -- a point is within its statement's own bounds
  within_own : (s : Scanned i) (e : Levels) (v : ℤ) (vs : Levels) → IsFull s (e ++ v ∷ vs) → (own_low e s ≤ℤ v) × (v <ℤ own_high e s)
  within_own s e v vs h =
      let inner = inner_levels e v vs (depth s.nest) h.full in
      let b = hold_bounds i s.nest e v vs h.full (s.bounds (length e)) (λ r a. s.direct (length e) r inner a) (λ r a. s.follow (length e) r (e ++ v ∷ vs) inner h.full h.meets a) in (
        greatest-at_most (lowers (next i e) (rest i s.nest e) (s.bounds (length e))) v (s.lower e inner) b.0,
        least-above (uppers (next i e) (rest i s.nest e) (s.bounds (length e))) v (s.upper e inner) b.1,
      )

  own_rows : (s : Scanned i) (e : Levels) (v : ℤ) (vs : Levels) → length (e ++ v ∷ vs) ≡ depth s.nest → own_low e s ≤ℤ v → v <ℤ own_high e s → (r : Row) → IsIn r (s.bounds (length e)) → MeetsRow (point i s.nest (e ++ v ∷ vs)) r
  own_rows s e v vs full l u =
      let inner = inner_levels e v vs (depth s.nest) full in
      bounds_hold i s.nest e v vs full (s.bounds (length e)) (λ r a. s.direct (length e) r inner a)
      (at_most-greatest (lowers (next i e) (rest i s.nest e) (s.bounds (length e))) v l) (above-least (uppers (next i e) (rest i s.nest e) (s.bounds (length e))) v u)

  -- values that keep to the settled bounds meet their rows
  settled_rows : (s : Scanned i) (vs : Levels) → length vs ≡ depth s.nest → are_within s [] vs ≡ true → (q : ℕ) (r : Row) → q < depth s.nest → s.settled q ≡ true → IsIn r (s.bounds q) → MeetsRow (point i s.nest vs) r
  settled_rows s vs full w q r inner settled a =
      let c = cut_at q vs (omega arith) in
      let k : is_within s c.0 c.1 ≡ true = within_middle s [] c.0 c.1 c.2 (subst (λ (u : Levels). are_within s [] u ≡ true) c.3 w) in
      let b = if_not (s.settled (length c.0)) (int_le (own_low c.0 s) c.1 && int_lt c.1 (own_high c.0 s)) k (subst (λ (n : ℕ). s.settled n ≡ true) (sym c.4) settled) in
      let p = and_parts (int_le (own_low c.0 s) c.1) (int_lt c.1 (own_high c.0 s)) b in
      subst (λ (u : Levels). MeetsRow (point i s.nest u) r) (sym c.3)
      (own_rows s c.0 c.1 c.2 (subst (λ (u : Levels). length u ≡ depth s.nest) c.3 full) (test-at_most (own_low c.0 s) c.1 p.0) (test-below c.1 (own_high c.0 s) p.1) r (subst (λ (n : ℕ). IsIn r (s.bounds n)) (sym c.4) a))

  known_next : (group : List (Slot (Scanned i))) (s : Slot (Scanned i)) (n : ℕ) (e : Levels) (v : ℤ) → list_all (has_bounds group e) group ≡ true → IsIn s group → is_known (under n s) e ≡ true → group_low group e ≤ℤ v → v <ℤ group_high group e → is_known s (e ++ v ∷ []) ≡ true
  known_next group s n e v ok a k l u =
      let p = and_parts (nat_eq (length (n ∷ s.left) + length e) (suc (depth ((s.of).nest)))) (are_within s.of [] e) k in
      let c : length (n ∷ s.left) + length e ≡ suc (depth ((s.of).nest)) = test-number (length (n ∷ s.left) + length e) (suc (depth ((s.of).nest))) p.0 in
      let m : length (e ++ v ∷ []) ≡ length e + 1 = length-append e (v ∷ []) in
      and_from (nat_eq (length s.left + length (e ++ v ∷ [])) (suc (depth ((s.of).nest)))) (are_within s.of [] (e ++ v ∷ []))
      (number-test (length s.left + length (e ++ v ∷ [])) (suc (depth ((s.of).nest))) (omega arith))
      (within_end s.of [] e v p.1 (not_if ((s.of).settled (length e)) (int_le (own_low e s.of) v && int_lt v (own_high e s.of)) own))
    where
      own : (s.of).settled (length e) ≡ true → (int_le (own_low e s.of) v && int_lt v (own_high e s.of)) ≡ true
      own t =
          let b = if_not ((s.of).settled (length e)) (int_eq (group_low group e) (own_low e s.of) && int_eq (group_high group e) (own_high e s.of)) (all_in (has_bounds group e) group s ok a) t in
          let d = and_parts (int_eq (group_low group e) (own_low e s.of)) (int_eq (group_high group e) (own_high e s.of)) b in
          and_from (int_le (own_low e s.of) v) (int_lt v (own_high e s.of))
          (at_most-test (own_low e s.of) v (subst (λ (z : ℤ). z ≤ℤ v) (test-same (group_low group e) (own_low e s.of) d.0) l))
          (below-test v (own_high e s.of) (subst (λ (z : ℤ). v <ℤ z) (test-same (group_high group e) (own_high e s.of) d.1) u))

pub sound_bounds : RowsMakeSoundBounds
sound_bounds i ready need = record {
  bounds = λ group s e v vs ok a d h. (
      let own = within_own i s.of e v vs h in (
        least-in (map (λ (x : Slot (Scanned i)). own_low e x.of) group) (own_low e s.of) v (map_in (λ (x : Slot (Scanned i)). own_low e x.of) s group a) own.0,
        greatest-in (map (λ (x : Slot (Scanned i)). own_high e x.of) group) (own_high e s.of) v (map_in (λ (x : Slot (Scanned i)). own_high e x.of) s group a) own.1,
      ));
  ready = λ group s e v vs ok a d h. need group s e v vs ok a d h;
  settled = λ group s n e v ok a left k l u. known_next i group s n e v ok a k l u;
  tested = λ s e h. s.tested e h.full h.meets;
  enough = λ s p e k t. (
      let c = and_parts (nat_eq (1 + length e) (suc (depth s.nest))) (are_within s [] e) k in
      let f : 1 + length e ≡ suc (depth s.nest) = test-number (1 + length e) (suc (depth s.nest)) c.0 in
      let full : length e ≡ depth s.nest = omega arith in
      record { full = full; meets = s.enough e full t (λ q r inner settled a. settled_rows i s e full c.1 q r inner settled a) });
}

item_is : (x y : Item Step) → x.place ≡ y.place → x.step ≡ y.step → x ≡ y
item_is x y p q = λ k. record { place = p k; step = q k }

module _ (i : Input) (ss : List (Scanned i)) (ready : List (Slot (Scanned i)) → Levels → Bool) where
  abbrev OfSlot : Slot (Scanned i) → Levels → Item Step → Type 0
  OfSlot s vs x = IsInstance s.left vs × IsFull s.of vs × (x.place ≡ place s.left vs) × (x.step ≡ act (s.of).nest (point i (s.of).nest vs))

  point_item : (x : Item Step) → IsPoint (maker i ready) IsFull (slots ss) [] x → IsItemOf act i (map (λ (s : Scanned i). s.nest) ss) x
  point_item x p =
      let f = in_map (λ (s : Scanned i). let t : Slot (Scanned i) = record { left = (s.nest).positions; of = s } in t) p.slot ss p.is_in in
      let q = subst (λ (s : Slot (Scanned i)). OfSlot s p.levels x) f.2 (p.depth, p.meets, p.place_is, p.step_is) in
      record {
        nest = (f.0).nest;
        is_in = map_in (λ (s : Scanned i). s.nest) f.0 ss f.1;
        levels = p.levels;
        is_point = record { instance = q.0; meets = (q.1).meets };
        is = item_is x (item_at act i (f.0).nest p.levels) q.2 q.3;
      }

  item_point : (x : Item Step) → IsItemOf act i (map (λ (s : Scanned i). s.nest) ss) x → IsPoint (maker i ready) IsFull (slots ss) [] x
  item_point x h =
      let f = in_map (λ (s : Scanned i). s.nest) h.nest ss h.is_in in
      let at : (x ≡ item_at act i (f.0).nest h.levels) = subst (λ (n : Nest). x ≡ item_at act i n h.levels) f.2 h.is in
      let d : IsInstance ((f.0).nest).positions h.levels = subst (λ (n : Nest). IsInstance n.positions h.levels) f.2 (h.is_point).instance in
      let l = instance-depth ((f.0).nest).positions h.levels d in
      let shape = (f.0).shape in
      record {
        slot = record { left = ((f.0).nest).positions; of = f.0 };
        is_in = map_in (λ (s : Scanned i). let t : Slot (Scanned i) = record { left = (s.nest).positions; of = s } in t) f.0 ss f.1;
        levels = h.levels;
        depth = d;
        meets = record { full = omega arith; meets = subst (λ (n : Nest). MeetsRows i n h.levels) f.2 (h.is_point).meets };
        place_is = ap (λ (y : Item Step). y.place) at;
        step_is = ap (λ (y : Item Step). y.step) at;
      }

  all_known : (s : Slot (Scanned i)) → IsIn s (slots ss) → is_known s [] ≡ true
  all_known s a =
      let f = in_map (λ (s : Scanned i). let t : Slot (Scanned i) = record { left = (s.nest).positions; of = s } in t) s ss a in
      subst (λ (t : Slot (Scanned i)). is_known t [] ≡ true) (sym f.2)
      (let shape = (f.0).shape in and_from (nat_eq (length ((f.0).nest).positions + 0) (suc (depth ((f.0).nest)))) true (number-test (length ((f.0).nest).positions + 0) (suc (depth ((f.0).nest))) (omega arith)) refl)

pub scanned_list : ScannedKernelHasItsList
scanned_list i ss ready body c need p =
    let l = scan-list (maker i ready) IsFull is_known (sound_bounds i ready need) (wrapped true (without_faults some_step (tree_of body c))) (slots ss) (printed-scan (maker i ready) some_step (tree_of body c) (slots ss) 0 [] p) (all_known i ss ready) in
    record {
      items = items_of body c;
      are = record {
        sorted = l.sorted;
        each = λ x a. point_item i ss ready x (l.each x a);
        all = λ x h. l.all x (item_point i ss ready x h);
      };
      is = fine-listing body c (printed-fine (maker i ready) (tree_of body c) (slots ss) 0 [] p);
    }
