-- The bounds of a loop have the values of its statements' bounds.
use Rattle.std.proofs.Common.{◌≡◌, ℕ, suc, ◌≤◌, List, [], ◌∷◌, ◌++◌, map, length, refl, sym, ◌∙◌, ap, subst, arith, ℤ, Bool, true, false, cond}
use Rattle.std.specs.Prelude.{Result, Ok}
use Rattle.std.specs.List.{AllByRecursion}
use Rattle.c_tree.specs.declared.index.Index.{Index}
use Rattle.c_tree.specs.declared.index.Index.TheVariants.{Min, Max}
use Rattle.c_meaning.specs.Weighed.{greatest as most}
use Rattle.c_meaning.specs.Value.{Sight}
use Rattle.nest_core.specs.Making.{after, each_made}
use Rattle.nest_tree.specs.declared.kernel.Kernel.{Kernel}
use Rattle.nest_tree.specs.Lists.{Pairwise}
use Rattle.nest_tree.specs.Loops.{Levels}
use Rattle.nest_tree.specs.Terms.{Input}
use Rattle.print_laws.specs.Printed.{IsSized, greatest_of, least_of}
use Rattle.print_laws.proofs.Asked.{nested as nested_has}
use Rattle.scan_laws.specs.Bounds.{least, greatest}
use Rattle.scan_forms.specs.declared.bounds.Bound.{Bound}
use Rattle.scan_forms.specs.declared.reads.Read.{Read}
use Rattle.scan_forms.specs.declared.fault.ScanFault.{ScanFault}
use Rattle.loop_scan.specs.declared.sides.Sides.{Sides}
use Rattle.loop_scan.specs.Choices.{printed_sides, have_same_bounds}
use Rattle.loop_scan.specs.Nested.{nested, nested_from}
use Rattle.scanning.specs.Sizes.{Sizes as LevelSizes}
use Rattle.scanning.specs.Written.{lower_printed, upper_printed}
use Rattle.scanning.specs.Parts.{Part, context_of, sizes_of}
use Rattle.scanning.specs.Heads.{own_head, own_heads, greatest as greatest_size}
use Rattle.scanning.specs.Sides.{sides_of, bounding, several}
use Rattle.printed_laws.specs.Printed.{Sees, seen_sizes}
use Rattle.printed_laws.specs.Laws.{HasValue}
use Rattle.printed_laws.specs.Loops.{IsBound, low_of, high_of, own_low, own_high, CanBePrinted, PrintedHeadsHaveValues}
use Rattle.printed_laws.proofs.Parts.{sized-more, ok_same}
use Rattle.scanning_laws.proofs.Derived.{came}
use Rattle.printed_laws.proofs.Cells.{both}
use Rattle.printed_laws.proofs.Bounds.{has_value, bounds_have_values}

-- ---- nested expressions
nested-greatest : (t : Index) (ts : List Index) → nested_from true t ts ≡ greatest_of t ts
nested-greatest t [] = refl
nested-greatest t (u ∷ us) = ap (λ (x : Index). Max t x) (nested-greatest u us)

nested-least : (t : Index) (ts : List Index) → nested_from false t ts ≡ least_of t ts
nested-least t [] = refl
nested-least t (u ∷ us) = ap (λ (x : Index). Min t x) (nested-least u us)

-- ---- sizes
within_greatest : (n : ℕ) (ns : List ℕ) (m : ℕ) → n ≤ m → greatest_size ns ≤ m → greatest_size (n ∷ ns) ≤ m
within_greatest n ns m h k = omega (arith, h, k)

first_within : (n : ℕ) (ns : List ℕ) → n ≤ greatest_size (n ∷ ns)
first_within n ns = omega arith

others_within : (n : ℕ) (ns : List ℕ) → greatest_size ns ≤ greatest_size (n ∷ ns)
others_within n ns = omega arith

front_within : (ns ms : List ℕ) → greatest_size ns ≤ greatest_size (ns ++ ms)
front_within [] ms = omega arith
front_within (n ∷ ns) ms = let h = front_within ns ms in omega (arith, h)

back_within : (ns ms : List ℕ) → greatest_size ms ≤ greatest_size (ns ++ ms)
back_within [] ms = omega arith
back_within (n ∷ ns) ms = let h = back_within ns ms in omega (arith, h)

all_within : (ns ms : List ℕ) (m : ℕ) → greatest_size ns ≤ m → greatest_size ms ≤ m → greatest_size (ns ++ ms) ≤ m
all_within [] ms m h k = k
all_within (n ∷ ns) ms m h k =
    let a : n ≤ m = omega (arith, h) in
    let b : greatest_size ns ≤ m = omega (arith, h) in
    within_greatest n (ns ++ ms) m a (all_within ns ms m b k)

-- ---- lists
made-length : {A B E : Type 0} (f : A → Result B E) (xs : List A) (ys : List B) → each_made f xs ≡ Ok ys → length ys ≡ length xs
made-length f [] ys h = sym (ap length (ok_same [] ys h))
made-length f (x ∷ xs) ys h = let b = both (f x) (each_made f xs) ys h in sym (ap length b.all) ∙ ap suc (made-length f xs b.others b.are)

printed-length : (ss : List Sides) → length (printed_sides ss) ≤ length ss
printed-length [] = omega arith
printed-length (s ∷ []) = omega arith
printed-length (s ∷ t ∷ ss) = by_same (have_same_bounds (s ∷ t ∷ ss))
  where
    by_same : (b : Bool) → length (cond b (s ∷ []) (s ∷ t ∷ ss)) ≤ suc (suc (length ss))
    by_same true = omega arith
    by_same false = omega arith

printed-some : (ss : List Sides) → (ss ≡ [] → ⊥) → printed_sides ss ≡ [] → ⊥
printed-some [] n h = n refl
printed-some (s ∷ []) n h = cc
printed-some (s ∷ t ∷ ss) n h = by_same (have_same_bounds (s ∷ t ∷ ss)) h
  where
    by_same : (b : Bool) → cond b (s ∷ []) (s ∷ t ∷ ss) ≡ [] → ⊥
    by_same true h = cc
    by_same false h = cc

no-length : {A : Type 0} (xs : List A) → length xs ≡ 0 → xs ≡ []
no-length [] h = refl
no-length (x ∷ xs) h = absurd (omega (arith, h))

map-some : {A B : Type 0} (f : A → B) (xs : List A) → (xs ≡ [] → ⊥) → map f xs ≡ [] → ⊥
map-some f [] n h = n refl
map-some f (x ∷ xs) n h = cc

module _ (k : Kernel) (s : Sight) where
  abbrev Sized : ℕ → Index → ℤ → Type 0
  Sized m x v = IsSized (seen_sizes k s) s m x v

  nested_is : (ts : List Index) (vs : List ℤ) (m : ℕ) → (vs ≡ [] → ⊥) → Pairwise (Sized m) ts vs → Sized m (nested true ts) (greatest vs) × Sized m (nested false ts) (least vs)
  nested_is [] [] m n h = absurd (n refl)
  nested_is [] (v ∷ vs) m n h = absurd h
  nested_is (t ∷ ts) [] m n h = absurd h
  nested_is (t ∷ ts) (v ∷ vs) m n h =
      let r = nested_has (seen_sizes k s) s m t ts v vs h in
      (subst (λ (x : Index). Sized m x (greatest (v ∷ vs))) (sym (nested-greatest t ts)) r.0, subst (λ (x : Index). Sized m x (least (v ∷ vs))) (sym (nested-least t ts)) r.1)

  -- expressions with their sizes
  abbrev Valued : List (Index × ℕ) → List ℤ → Type 0
  Valued ls vs = Pairwise (λ l v. HasValue k s l.0 v l.1) ls vs

  sized_by : (ls : List (Index × ℕ)) (vs : List ℤ) (m : ℕ) → Valued ls vs → greatest_size (map (λ l. l.1) ls) ≤ m → Pairwise (Sized m) (map (λ l. l.0) ls) vs
  sized_by [] [] m h l = tt
  sized_by [] (v ∷ vs) m h l = absurd h
  sized_by (x ∷ ls) [] m h l = absurd h
  sized_by (x ∷ ls) (v ∷ vs) m h l =
      let a = first_within x.1 (map (λ l. l.1) ls) in
      let b = others_within x.1 (map (λ l. l.1) ls) in
      (sized-more (seen_sizes k s) s x.0 v v x.1 m refl (omega (arith, a, l)) (h.0).sized, sized_by ls vs m h.1 (omega (arith, b, l)))

  small_by : (ls : List (Index × ℕ)) (vs : List ℤ) → Valued ls vs → greatest_size (map (λ l. l.1) ls) ≤ most
  small_by [] vs h = omega arith
  small_by (x ∷ ls) [] h = absurd h
  small_by (x ∷ ls) (v ∷ vs) h = within_greatest x.1 (map (λ l. l.1) ls) most (h.0).small (small_by ls vs h.1)

  module _ (table : List Read) (i : Input) (e : Levels) where
    made_are : (p : Bound → Result (Index × ℕ) ScanFault) (g : Bound → ℤ) → ((b : Bound) (l : Index × ℕ) → IsBound i table e b → p b ≡ Ok l → HasValue k s l.0 (g b) l.1)
        → (bs : List Bound) (ls : List (Index × ℕ)) → each_made p bs ≡ Ok ls → AllByRecursion (IsBound i table e) bs → Valued ls (map g bs)
    made_are p g each [] ls h all = subst (λ (l : List (Index × ℕ)). Valued l []) (ok_same [] ls h) tt
    made_are p g each (b ∷ bs) ls h all =
        let m = both (p b) (each_made p bs) ls h in
        subst (λ (l : List (Index × ℕ)). Valued l (g b ∷ map g bs)) m.all (each b m.first all.0 m.is, made_are p g each bs m.others m.are all.1)

    -- ---- one statement
    abbrev IsHead : Index × Index × ℕ → Sides → Type 0
    IsHead h d = HasValue k s h.0 (own_low i table e d) h.2 × HasValue k s h.1 (own_high i table e d) h.2

    module _ (sizes : LevelSizes) (w : Sees k i sizes e s) where
      own_is : (p : Part) (d : Sides) (h : Index × Index × ℕ) → own_head k table sizes p d ≡ Ok h → CanBePrinted i table e d → IsHead h d
      own_is p d h is c =
          let low : Bound → Result (Index × ℕ) ScanFault = lower_printed k table d.order sizes p.number in
          let high : Bound → Result (Index × ℕ) ScanFault = upper_printed k table d.order sizes p.number in
          let whole : List (Index × ℕ) → List (Index × ℕ) → Index × Index × ℕ = λ lows highs. (nested true (map (λ b. b.0) lows), nested false (map (λ b. b.0) highs), greatest_size (map (λ b. b.1) (lows ++ highs))) in
          let a = came (each_made low (d.bounds).lower) (λ lows. after (each_made high (d.bounds).upper) (λ highs. (let r : Result (Index × Index × ℕ) ScanFault = Ok (whole lows highs) in r))) h is in
          let b = came (each_made high (d.bounds).upper) (λ highs. (let r : Result (Index × Index × ℕ) ScanFault = Ok (whole a.value highs) in r)) h a.then in
          let l = made_are low (low_of i table e) (λ b l x y. (bounds_have_values k table d.order sizes p.number s i e w c.order b l.0 l.1 x.readable x.positive).0 y) (d.bounds).lower a.value a.is c.lower in
          let u = made_are high (high_of i table e) (λ b l x y. (bounds_have_values k table d.order sizes p.number s i e w c.order b l.0 l.1 x.readable x.positive).1 y) (d.bounds).upper b.value b.is c.upper in
          subst (λ (y : Index × Index × ℕ). IsHead y d) (ok_same (whole a.value b.value) h b.then)
          (both_are a.value b.value (map (low_of i table e) (d.bounds).lower) (map (high_of i table e) (d.bounds).upper) (map-some (low_of i table e) (d.bounds).lower c.some_lower) (map-some (high_of i table e) (d.bounds).upper c.some_upper) l u)
        where
          sizes-both : (xs ys : List (Index × ℕ)) → map (λ b. b.1) (xs ++ ys) ≡ map (λ b. b.1) xs ++ map (λ b. b.1) ys
          sizes-both [] ys = refl
          sizes-both (x ∷ xs) ys = ap (λ (l : List ℕ). x.1 ∷ l) (sizes-both xs ys)

          both_are : (xs ys : List (Index × ℕ)) (vs us : List ℤ) → (vs ≡ [] → ⊥) → (us ≡ [] → ⊥) → Valued xs vs → Valued ys us
              → HasValue k s (nested true (map (λ b. b.0) xs)) (greatest vs) (greatest_size (map (λ b. b.1) (xs ++ ys))) × HasValue k s (nested false (map (λ b. b.0) ys)) (least us) (greatest_size (map (λ b. b.1) (xs ++ ys)))
          both_are xs ys vs us n m l u =
              let all = greatest_size (map (λ b. b.1) (xs ++ ys)) in
              let e = ap greatest_size (sizes-both xs ys) in
              let f = front_within (map (λ b. b.1) xs) (map (λ b. b.1) ys) in
              let g = back_within (map (λ b. b.1) xs) (map (λ b. b.1) ys) in
              let t = all_within (map (λ b. b.1) xs) (map (λ b. b.1) ys) most (small_by xs vs l) (small_by ys us u) in
              let q : all ≤ most = omega (arith, e, t) in (
                has_value k s (nested true (map (λ b. b.0) xs)) (greatest vs) all (nested_is (map (λ b. b.0) xs) vs all n (sized_by xs vs all l (omega (arith, e, f)))).0 q,
                has_value k s (nested false (map (λ b. b.0) ys)) (least us) all (nested_is (map (λ b. b.0) ys) us all m (sized_by ys us all u (omega (arith, e, g)))).1 q,
              )

      -- ---- all statements
      heads_are : (ps : List Part) (ds : List Sides) (hs : List (Index × Index × ℕ)) → length ds ≤ length ps → own_heads k table sizes ps ds ≡ Ok hs → AllByRecursion (CanBePrinted i table e) ds → Pairwise IsHead hs ds
      heads_are [] [] hs l h c = subst (λ (x : List (Index × Index × ℕ)). Pairwise IsHead x []) (ok_same [] hs h) tt
      heads_are [] (d ∷ ds) hs l h c = absurd (omega (arith, l))
      heads_are (p ∷ ps) [] hs l h c = subst (λ (x : List (Index × Index × ℕ)). Pairwise IsHead x []) (ok_same [] hs h) tt
      heads_are (p ∷ ps) (d ∷ ds) hs l h c =
          let m = both (own_head k table sizes p d) (own_heads k table sizes ps ds) hs h in
          subst (λ (x : List (Index × Index × ℕ)). Pairwise IsHead x (d ∷ ds)) m.all (own_is p d m.first m.is c.0, heads_are ps ds m.others (omega (arith, l)) m.are c.1)

      abbrev with_size : (Index × Index × ℕ → Index) → List (Index × Index × ℕ) → List (Index × ℕ)
      with_size f hs = map (λ h. (f h, h.2)) hs

      lows_are : (hs : List (Index × Index × ℕ)) (ds : List Sides) → Pairwise IsHead hs ds → Valued (with_size (λ h. h.0) hs) (map (own_low i table e) ds) × Valued (with_size (λ h. h.1) hs) (map (own_high i table e) ds)
      lows_are [] [] h = (tt, tt)
      lows_are [] (d ∷ ds) h = absurd h
      lows_are (x ∷ hs) [] h = absurd h
      lows_are (x ∷ hs) (d ∷ ds) h = let r = lows_are hs ds h.1 in ((h.0.0, r.0), (h.0.1, r.1))

      parts_of : (f : Index × Index × ℕ → Index) (hs : List (Index × Index × ℕ)) → (map (λ l. l.0) (with_size f hs) ≡ map f hs) × (map (λ l. l.1) (with_size f hs) ≡ map (λ h. h.2) hs)
      parts_of f [] = (refl, refl)
      parts_of f (h ∷ hs) = let r = parts_of f hs in (ap (λ (l : List Index). f h ∷ l) r.0, ap (λ (l : List ℕ). h.2 ∷ l) r.1)

      side_is : (f : Index × Index × ℕ → Index) (hs : List (Index × Index × ℕ)) (vs : List ℤ) → (vs ≡ [] → ⊥) → Valued (with_size f hs) vs
          → HasValue k s (nested true (map f hs)) (greatest vs) (greatest_size (map (λ h. h.2) hs)) × HasValue k s (nested false (map f hs)) (least vs) (greatest_size (map (λ h. h.2) hs))
      side_is f hs vs n h =
          let ls : List (Index × ℕ) = with_size f hs in
          let p = parts_of f hs in
          let m = greatest_size (map (λ h. h.2) hs) in
          let e = ap greatest_size p.1 in
          let t = small_by ls vs h in
          let q : m ≤ most = omega (arith, e, t) in
          let r = nested_is (map f hs) vs m n (subst (λ (l : List Index). Pairwise (Sized m) l vs) p.0 (sized_by ls vs m h (omega (arith, e)))) in
          (has_value k s (nested true (map f hs)) (greatest vs) m r.0 q, has_value k s (nested false (map f hs)) (least vs) m r.1 q)

pub heads_have_values : PrintedHeadsHaveValues
heads_have_values k table a ps o w s i e sees some c =
    let ds : List Sides = printed_sides w.sides in
    let long : length w.sides ≡ length ps = made-length (λ p. sides_of k table (context_of a) (suc (length a)) (several ps) p (bounding k table (context_of a) (suc (length a)) ps p)) ps w.sides w.are_sides in
    let short = printed-length w.sides in
    let hs = heads_are k s table i e (sizes_of a) sees ps ds w.heads (omega (arith, long, short)) w.are_heads c in
    let v = lows_are k s table i e (sizes_of a) sees w.heads ds hs in
    let n : ds ≡ [] → ⊥ = printed-some w.sides (λ h. some (no-length ps (sym long ∙ ap length h))) in
    let low = (side_is k s table i e (sizes_of a) sees (λ h. h.0) w.heads (map (own_low i table e) ds) (map-some (own_low i table e) ds n) v.0).1 in
    let high = (side_is k s table i e (sizes_of a) sees (λ h. h.1) w.heads (map (own_high i table e) ds) (map-some (own_high i table e) ds n) v.1).0 in
    let z = sym w.size in (
      subst (λ (x : Index). HasValue k s x (least (map (own_low i table e) ds)) o.size) (sym w.low) (subst (λ (m : ℕ). HasValue k s (nested false (map (λ h. h.0) w.heads)) (least (map (own_low i table e) ds)) m) z low),
      subst (λ (x : Index). HasValue k s x (greatest (map (own_high i table e) ds)) o.size) (sym w.high) (subst (λ (m : ℕ). HasValue k s (nested true (map (λ h. h.1) w.heads)) (greatest (map (own_high i table e) ds)) m) z high),
    )
