-- What a tree performs by its leaves, and that a scan performs the statements' points.
use Rattle.std.proofs.Common.{◌≡◌, ◌⊎◌, inl, inr, ℕ, suc, ◌+◌, List, [], ◌∷◌, ◌++◌, map, refl, sym, ◌∙◌, ap, subst, arith, ℤ, pos, ◌≤ℤ◌, ◌<ℤ◌, Bool, true, IsTrue, append_assoc, append-nil}
use Rattle.nest_tree.specs.Lists.{IsIn, IsListOf}
use Rattle.nest_tree.specs.Places.{place, IsInstance, Item, Precedes}
use Rattle.nest_tree.specs.Loops.{Levels, Loops, stop, assign, loop, guard, width, inside, IsPerformed, performed}
use Rattle.nest_tree.specs.Scans.{between, only_if, Leaf, Within, in_loop, in_guard, leaves, IsOfLeaf, Slot, under, Maker, IsScan, IsPoint, IsSoundMaker}
use Rattle.nest_laws.proofs.Lists.{in_append, in_append-left, in_append-right}
use Rattle.nest_laws.proofs.Loops.{in_map, map_in, sorted-performed, is_performed, performed_is}

item_is : {T : Type 0} (i j : Item T) → i.place ≡ j.place → i.step ≡ j.step → i ≡ j
item_is i j p q = λ k. record { place = p k; step = q k }

further : (e : Levels) (v : ℤ) (vs : Levels) → (e ++ v ∷ []) ++ vs ≡ e ++ v ∷ vs
further e v vs = append_assoc e (v ∷ []) vs

of_first : {T : Type 0} (ks ls : List (Leaf T)) (e : Levels) (i : Item T) → IsOfLeaf ks e i → IsOfLeaf (ks ++ ls) e i
of_first ks ls e i l = record { leaf = l.leaf; is_in = in_append-left l.leaf ks ls l.is_in; levels = l.levels; within = l.within; place_is = l.place_is; step_is = l.step_is }

of_second : {T : Type 0} (ks ls : List (Leaf T)) (e : Levels) (i : Item T) → IsOfLeaf ls e i → IsOfLeaf (ks ++ ls) e i
of_second ks ls e i l = record { leaf = l.leaf; is_in = in_append-right l.leaf ks ls l.is_in; levels = l.levels; within = l.within; place_is = l.place_is; step_is = l.step_is }

-- what children perform is of one of their leaves
pub leaf_of : {T : Type 0} (t : Loops T) (e : Levels) (n : ℕ) (i : Item T) → IsPerformed t e n i → IsOfLeaf (leaves t n) e i
leaf_of stop e n i h = absurd h
leaf_of (assign f rest) e n i (inl q) =
    record { leaf = record { positions = n ∷ []; around = []; step = f }; is_in = inl refl; levels = []; within = tt; place_is = ap (λ j. j.place) q; step_is = ap (λ j. j.step) q ∙ ap f (sym (append-nil e)) }
leaf_of (assign f rest) e n i (inr h) = of_second (record { positions = n ∷ []; around = []; step = f } ∷ []) (leaves rest (suc n)) e i (leaf_of rest e (suc n) i h)
leaf_of (loop low high body rest) e n i (inl (v, j, l, u, p, q)) =
    let r = leaf_of body (e ++ v ∷ []) 0 j p in
    of_first (map (in_loop n low high) (leaves body 0)) (leaves rest (suc n)) e i (record {
      leaf = in_loop n low high r.leaf;
      is_in = map_in (in_loop n low high) r.leaf (leaves body 0) r.is_in;
      levels = v ∷ r.levels;
      within = (l, u, r.within);
      place_is = ap (λ k. k.place) q ∙ ap (λ p. pos n ∷ v ∷ p) r.place_is;
      step_is = ap (λ k. k.step) q ∙ r.step_is ∙ ap (r.leaf).step (further e v r.levels);
    })
leaf_of (loop low high body rest) e n i (inr h) = of_second (map (in_loop n low high) (leaves body 0)) (leaves rest (suc n)) e i (leaf_of rest e (suc n) i h)
leaf_of (guard test body rest) e n i (inl (t, h)) =
    let r = leaf_of body e n i h in
    of_first (map (in_guard test) (leaves body n)) (leaves rest (n + width body)) e i (record {
      leaf = in_guard test r.leaf;
      is_in = map_in (in_guard test) r.leaf (leaves body n) r.is_in;
      levels = r.levels;
      within = (t, r.within);
      place_is = r.place_is;
      step_is = r.step_is;
    })
leaf_of (guard test body rest) e n i (inr h) = of_second (map (in_guard test) (leaves body n)) (leaves rest (n + width body)) e i (leaf_of rest e (n + width body) i h)

abbrev leaf_item : {T : Type 0} → Leaf T → Levels → Levels → Item T
leaf_item l e vs = record { place = place l.positions vs; step = l.step (e ++ vs) }

of_assign : {T : Type 0} (n : ℕ) (f : Levels → T) (e vs : Levels) → Within [] e vs → leaf_item (record { positions = n ∷ []; around = []; step = f }) e vs ≡ record { place = pos n ∷ []; step = f e }
of_assign n f e [] h = ap (λ t. record { place = pos n ∷ []; step = t }) (ap f (append-nil e))
of_assign n f e (v ∷ vs) h = absurd h

of_loop : {T : Type 0} (low high : Levels → ℤ) (body rest : Loops T) (e : Levels) (n : ℕ) (k : Leaf T) (vs : Levels) → ((v : ℤ) (us : Levels) → Within k.around (e ++ v ∷ []) us → IsPerformed body (e ++ v ∷ []) 0 (leaf_item k (e ++ v ∷ []) us)) → Within (between low high ∷ k.around) e vs → IsPerformed (loop low high body rest) e n (leaf_item (in_loop n low high k) e vs)
of_loop low high body rest e n k [] ih h = absurd h
of_loop low high body rest e n k (v ∷ vs) ih h =
    inl (v, leaf_item k (e ++ v ∷ []) vs, h.0, h.1, ih v vs h.2, ap (λ t. record { place = pos n ∷ v ∷ place k.positions vs; step = t }) (ap k.step (sym (further e v vs))))

-- what is of a leaf, within all that stands around it, is performed
pub of_leaf : {T : Type 0} (t : Loops T) (e : Levels) (n : ℕ) (l : Leaf T) (vs : Levels) → IsIn l (leaves t n) → Within l.around e vs → IsPerformed t e n (leaf_item l e vs)
of_leaf stop e n l vs a h = absurd a
of_leaf {T} (assign f rest) e n l vs (inl q) h =
    inl (ap (λ (k : Leaf T). leaf_item k e vs) q ∙ of_assign n f e vs (subst (λ (k : Leaf T). Within k.around e vs) q h))
of_leaf (assign f rest) e n l vs (inr a) h = inr (of_leaf rest e (suc n) l vs a h)
of_leaf {T} (loop low high body rest) e n l vs a h =
    elim (in_append l (map (in_loop n low high) (leaves body 0)) (leaves rest (suc n)) a) [
      | inl b ↦ (
          let x = in_map (in_loop n low high) l (leaves body 0) b in
          subst (λ (k : Leaf T). IsPerformed (loop low high body rest) e n (leaf_item k e vs)) (sym x.2)
          (of_loop low high body rest e n x.0 vs (λ v us w. of_leaf body (e ++ v ∷ []) 0 x.0 us x.1 w) (subst (λ (k : Leaf T). Within k.around e vs) x.2 h)))
      | inr b ↦ inr (of_leaf rest e (suc n) l vs b h)
    ]
of_leaf {T} (guard test body rest) e n l vs a h =
    elim (in_append l (map (in_guard test) (leaves body n)) (leaves rest (n + width body)) a) [
      | inl b ↦ (
          let x = in_map (in_guard test) l (leaves body n) b in
          let w : Within (only_if test ∷ (x.0).around) e vs = subst (λ (k : Leaf T). Within k.around e vs) x.2 h in
          subst (λ (k : Leaf T). IsPerformed (guard test body rest) e n (leaf_item k e vs)) (sym x.2) (inl (w.0, of_leaf body e n x.0 vs x.1 w.1)))
      | inr b ↦ inr (of_leaf rest e (n + width body) l vs b h)
    ]

deeper : (ps : List ℕ) (v : ℤ) (vs : List ℤ) (n : ℕ) → IsInstance ps vs → IsInstance (n ∷ ps) (v ∷ vs)
deeper [] v vs n h = absurd h
deeper (p ∷ ps) v vs n h = h

not_deeper : (ps : List ℕ) (v : ℤ) (vs : List ℤ) (n : ℕ) → IsInstance (n ∷ ps) (v ∷ vs) → IsInstance ps vs
not_deeper [] v vs n h = absurd h
not_deeper (p ∷ ps) v vs n h = h

no_levels : (ps : List ℕ) (n : ℕ) → IsInstance (n ∷ ps) [] → ps ≡ []
no_levels [] n h = refl
no_levels (p ∷ ps) n h = absurd h

module _ {St T : Type 0} (m : Maker St T) (Meets : St → Levels → Type 0) (known : Slot St → Levels → Bool) (sound : IsSoundMaker m Meets known) where
  -- a point of some of the statements
  among : (fewer more : List (Slot St)) (e : Levels) (i : Item T) → ((x : Slot St) → IsIn x fewer → IsIn x more) → IsPoint m Meets fewer e i → IsPoint m Meets more e i
  among fewer more e i wide p = record { slot = p.slot; is_in = wide p.slot p.is_in; levels = p.levels; depth = p.depth; meets = p.meets; place_is = p.place_is; step_is = p.step_is }

  -- a point inside a loop
  outer_point : (group slots : List (Slot St)) (n : ℕ) (e : Levels) (v : ℤ) (i j : Item T) → ((x : Slot St) → IsIn x group → IsIn (under n x) slots) → i ≡ inside n v j → IsPoint m Meets group (e ++ v ∷ []) j → IsPoint m Meets slots e i
  outer_point group slots n e v i j wide q r = record {
    slot = under n r.slot;
    is_in = wide r.slot r.is_in;
    levels = v ∷ r.levels;
    depth = deeper (r.slot).left v r.levels n r.depth;
    meets = subst (Meets (r.slot).of) (further e v r.levels) r.meets;
    place_is = ap (λ k. k.place) q ∙ ap (λ p. pos n ∷ v ∷ p) r.place_is;
    step_is = ap (λ k. k.step) q ∙ r.step_is ∙ ap (m.step (r.slot).of) (further e v r.levels);
  }

  -- what the children perform is a point of a statement
  pub scan_performs-point : (t : Loops T) (slots : List (Slot St)) (e : Levels) (n : ℕ) (i : Item T) → IsScan m t slots n e → ((s : Slot St) → IsIn s slots → IsTrue (known s e)) → IsPerformed t e n i → IsPoint m Meets slots e i
  scan_performs-point stop slots e n i c k h = absurd h
  scan_performs-point (assign f rest) slots e n i c k h = absurd c
  scan_performs-point (guard test stop rest) slots e n i c k h = absurd c
  scan_performs-point (guard test (guard x y z) rest) slots e n i c k h = absurd c
  scan_performs-point (guard test (assign f (assign g r)) rest) slots e n i c k h = absurd c
  scan_performs-point (guard test (assign f (guard x y z)) rest) slots e n i c k h = absurd c
  scan_performs-point (guard test (assign f (loop x y z r)) rest) slots e n i c k h = absurd c
  scan_performs-point (guard test (loop low high body (assign f r)) rest) slots e n i c k h = absurd c
  scan_performs-point (guard test (loop low high body (loop x y z r)) rest) slots e n i c k h = absurd c
  scan_performs-point (guard test (loop low high body (guard x y r)) rest) slots e n i c k h = absurd c
  scan_performs-point (guard test (assign f stop) rest) slots e n i (s, others, is, t, f', c) k (inl (h, inr z)) = absurd z
  scan_performs-point (guard test (assign f stop) rest) slots e n i (s, others, is, t, f', c) k (inl (h, inl q)) =
      let here : IsIn (record { left = n ∷ []; of = s }) slots = subst (IsIn (record { left = n ∷ []; of = s })) (sym is) (inl refl) in
      let meets : Meets s e = sound.enough s n e (k (record { left = n ∷ []; of = s }) here) (sym t ∙ h) in
      record {
        slot = record { left = n ∷ []; of = s };
        is_in = here;
        levels = [];
        depth = tt;
        meets = subst (Meets s) (sym (append-nil e)) meets;
        place_is = ap (λ j. j.place) q;
        step_is = ap (λ j. j.step) q ∙ f' h ∙ ap (m.step s) (sym (append-nil e));
      }
  scan_performs-point (guard test (assign f stop) rest) slots e n i (s, others, is, t, f', c) k (inr h) =
      let one : n + 1 ≡ suc n = omega arith in
      let wide : (x : Slot St) → IsIn x others → IsIn x slots = λ x a. subst (IsIn x) (sym is) (inr a) in
      among others slots e i wide (scan_performs-point rest others e (suc n) i c (λ x a. k x (wide x a)) (subst (λ (l : ℕ). IsPerformed rest e l i) one h))
  scan_performs-point (loop low high body rest) slots e n i (group, others, is, ok, left, low', high', c, d) k (inl (v, j, l, u, p, q)) =
      let wide : (x : Slot St) → IsIn x group → IsIn (under n x) slots = λ x a. subst (IsIn (under n x)) (sym is) (in_append-left (under n x) (map (under n) group) others (map_in (under n) x group a)) in
      outer_point group slots n e v i j wide q
      (scan_performs-point body group (e ++ v ∷ []) 0 j (c v l u)
      (λ x a. sound.settled group x n e v ok a (left x a) (k (under n x) (wide x a)) (subst (λ (z : ℤ). z ≤ℤ v) low' l) (subst (λ (z : ℤ). v <ℤ z) high' u)) p)
  scan_performs-point (loop low high body rest) slots e n i (group, others, is, ok, left, low', high', c, d) k (inr h) =
      let wide : (x : Slot St) → IsIn x others → IsIn x slots = λ x a. subst (IsIn x) (sym is) (in_append-right x (map (under n) group) others a) in
      among others slots e i wide (scan_performs-point rest others e (suc n) i d (λ x a. k x (wide x a)) h)
  scan_performs-point (guard test (loop low high body stop) rest) slots e n i (group, others, is, ok, left, t, c, d) k (inl (h, inr z)) = absurd z
  scan_performs-point (guard test (loop low high body stop) rest) slots e n i (group, others, is, ok, left, t, c, d) k (inl (h, inl (v, j, l, u, p, q))) =
      let b = c h in
      let wide : (x : Slot St) → IsIn x group → IsIn (under n x) slots = λ x a. subst (IsIn (under n x)) (sym is) (in_append-left (under n x) (map (under n) group) others (map_in (under n) x group a)) in
      outer_point group slots n e v i j wide q
      (scan_performs-point body group (e ++ v ∷ []) 0 j (b.2 v l u)
      (λ x a. sound.settled group x n e v ok a (left x a) (k (under n x) (wide x a)) (subst (λ (z : ℤ). z ≤ℤ v) b.0 l) (subst (λ (z : ℤ). v <ℤ z) b.1 u)) p)
  scan_performs-point (guard test (loop low high body stop) rest) slots e n i (group, others, is, ok, left, t, c, d) k (inr h) =
      let one : n + 1 ≡ suc n = omega arith in
      let wide : (x : Slot St) → IsIn x others → IsIn x slots = λ x a. subst (IsIn x) (sym is) (in_append-right x (map (under n) group) others a) in
      among others slots e i wide (scan_performs-point rest others e (suc n) i d (λ x a. k x (wide x a)) (subst (λ (l : ℕ). IsPerformed rest e l i) one h))

  -- an item of a slot at level values
  pub record IsItemOf (s : Slot St) (e vs : Levels) (i : Item T) : Type 0 where
    pub depth : IsInstance s.left vs
    pub meets : Meets s.of (e ++ vs)
    pub place_is : i.place ≡ place s.left vs
    pub step_is : i.step ≡ m.step s.of (e ++ vs)

  at_leaf : (n : ℕ) (z : St) (e vs : Levels) (i : Item T) (test : Levels → Bool) (f : Levels → T) → test e ≡ m.test z e → (test e ≡ true → f e ≡ m.step z e) → IsItemOf (record { left = n ∷ []; of = z }) e vs i
      → (test e ≡ true) × ((i ≡ record { place = pos n ∷ []; step = f e }) ⊎ ⊥)
  at_leaf n z e (v ∷ vs) i test f t f' h = absurd h.depth
  at_leaf n z e [] i test f t f' h =
      let is_true : test e ≡ true = t ∙ sound.tested z e (subst (Meets z) (append-nil e) h.meets) in
      (is_true, inl (item_is i (record { place = pos n ∷ []; step = f e }) h.place_is (h.step_is ∙ ap (m.step z) (append-nil e) ∙ sym (f' is_true))))

  -- an item of a statement of a group, inside the group's loop
  entered : (group : List (Slot St)) (x : Slot St) (n : ℕ) (e : Levels) (low high : Levels → ℤ) → low e ≡ m.low group e → high e ≡ m.high group e → IsTrue (m.allowed group e) → IsIn x group → (x.left ≡ [] → ⊥) → (body : Loops T)
      → (i : Item T) (vs : Levels) → IsItemOf (under n x) e vs i
      → ((v : ℤ) (us : Levels) (j : Item T) → low e ≤ℤ v → v <ℤ high e → IsItemOf x (e ++ v ∷ []) us j → IsPerformed body (e ++ v ∷ []) 0 j)
      → (v : ℤ) × (j : Item T) × (low e ≤ℤ v) × (v <ℤ high e) × IsPerformed body (e ++ v ∷ []) 0 j × (i ≡ inside n v j)
  entered group x n e low high low' high' ok a left body i [] h ih = absurd (left (no_levels x.left n h.depth))
  entered group x n e low high low' high' ok a left body i (v ∷ us) h ih =
      let d : IsInstance x.left us = not_deeper x.left v us n h.depth in
      let b = sound.bounds group x e v us ok a d h.meets in
      let j : Item T = record { place = place x.left us; step = i.step } in
      let l : low e ≤ℤ v = subst (λ (z : ℤ). z ≤ℤ v) (sym low') b.0 in
      let u : v <ℤ high e = subst (λ (z : ℤ). v <ℤ z) (sym high') b.1 in (
        v,
        j,
        l,
        u,
        ih v us j l u (record { depth = d; meets = subst (Meets x.of) (sym (further e v us)) h.meets; place_is = refl; step_is = h.step_is ∙ ap (m.step x.of) (sym (further e v us)) }),
        item_is i (inside n v j) h.place_is refl,
      )

  -- where a statement of a group has an item, the test around the group's loop is true
  is_ready : (group : List (Slot St)) (x : Slot St) (n : ℕ) (e vs : Levels) (i : Item T) → IsTrue (m.allowed group e) → IsIn x group → (x.left ≡ [] → ⊥) → IsItemOf (under n x) e vs i → m.ready group e ≡ true
  is_ready group x n e [] i ok a left h = absurd (left (no_levels x.left n h.depth))
  is_ready group x n e (v ∷ us) i ok a left h = sound.ready group x e v us ok a (not_deeper x.left v us n h.depth) h.meets

  -- each point of a statement is performed
  pub point-scan_performs : (t : Loops T) (slots : List (Slot St)) (e : Levels) (n : ℕ) (i : Item T) → IsScan m t slots n e → (s : Slot St) → IsIn s slots → (vs : Levels) → IsItemOf s e vs i → IsPerformed t e n i
  point-scan_performs stop slots e n i c s a vs h = absurd (subst (IsIn s) c a)
  point-scan_performs (assign f rest) slots e n i c s a vs h = absurd c
  point-scan_performs (guard test stop rest) slots e n i c s a vs h = absurd c
  point-scan_performs (guard test (guard x y z) rest) slots e n i c s a vs h = absurd c
  point-scan_performs (guard test (assign f (assign g r)) rest) slots e n i c s a vs h = absurd c
  point-scan_performs (guard test (assign f (guard x y z)) rest) slots e n i c s a vs h = absurd c
  point-scan_performs (guard test (assign f (loop x y z r)) rest) slots e n i c s a vs h = absurd c
  point-scan_performs (guard test (loop low high body (assign f r)) rest) slots e n i c s a vs h = absurd c
  point-scan_performs (guard test (loop low high body (loop x y z r)) rest) slots e n i c s a vs h = absurd c
  point-scan_performs (guard test (loop low high body (guard x y r)) rest) slots e n i c s a vs h = absurd c
  point-scan_performs (guard test (assign f stop) rest) slots e n i (z, others, is, t, f', c) s a vs h =
      let one : suc n ≡ n + 1 = omega arith in
      elim (subst (IsIn s) is a) [
        | inl same ↦ inl (at_leaf n z e vs i test f t f' (subst (λ (x : Slot St). IsItemOf x e vs i) same h))
        | inr b ↦ inr (subst (λ (l : ℕ). IsPerformed rest e l i) one (point-scan_performs rest others e (suc n) i c s b vs h))
      ]
  point-scan_performs (loop low high body rest) slots e n i (group, others, is, ok, left, low', high', c, d) s a vs h =
      elim (in_append s (map (under n) group) others (subst (IsIn s) is a)) [
        | inl b ↦ inl (
            let x = in_map (under n) s group b in
            entered group x.0 n e low high low' high' ok x.1 (left x.0 x.1) body i vs (subst (λ (y : Slot St). IsItemOf y e vs i) x.2 h)
            (λ v us j l u k. point-scan_performs body group (e ++ v ∷ []) 0 j (c v l u) x.0 x.1 us k))
        | inr b ↦ inr (point-scan_performs rest others e (suc n) i d s b vs h)
      ]
  point-scan_performs (guard test (loop low high body stop) rest) slots e n i (group, others, is, ok, left, t, c, d) s a vs h =
      let one : suc n ≡ n + 1 = omega arith in
      elim (in_append s (map (under n) group) others (subst (IsIn s) is a)) [
        | inl b ↦ inl (
            let x = in_map (under n) s group b in
            let k : IsItemOf (under n x.0) e vs i = subst (λ (y : Slot St). IsItemOf y e vs i) x.2 h in
            let is_true : test e ≡ true = t ∙ is_ready group x.0 n e vs i ok x.1 (left x.0 x.1) k in
            let q = c is_true in (
              is_true,
              inl (entered group x.0 n e low high q.0 q.1 ok x.1 (left x.0 x.1) body i vs k
                  (λ v us j l u k'. point-scan_performs body group (e ++ v ∷ []) 0 j (q.2 v l u) x.0 x.1 us k')),
            ))
        | inr b ↦ inr (subst (λ (l : ℕ). IsPerformed rest e l i) one (point-scan_performs rest others e (suc n) i d s b vs h))
      ]

  -- the list that a scan performs is the list of the statements' points
  pub scan-list : (t : Loops T) (slots : List (Slot St)) → IsScan m t slots 0 [] → ((s : Slot St) → IsIn s slots → IsTrue (known s [])) → IsListOf Precedes (IsPoint m Meets slots []) (performed t [] 0)
  scan-list t slots c k = record {
    sorted = sorted-performed t [] 0;
    each = λ i a. scan_performs-point t slots [] 0 i c k (is_performed t [] 0 i a);
    all = λ i p. performed_is t [] 0 i (point-scan_performs t slots [] 0 i c p.slot p.is_in p.levels (record { depth = p.depth; meets = p.meets; place_is = p.place_is; step_is = p.step_is }));
  }
