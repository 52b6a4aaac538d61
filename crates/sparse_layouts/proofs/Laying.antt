-- The layout's cells are sums of entries.
use Rattle.std.proofs.Common.{◌≡◌, refl, sym, ap, ◌∙◌, subst, ℕ, zero, suc, ◌+◌, ◌-◌, ◌^◌, ◌≤◌, ◌<◌, ℤ, Bool, true, false, ◌&&◌, ◌||◌, List, [], ◌∷◌, ◌++◌, length, nat_eq, nat_le, nat_lt, if◌then◌else◌, arith, append_assoc, length-append}
use Rattle.std.proofs.lemmas.Int.{ints}
use Rattle.std.proofs.lemmas.List.{append-nil}
use Rattle.std.proofs.Math.Nat.{mod-add-mod}
use Rattle.sparse_marks.specs.Matrices.{wrapped}
use Rattle.sparse_marks.specs.Kept.{same, is_among, Placed, values, kept, kept_before, start, standing, position}
use Rattle.sparse_marks.specs.Marks.{Marks, found, marked, see, Follows}
use Rattle.sparse_marks.specs.Walks.{Walk, met, row_met, met_before, marks_in, marks_of, Rising}
use Rattle.sparse_marks.proofs.Values.{one, same_is, same_self, kept_here, kept_elsewhere, kept_before_here, found_some, found_new}
use Rattle.sparse_marks.proofs.Marking.{sees}
use Rattle.sparse_marks.proofs.Keeping.{among_add, among_kept}
use Rattle.sparse_marks.proofs.Standing.{start_next, start_rises, found_standing}
use Rattle.sparse_marks.proofs.Walking.{within}
use Rattle.sparse_layouts.specs.Layouts.{same_list, Cells, added, laying, layout, falls, total}
use Rattle.sparse_layouts.specs.Laws.{HoldsSums}

-- one more than the position of a kept value
abbrev pub place : ℕ → ℤ → List Placed → ℕ
place g w es = start g es + found w (kept g es)

-- the layout behind some entries, of which n values are kept
pub record Laid (es : List Placed) (n : ℕ) (c : Cells) : Type 0 where
  pub cell : (g : ℕ) (w : ℤ) (o : List ℤ) (p : ℕ) → is_among w (kept g es) ≡ true → suc p ≡ place g w es → c p o ≡ wrapped (total (falls g w o) es)
  pub empty : (p : ℕ) (o : List ℤ) → n ≤ p → c p o ≡ 0

pub none_falls : (es : List Placed) (g : ℕ) (w : ℤ) (o : List ℤ) → is_among w (values g es) ≡ false → total (falls g w o) es ≡ 0
none_falls [] g w o h = refl
none_falls (e ∷ es) g w o h = grind (arith, ints, none_falls es g w o)

-- two kept values with one place are one
found_one : (v w : ℤ) (ks : List ℤ) → is_among v ks ≡ true → is_among w ks ≡ true → found v ks ≡ found w ks → same v w ≡ true
found_one v w [] h k e = cc
found_one v w (k' ∷ ks) h k e = grind (arith, ints, found_some v ks, found_some w ks, found_one v w ks)

found_within : (w : ℤ) (ks : List ℤ) → found w ks ≤ length ks
found_within w [] = grind arith
found_within w (k ∷ ks) = grind (arith, found_within w ks)

total-snoc : (p : Placed → Bool) (es : List Placed) (x : Placed) → total p (es ++ x ∷ []) ≡ total p es + (if p x then x.worth else 0)
total-snoc p [] x = grind arith
total-snoc p (e ∷ es) x = grind (arith, total-snoc p es x)

found_kept : (v w : ℤ) (ks : List ℤ) → is_among v ks ≡ true → found v (ks ++ w ∷ []) ≡ found v ks
found_kept v w [] h = cc
found_kept v w (k ∷ ks) h = grind (arith, found_kept v w ks)

found_add : (v w : ℤ) (ks : List ℤ) (b : Bool) → is_among v ks ≡ true → found v (if b then ks else ks ++ w ∷ []) ≡ found v ks
found_add v w ks true h = refl
found_add v w ks false h = found_kept v w ks h

-- a kept value keeps its place
place_kept : (es : List Placed) (g h : ℕ) (v w : ℤ) (o : List ℤ) (a : ℕ) → h ≤ g → is_among v (kept h es) ≡ true → place h v (es ++ one g w o a ∷ []) ≡ place h v es
place_kept es g h v w o a k i =
    ap (λ l. length l + found v (kept h (es ++ one g w o a ∷ []))) (kept_before_here es g h w o a k) ∙ ap (λ n. start h es + n) (by _ refl)
  where
    by : (b : Bool) → nat_eq g h ≡ b → found v (kept h (es ++ one g w o a ∷ [])) ≡ found v (kept h es)
    by true e = let q : g ≡ h = grind arith in subst (λ h. is_among v (kept h es) ≡ true → found v (kept h (es ++ one g w o a ∷ [])) ≡ found v (kept h es)) q
        (λ i. ap (found v) (kept_here es g w o a) ∙ found_add v w (kept g es) _ i) i
    by false e = ap (found v) (kept_elsewhere es g h w o a (grind arith))

-- two kept values at one place are one
place_one : (es : List Placed) (h g : ℕ) (v w : ℤ) → is_among v (kept h es) ≡ true → is_among w (kept g es) ≡ true → place h v es ≡ place g w es → (h ≡ g) × (same v w ≡ true)
place_one es h g v w i j e = by _ _ refl refl
  where
    below : (h g : ℕ) (v w : ℤ) → is_among w (kept g es) ≡ true → h < g → place h v es < place g w es
    below h g v w j k =
        let a : found v (kept h es) ≤ length (kept h es) = found_within v (kept h es) in
        let b : start (suc h) es ≤ start g es = start_rises (suc h) g es k in
        let c : 0 < found w (kept g es) = found_some w (kept g es) j in
        omega (arith, a, b, c, start_next h es)

    one_group : (k : ℕ) → k ≡ g → is_among v (kept k es) ≡ true → place k v es ≡ place g w es → same v w ≡ true
    one_group k q i e = found_one v w (kept g es) (subst (λ k. is_among v (kept k es) ≡ true) q i) j
        (let u : place g v es ≡ place g w es = subst (λ k. place k v es ≡ place g w es) q e in omega (arith, u))

    by : (b c : Bool) → nat_lt h g ≡ b → nat_lt g h ≡ c → (h ≡ g) × (same v w ≡ true)
    by true c p q = absurd (let u : place h v es < place g w es = below h g v w j (grind arith) in omega (arith, u, e))
    by false true p q = absurd (let u : place g w es < place h v es = below g h w v i (grind arith) in omega (arith, u, e))
    by false false p q = let k : h ≡ g = grind arith in (k, one_group h k i e)

not_later : (es : List Placed) (g h : ℕ) (s : Marks) (v : ℤ) → Follows es g s → is_among v (kept h es) ≡ true → h ≤ g
not_later es g h s v f i = by _ refl
  where
    by : (b : Bool) → nat_le h g ≡ b → h ≤ g
    by true e = grind arith
    by false e = absurd (let q : is_among v (kept h es) ≡ false = ap (is_among v) (f.later h (grind arith)) in grind (arith, q, i))

in_here : (es : List Placed) (g : ℕ) (v w : ℤ) (o : List ℤ) (a : ℕ) → is_among v (kept g (es ++ one g w o a ∷ [])) ≡ (is_among v (kept g es) || same v w)
in_here es g v w o a = ap (is_among v) (kept_here es g w o a) ∙ among_add v w (kept g es)

-- before the entry is added, a cell of a kept value is the sum so far
so_far : (es : List Placed) (g h : ℕ) (s : Marks) (c : Cells) (v w : ℤ) (o o' : List ℤ) (a p : ℕ) → Follows es g s → Laid es (length s.val) c
    → is_among v (kept h (es ++ one g w o a ∷ [])) ≡ true → suc p ≡ place h v (es ++ one g w o a ∷ []) → c p o' ≡ wrapped (total (falls h v o') es)
so_far es g h s c v w o o' a p f l i e = by _ refl
  where
    new : is_among v (kept g es) ≡ false → same v w ≡ true → suc p ≡ place g v (es ++ one g w o a ∷ []) → c p o' ≡ wrapped (total (falls g v o') es)
    new n m e =
        let q : v ≡ w = same_is v w m in
        let nw : is_among w (kept g es) ≡ false = ap (λ u. is_among u (kept g es)) (sym q) ∙ n in
        let here : kept g (es ++ one g w o a ∷ []) ≡ kept g es ++ w ∷ [] = kept_here es g w o a ∙ ap (λ b. if b then kept g es else kept g es ++ w ∷ []) nw in
        let x : found v (kept g (es ++ one g w o a ∷ [])) ≡ suc (length (kept g es)) = ap (found v) here ∙ ap (λ u. found u (kept g es ++ w ∷ [])) q ∙ found_new w (kept g es) nw in
        let y : start g (es ++ one g w o a ∷ []) ≡ start g es = ap length (kept_before_here es g g w o a (omega arith)) in
        let z : length s.val ≡ start g es + length (kept g es) = ap length f.val ∙ length-append (kept_before g es) (kept g es) in
        l.empty p o' (omega (arith, e, x, y, z)) ∙ ap wrapped (sym (none_falls es g v o' (sym (among_kept g v es) ∙ n)))

    in_one : (b : Bool) → nat_eq g h ≡ b → is_among v (kept h es) ≡ false → g ≡ h
    in_one true q n = grind arith
    in_one false q n = absurd (let u : is_among v (kept h (es ++ one g w o a ∷ [])) ≡ is_among v (kept h es) = ap (is_among v) (kept_elsewhere es g h w o a (grind arith)) in grind (arith, u, n, i))

    at_new : (h : ℕ) → g ≡ h → is_among v (kept h es) ≡ false → is_among v (kept h (es ++ one g w o a ∷ [])) ≡ true → suc p ≡ place h v (es ++ one g w o a ∷ []) → c p o' ≡ wrapped (total (falls h v o') es)
    at_new h q = subst (λ h. is_among v (kept h es) ≡ false → is_among v (kept h (es ++ one g w o a ∷ [])) ≡ true → suc p ≡ place h v (es ++ one g w o a ∷ []) → c p o' ≡ wrapped (total (falls h v o') es)) q
        (λ n i e. new n (let u : (is_among v (kept g es) || same v w) ≡ true = sym (in_here es g v w o a) ∙ i in grind (arith, u, n)) e)

    by : (b : Bool) → is_among v (kept h es) ≡ b → c p o' ≡ wrapped (total (falls h v o') es)
    by true b = l.cell h v o' p b (e ∙ place_kept es g h v w o a (not_later es g h s v f b) b)
    by false b = at_new h (in_one _ refl b) b i e

-- the entry's mark is the place of its value
mark_is : (es : List Placed) (g : ℕ) (s : Marks) (w : ℤ) (o : List ℤ) (a : ℕ) → Follows es g s → (see g s w).mark w ≡ place g w (es ++ one g w o a ∷ [])
mark_is es g s w o a f =
    let f' : Follows (es ++ one g w o a ∷ []) g (see g s w) = sees es g s w o a f in
    let i : is_among w (kept g (es ++ one g w o a ∷ [])) ≡ true = in_here es g w w o a ∙ grind (arith, same_self w) in
    let m : (see g s w).mark w - start g (es ++ one g w o a ∷ []) ≡ found w (kept g (es ++ one g w o a ∷ [])) = f'.mark w in
    let k : 0 < found w (kept g (es ++ one g w o a ∷ [])) = found_some w _ i in
    omega (arith, m, k)

grows : (g : ℕ) (s : Marks) (w : ℤ) → length s.val ≤ length (see g s w).val
grows g s w = by _
  where
    by : (b : Bool) → length s.val ≤ length (let t : Marks = if b then record { mark = marked s.mark w (suc (length s.val)); ptr = s.ptr; val = s.val ++ w ∷ [] } else s in t.val)
    by true = omega (arith, length-append s.val (w ∷ []))
    by false = omega arith

-- the condition of the sum is that of the definition
same_cell : (es' : List Placed) (g h m p : ℕ) (v w : ℤ) → is_among v (kept h es') ≡ true → is_among w (kept g es') ≡ true → m ≡ place g w es' → suc p ≡ place h v es' → nat_eq m (suc p) ≡ (nat_eq g h && same w v)
same_cell es' g h m p v w i j em ep = by _ refl
  where
    to : (h : ℕ) → g ≡ h → w ≡ v → suc p ≡ place h v es' → m ≡ suc p
    to h q r ep = em ∙ ap (λ g. place g w es') q ∙ ap (λ w. place h w es') r ∙ sym ep

    by : (b : Bool) → nat_eq m (suc p) ≡ b → b ≡ (nat_eq g h && same w v)
    by true e =
        let q : place h v es' ≡ place g w es' = let x : m ≡ suc p = grind arith in sym ep ∙ sym x ∙ em in
        let r = place_one es' h g v w i j q in
        let r0 : h ≡ g = r.0 in let r1 : same v w ≡ true = r.1 in
        grind (arith, ints, r0, r1)
    by false e = by_false _ _ refl refl
      where
        by_false : (c d : Bool) → nat_eq g h ≡ c → same w v ≡ d → false ≡ (c && d)
        by_false true true x y = absurd (let z : m ≡ suc p = to h (grind arith) (same_is w v y) ep in grind (arith, z, e))
        by_false true false x y = refl
        by_false false d x y = refl

sum_by : (n t a : ℕ) (b d : Bool) → b ≡ d → n ≡ wrapped t → (if b then wrapped (n + a) else n) ≡ wrapped (t + (if d then a else 0))
sum_by n t a b true e h = ap (λ b. if b then wrapped (n + a) else n) e ∙ ap (λ n. wrapped (n + a)) h ∙ mod-add-mod t (2 ^ 64) a
sum_by n t a b false e h = ap (λ b. if b then wrapped (n + a) else n) e ∙ h ∙ ap wrapped (let q : t ≡ t + 0 = omega arith in q)

pub lays : (es : List Placed) (g : ℕ) (s : Marks) (c : Cells) (w : ℤ) (o : List ℤ) (a : ℕ) → Follows es g s → Laid es (length s.val) c
    → Laid (es ++ one g w o a ∷ []) (length (see g s w).val) (added c ((see g s w).mark w) o a)
lays es g s c w o a f l = record {
  cell = λ h v o' p i e.
      sum_by (c p o') (total (falls h v o') es) a _ (falls h v o' (one g w o a))
      (ap (λ b. b && same_list o o') (same_cell es' g h m p v w i here (mark_is es g s w o a f) e) ∙ assoc (nat_eq g h) (same w v) (same_list o o'))
      (so_far es g h s c v w o o' a p f l i e)
      ∙ ap wrapped (sym (total-snoc (falls h v o') es (one g w o a)));
  empty = λ p o' k. ap (λ b. if b && same_list o o' then wrapped (c p o' + a) else c p o') (let u : m ≤ length (see g s w).val = f'.bound w in let q : nat_eq m (suc p) ≡ false = grind (arith, u, k) in q) ∙ l.empty p o' (omega (arith, k, grows g s w));
}
  where
    es' : List Placed
    es' = es ++ one g w o a ∷ []

    m : ℕ
    m = (see g s w).mark w

    f' : Follows (es ++ one g w o a ∷ []) g (see g s w)
    f' = sees es g s w o a f

    here : is_among w (kept g (es ++ one g w o a ∷ [])) ≡ true
    here = in_here es g w w o a ∙ grind (arith, same_self w)

    assoc : (a b c : Bool) → ((a && b) && c) ≡ (a && (b && c))
    assoc true b c = refl
    assoc false b c = refl

lays_row : (a : Walk) → Rising a.group → (i j : ℕ) → Laid (met_before a i) (length (marks_of a i).val) (layout a i)
    → Laid (met_before a i ++ row_met a i j) (length (marks_in a i j).val) (laying a i (layout a i) j)
lays_row a r i zero l = subst (λ e. Laid e (length (marks_of a i).val) (layout a i)) (sym (append-nil (met_before a i))) l
lays_row a r i (suc j) l =
    subst (λ e. Laid e (length (marks_in a i (suc j)).val) (laying a i (layout a i) (suc j))) (append_assoc (met_before a i) (row_met a i j) (met a i j ∷ []))
    (lays (met_before a i ++ row_met a i j) (a.group i) (marks_in a i j) (laying a i (layout a i) j) (a.value i j) (a.rest i j) (a.worth i j) (within a r i j) (lays_row a r i j l))

-- behind i rows each cell of the layout is the sum of the entries that fall on it
pub laid : (a : Walk) → Rising a.group → (i : ℕ) → Laid (met_before a i) (length (marks_of a i).val) (layout a i)
laid a r zero = record { cell = λ g w o p i e. absurd (let q : is_among w (kept g []) ≡ false = refl in grind (arith, q, i)); empty = λ p o h. refl }
laid a r (suc i) = lays_row a r i (a.count i) (laid a r i)

laid_sums : (es : List Placed) (n : ℕ) (c : Cells) → Laid es n c → HoldsSums es c n
laid_sums es n c l = record {
  sums = λ g w o h.
      let q : found w (kept g es) ≡ suc (standing w (kept g es)) = found_standing w (kept g es) h in
      l.cell g w o (position g w es) h (omega (arith, q));
  zeros = l.empty;
}

pub holds_sums : (a : Walk) → Rising a.group → (i j : ℕ) → HoldsSums (met_before a i ++ row_met a i j) (laying a i (layout a i) j) (length (marks_in a i j).val)
holds_sums a r i j = laid_sums _ _ _ (lays_row a r i j (laid a r i))

pub holds_all : (a : Walk) → Rising a.group → (i : ℕ) → HoldsSums (met_before a i) (layout a i) (length (marks_of a i).val)
holds_all a r i = laid_sums _ _ _ (laid a r i)
