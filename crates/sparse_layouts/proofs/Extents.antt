-- What is stored in layouts and read of them is inside their extents.
use Rattle.std.proofs.Common.{◌≡◌, ◌⊎◌, inl, inr, refl, sym, ap, ◌∙◌, subst, ℕ, zero, suc, ◌+◌, ◌-◌, ◌*◌, ◌/◌, ◌%◌, ◌≤◌, ◌<◌, ℤ, pos, Bool, true, false, ◌&&◌, ◌||◌, List, [], ◌∷◌, ◌++◌, map, nat_eq, nat_lt, if◌then◌else◌, arith}
use Rattle.std.proofs.lemmas.Nat.{div-add-mod', div-mul-add}
use Rattle.std.proofs.Math.Nat.{mod-lt}
use Rattle.sparse_marks.specs.Matrices.{Csr, Entry, count, entries, wrapped}
use Rattle.sparse_marks.specs.Kept.{same, is_among, Placed, kept, position}
use Rattle.sparse_marks.specs.Forms.{Form, group_by, groups, placed, value_at}
use Rattle.sparse_marks.specs.Walks.{Walk, met, row_met, met_before, walk, marks_in}
use Rattle.sparse_marks.specs.Laws.{has}
use Rattle.sparse_marks.specs.Extents.{values_extent, IsBetween}
use Rattle.sparse_marks.proofs.Values.{same_self}
use Rattle.sparse_marks.proofs.Keeping.{keeps_each}
use Rattle.sparse_marks.proofs.Standing.{stands_at}
use Rattle.sparse_marks.proofs.Telling.{met_is}
use Rattle.sparse_marks.proofs.Extents.{fit, extent_is, group_in}
use Rattle.sparse_layouts.specs.Layouts.{same_list, Cells, laying, layout, blocks, in_block, diagonals, in_diagonal}
use Rattle.sparse_layouts.specs.Extents.{diagonal_entries, BlocksFitTheirExtents, DiagonalsFitTheirExtents, RowsFitTheirExtents}
use Rattle.sparse_layouts.proofs.Falling.{same_pos}
use Rattle.sparse_layouts.proofs.Widths.{covers}

-- an entry's value is kept
has_append : (g : ℕ) (w : ℤ) (es fs : List Placed) → has g w (es ++ fs) ≡ (has g w es || has g w fs)
has_append g w [] fs = refl
has_append g w (e ∷ es) fs = grind (arith, has_append g w es fs)

or_right : (b c : Bool) → c ≡ true → (b || c) ≡ true
or_right true c h = refl
or_right false c h = h

or_left : (b c : Bool) → b ≡ true → (b || c) ≡ true
or_left true c h = refl
or_left false c h = absurd (grind (arith, h))

has_row : (a : Walk) (i j k : ℕ) → j < k → has (a.group i) (a.value i j) (row_met a i k) ≡ true
has_row a i j zero h = absurd (omega (arith, h))
has_row a i j (suc k) h = has_append (a.group i) (a.value i j) (row_met a i k) (met a i k ∷ []) ∙ by _ refl (has_row a i j k)
  where
    group_self : nat_eq (a.group i) (a.group i) ≡ true
    group_self = grind arith

    here : (k : ℕ) → j ≡ k → ((nat_eq (a.group i) (a.group i) && same (a.value i k) (a.value i j)) || false) ≡ true
    here k e = subst (λ k. ((nat_eq (a.group i) (a.group i) && same (a.value i k) (a.value i j)) || false) ≡ true) e
        (ap (λ b. (b && same (a.value i j) (a.value i j)) || false) group_self ∙ ap (λ b. b || false) (same_self (a.value i j)))

    by : (b : Bool) → nat_lt j k ≡ b → (j < k → has (a.group i) (a.value i j) (row_met a i k) ≡ true) → (has (a.group i) (a.value i j) (row_met a i k) || has (a.group i) (a.value i j) (met a i k ∷ [])) ≡ true
    by true e f = or_left _ _ (f (grind (arith, e)))
    by false e f = or_right _ _ (here k (grind (arith, e, h)))

has_met : (a : Walk) (i j n : ℕ) → i < n → j < a.count i → has (a.group i) (a.value i j) (met_before a n) ≡ true
has_met a i j zero h l = absurd (omega (arith, h))
has_met a i j (suc n) h l = has_append (a.group i) (a.value i j) (met_before a n) (row_met a n (a.count n)) ∙ by _ refl (has_met a i j n)
  where
    here : (n : ℕ) → i ≡ n → has (a.group i) (a.value i j) (row_met a n (a.count n)) ≡ true
    here n e = subst (λ n. has (a.group i) (a.value i j) (row_met a n (a.count n)) ≡ true) e (has_row a i j (a.count i) l)

    by : (b : Bool) → nat_lt i n ≡ b → (i < n → j < a.count i → has (a.group i) (a.value i j) (met_before a n) ≡ true) → (has (a.group i) (a.value i j) (met_before a n) || has (a.group i) (a.value i j) (row_met a n (a.count n))) ≡ true
    by true e f = or_left _ _ (f (grind (arith, e)) l)
    by false e f = or_right _ _ (here n (grind (arith, e, h)))

pub entry_kept : (f : Form) (rest : Entry → List ℤ) (m : Csr) (i j : ℕ) → i < m.rows → j < count m i
    → is_among (value_at f i (m.col (m.first i + j))) (kept (group_by f.rows i) (map (placed f rest) (entries m))) ≡ true
entry_kept f rest m i j h l =
    let a : has (group_by f.rows i) (value_at f i (m.col (m.first i + j))) (map (placed f rest) (entries m)) ≡ true =
    subst (λ es. has (group_by f.rows i) (value_at f i (m.col (m.first i + j))) es ≡ true) (met_is f rest m m.rows) (has_met (walk f rest m) i j m.rows h l) in
    (keeps_each (group_by f.rows i) (map (placed f rest) (entries m))).complete (value_at f i (m.col (m.first i + j))) ∙ a

stored_in : (f : Form) (rest : Entry → List ℤ) (m : Csr) (i j : ℕ) → i < m.rows → j < count m i
    → position (group_by f.rows i) (value_at f i (m.col (m.first i + j))) (map (placed f rest) (entries m)) < values_extent f rest m
stored_in f rest m i j h l =
    subst (λ n. position (group_by f.rows i) (value_at f i (m.col (m.first i + j))) (map (placed f rest) (entries m)) < n) (sym (extent_is f rest m))
    ((stands_at (map (placed f rest) (entries m))).inside (group_by f.rows i) (groups f m) (value_at f i (m.col (m.first i + j))) (group_in f.rows i m.rows h) (entry_kept f rest m i j h l))

-- a cell on which no entry falls stays 0
and_false : (b c : Bool) → c ≡ false → (b && c) ≡ false
and_false true c h = h
and_false false c h = refl

unlaid : (a : Walk) (i : ℕ) (c : Cells) (p : ℕ) (o : List ℤ) (k : ℕ) → ((j : ℕ) → same_list (a.rest i j) o ≡ false) → c p o ≡ 0 → laying a i c k p o ≡ 0
unlaid a i c p o zero h z = z
unlaid a i c p o (suc k) h z =
    ap (λ b. if b then wrapped (laying a i c k p o + a.worth i k) else laying a i c k p o) (and_false (nat_eq ((marks_in a i (suc k)).mark (a.value i k)) (suc p)) _ (h k))
    ∙ unlaid a i c p o k h z

unfilled : (a : Walk) (p : ℕ) (o : List ℤ) (n : ℕ) → ((i j : ℕ) → i < n → same_list (a.rest i j) o ≡ false) → layout a n p o ≡ 0
unfilled a p o zero h = refl
unfilled a p o (suc n) h = unlaid a n (layout a n) p o (a.count n) (λ j. h n j (omega arith)) (unfilled a p o n (λ i j l. h i j (omega (arith, l))))

differ : (k n u : ℕ) → k < n → n ≤ u → same (pos k) (pos u) ≡ false
differ k n u h l = same_pos k u ∙ (let e : nat_eq k u ≡ false = grind (arith, h, l) in e)

less_first : (n r : ℕ) → 0 < n → r - r / n * n < n
less_first n r h = let e : r / n * n + r % n ≡ r = div-add-mod' r n in let l : r % n < n = mod-lt r h in omega (arith, e, l)

block_outside : (rows cols : ℕ) (r c u v : ℕ) → 0 < rows → 0 < cols → (rows ≤ u) ⊎ (cols ≤ v) → same_list (pos (r % rows) ∷ pos (c % cols) ∷ []) (pos u ∷ pos v ∷ []) ≡ false
block_outside rows cols r c u v h l (inl o) = ap (λ b. b && (same (pos (c % cols)) (pos v) && true)) (differ (r % rows) rows u (mod-lt r h) o)
block_outside rows cols r c u v h l (inr o) = and_false (same (pos (r % rows)) (pos u)) _ (ap (λ b. b && true) (differ (c % cols) cols v (mod-lt c l) o))

pub blocks_fit : BlocksFitTheirExtents
blocks_fit rows cols m h l = record {
  stored = λ i j a b. (stored_in (blocks rows cols) (in_block rows cols) m i j a b, (mod-lt i h, (mod-lt (m.col (m.first i + j)) l, tt)));
  read = λ p r c b. ((fit (blocks rows cols) (in_block rows cols) m).value_inside (r / rows) p b, (less_first rows r h, (less_first cols c l, tt)));
  each_row = λ g u k. div-mul-add g rows u k;
  each_column = λ w v k. div-mul-add w cols v k;
  outside = λ p u v o. unfilled (walk (blocks rows cols) (in_block rows cols) m) p (pos u ∷ pos v ∷ []) m.rows (λ i j k. block_outside rows cols i (m.col (m.first i + j)) u v h l o);
}

-- the one group of diagonals
pub diagonals_fit : DiagonalsFitTheirExtents
diagonals_fit m = record {
  stored = λ i j a b. (stored_in diagonals in_diagonal m i j a b, (a, tt));
  read = λ p r b h. ((fit diagonals in_diagonal m).value_inside 0 p b, (h, tt));
  each = λ p r a. (one_group p ((fit diagonals in_diagonal m).each_value p a.0), a.1.0);
  outside = λ p i h. unfilled (walk diagonals in_diagonal m) p (pos i ∷ []) m.rows (λ k j l. ap (λ b. b && true) (differ k m.rows i l h));
}
  where
    one_group : (p : ℕ) → (g : ℕ) × IsBetween (diagonal_entries m) (groups diagonals m) g p → IsBetween (diagonal_entries m) (groups diagonals m) 0 p
    one_group p b = let l : b.0 < 1 = (b.1).group in let e : b.0 ≡ 0 = omega (arith, l) in subst (λ g. IsBetween (diagonal_entries m) (groups diagonals m) g p) e b.1

pub rows_fit : RowsFitTheirExtents
rows_fit m i j h l = (h, (let w = covers m m.rows i h in omega (arith, l, w), tt))
