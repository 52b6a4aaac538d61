-- Each entry falls on exactly one padded cell.
use Rattle.std.proofs.Common.{◌≡◌, refl, sym, ap, ◌∙◌, subst, ℕ, zero, suc, ◌+◌, ◌/◌, ◌<◌, ℤ, pos, negsuc, ◌+ℤ◌, ◌-ℤ◌, Bool, true, false, ◌&&◌, List, [], ◌∷◌, ◌++◌, map, length, nat_eq, nat_lt, cond, if◌then◌else◌, arith}
use Rattle.std.proofs.lemmas.Int.{ints}
use Rattle.std.specs.List.{filter, flat_map}
use Rattle.c_meaning.specs.Memory.{Spot}
use Rattle.sparse_marks.specs.Matrices.{Csr}
use Rattle.sparse_marks.specs.Kept.{same, is_among, kept, start, standing, nth}
use Rattle.sparse_marks.specs.Forms.{group_by, groups}
use Rattle.sparse_marks.proofs.Values.{same_is, same_self}
use Rattle.sparse_marks.proofs.Keeping.{keeps_each, standing_inside}
use Rattle.sparse_marks.proofs.Standing.{nth_standing, standing_nth}
use Rattle.sparse_marks.proofs.Extents.{group_in}
use Rattle.sparse_layouts.specs.Layouts.{blocks, in_block, diagonals, in_diagonal}
use Rattle.sparse_layouts.specs.Extents.{block_entries, diagonal_entries}
use Rattle.sparse_layouts.specs.Padded.{upto}
use Rattle.sparse_layouts.proofs.Falling.{group_is, plain_value, diagonal_value}
use Rattle.sparse_layouts.proofs.Extents.{entry_kept}
use Rattle.sparse_layouts.proofs.Rows.{entry_column}
use Rattle.sparse_padding.specs.Bodies.{Padded}
use Rattle.sparse_padding.specs.PaddedCells.{block_cell, cells_of_block, blocks_of_group, padded_blocks, is_column, column_of, cells_of_diagonal, padded_diagonals, how_often}
use Rattle.sparse_padding.specs.CellLaws.{EntriesFallOnBlocksOnce, EntriesFallOnDiagonalsOnce}

module _ (i j : ℕ) where
  often_append : (cs ds : List Padded) → how_often i j (cs ++ ds) ≡ how_often i j cs + how_often i j ds
  often_append [] ds = let e : how_often i j ds ≡ 0 + how_often i j ds = omega arith in e
  often_append (c ∷ cs) ds = let e : how_often i j (cs ++ ds) ≡ how_often i j cs + how_often i j ds = often_append cs ds in omega (arith, e)

  -- the last of the numbers that are gone over
  often_last : (f : ℕ → List Padded) (test : ℕ → Bool) (ks : List ℕ) (k : ℕ)
      → how_often i j (flat_map f (filter test (ks ++ k ∷ []))) ≡ how_often i j (flat_map f (filter test ks)) + (if test k then how_often i j (f k) else 0)
  often_last f test [] k = by (test k)
    where
      by : (b : Bool) → how_often i j (flat_map f (cond b (k ∷ []) [])) ≡ 0 + (if b then how_often i j (f k) else 0)
      by true = often_append (f k) [] ∙ (let e : how_often i j (f k) + 0 ≡ 0 + how_often i j (f k) = omega arith in e)
      by false = refl
  often_last f test (x ∷ ks) k = by (test x) (often_last f test ks k)
    where
      by : (b : Bool) → how_often i j (flat_map f (filter test (ks ++ k ∷ []))) ≡ how_often i j (flat_map f (filter test ks)) + (if test k then how_often i j (f k) else 0)
          → how_often i j (flat_map f (cond b (x ∷ filter test (ks ++ k ∷ [])) (filter test (ks ++ k ∷ [])))) ≡ how_often i j (flat_map f (cond b (x ∷ filter test ks) (filter test ks))) + (if test k then how_often i j (f k) else 0)
      by true e =
          let a : how_often i j (f x ++ flat_map f (filter test (ks ++ k ∷ []))) ≡ how_often i j (f x) + how_often i j (flat_map f (filter test (ks ++ k ∷ []))) = often_append (f x) (flat_map f (filter test (ks ++ k ∷ []))) in
          let b : how_often i j (f x ++ flat_map f (filter test ks)) ≡ how_often i j (f x) + how_often i j (flat_map f (filter test ks)) = often_append (f x) (flat_map f (filter test ks)) in
          three (how_often i j (f x)) _ _ _ _ _ a b e
        where
          three : (n a b c d x : ℕ) → a ≡ n + b → c ≡ n + d → b ≡ d + x → a ≡ c + x
          three n a b c d x p q r = omega (arith, p, q, r)
      by false e = e

  none_of : (f : ℕ → List Padded) (test : ℕ → Bool) (n : ℕ) → ((k : ℕ) → k < n → test k ≡ true → how_often i j (f k) ≡ 0) → how_often i j (flat_map f (filter test (upto n))) ≡ 0
  none_of f test zero h = refl
  none_of f test (suc n) h =
      often_last f test (upto n) n ∙ ap (λ a. a + (if test n then how_often i j (f n) else 0)) (none_of f test n (λ k l e. h k (omega (arith, l)) e)) ∙ by (test n) refl
    where
      by : (b : Bool) → test n ≡ b → 0 + (if b then how_often i j (f n) else 0) ≡ 0
      by true e = ap (λ a. 0 + a) (h n (omega arith) e)
      by false e = refl

  -- those of one number count
  one_of : (f : ℕ → List Padded) (test : ℕ → Bool) (n x : ℕ) → x < n → test x ≡ true → ((k : ℕ) → k < n → nat_eq k x ≡ false → test k ≡ true → how_often i j (f k) ≡ 0)
      → how_often i j (flat_map f (filter test (upto n))) ≡ how_often i j (f x)
  one_of f test zero x l t h = absurd (omega (arith, l))
  one_of f test (suc n) x l t h = often_last f test (upto n) n ∙ by _ refl (one_of f test n x)
    where
      is_last : (n : ℕ) → nat_eq n x ≡ true → x ≡ n
      is_last n e = grind arith

      before : (n : ℕ) → nat_eq n x ≡ false → x < suc n → x < n
      before n e l = grind arith

      unlike : (k : ℕ) → k < x → nat_eq k x ≡ false
      unlike k l = grind arith

      last : (n : ℕ) → x ≡ n → ((k : ℕ) → k < suc n → nat_eq k x ≡ false → test k ≡ true → how_often i j (f k) ≡ 0)
          → how_often i j (flat_map f (filter test (upto n))) + (if test n then how_often i j (f n) else 0) ≡ how_often i j (f x)
      last n e = subst (λ n. ((k : ℕ) → k < suc n → nat_eq k x ≡ false → test k ≡ true → how_often i j (f k) ≡ 0)
          → how_often i j (flat_map f (filter test (upto n))) + (if test n then how_often i j (f n) else 0) ≡ how_often i j (f x)) e
          (λ h. ap (λ a. a + (if test x then how_often i j (f x) else 0)) (none_of f test x (λ k l u. h k (omega (arith, l)) (unlike k l) u))
          ∙ ap (λ b. 0 + (if b then how_often i j (f x) else 0)) t ∙ (let z : 0 + how_often i j (f x) ≡ how_often i j (f x) = omega arith in z))

      nothing : (b : Bool) → test n ≡ b → nat_eq n x ≡ false → (if b then how_often i j (f n) else 0) ≡ 0
      nothing true u e = h n (omega arith) e u
      nothing false u e = refl

      by : (b : Bool) → nat_eq n x ≡ b → (x < n → test x ≡ true → ((k : ℕ) → k < n → nat_eq k x ≡ false → test k ≡ true → how_often i j (f k) ≡ 0) → how_often i j (flat_map f (filter test (upto n))) ≡ how_often i j (f x))
          → how_often i j (flat_map f (filter test (upto n))) + (if test n then how_often i j (f n) else 0) ≡ how_often i j (f x)
      by true e g = last n (is_last n e) h
      by false e g =
          ap (λ a. how_often i j (flat_map f (filter test (upto n))) + a) (nothing (test n) refl e)
          ∙ (let z : how_often i j (flat_map f (filter test (upto n))) + 0 ≡ how_often i j (flat_map f (filter test (upto n))) = omega arith in z)
          ∙ g (before n e l) t (λ k u. h k (omega (arith, u)))

  -- without a test, and of single cells
  filter_all : (ks : List ℕ) → filter (λ k. true) ks ≡ ks
  filter_all [] = refl
  filter_all (k ∷ ks) = ap (λ (l : List ℕ). k ∷ l) (filter_all ks)

  one_of_all : (f : ℕ → List Padded) (n x : ℕ) → x < n → ((k : ℕ) → k < n → nat_eq k x ≡ false → how_often i j (f k) ≡ 0) → how_often i j (flat_map f (upto n)) ≡ how_often i j (f x)
  one_of_all f n x l h = ap (λ ks. how_often i j (flat_map f ks)) (sym (filter_all (upto n))) ∙ one_of f (λ k. true) n x l refl (λ k u e t. h k u e)

  map_flat : (f : ℕ → Padded) (ks : List ℕ) → map f ks ≡ flat_map (λ k. f k ∷ []) ks
  map_flat f [] = refl
  map_flat f (k ∷ ks) = ap (λ (l : List Padded). f k ∷ l) (map_flat f ks)

  one_cell : (c : Padded) (b d : Bool) → nat_eq c.row i ≡ b → nat_eq c.col j ≡ d → how_often i j (c ∷ []) ≡ (if b && d then 1 else 0)
  one_cell c b d e f = ap (λ b. (if b && nat_eq c.col j then 1 else 0) + 0) e ∙ ap (λ d. (if b && d then 1 else 0) + 0) f ∙ by (b && d)
    where
      by : (b : Bool) → (if b then 1 else 0) + 0 ≡ (if b then 1 else 0)
      by true = omega arith
      by false = omega arith

self : (n : ℕ) → nat_eq n n ≡ true
self n = grind arith

both_false : (b : Bool) → (if b && false then 1 else 0) ≡ zero
both_false true = refl
both_false false = refl

-- the value of an entry stands at one position alone
stands_once : (g q : ℕ) (w : ℤ) (es : List _) → q < length (kept g es) → nat_eq q (standing w (kept g es)) ≡ false → same w (nth (kept g es) q) ≡ false
stands_once g q w es h e = by _ refl
  where
    by : (b : Bool) → same w (nth (kept g es) q) ≡ b → same w (nth (kept g es) q) ≡ false
    by true s = absurd (let z : standing w (kept g es) ≡ q = ap (λ v. standing v (kept g es)) (same_is w (nth (kept g es) q) s) ∙ standing_nth (kept g es) q (keeps_each g es).distinct h in grind (arith, z, e))
    by false s = s

module _ (rows cols : ℕ) (lay : ℕ → ℕ → ℕ → Spot) (m : Csr) (h : 0 < rows) (l : 0 < cols) (i j : ℕ) (a : i < m.rows) (c : j < m.cols)
    (k : is_among (pos (j / cols)) (kept (i / rows) (block_entries rows cols m)) ≡ true) where
  -- a row of a block
  other_row : (w : ℤ) (p r : ℕ) → nat_eq r i ≡ false → how_often i j (map (block_cell rows cols lay p r) (filter (λ j. same (pos (j / cols)) w) (upto m.cols))) ≡ 0
  other_row w p r e =
      ap (how_often i j) (map_flat i j (block_cell rows cols lay p r) (filter (λ j. same (pos (j / cols)) w) (upto m.cols)))
      ∙ none_of i j (λ x. block_cell rows cols lay p r x ∷ []) (λ j. same (pos (j / cols)) w) m.cols (λ x u t. one_cell i j (block_cell rows cols lay p r x) false _ e refl)

  other_value : (w : ℤ) (p r : ℕ) → same (pos (j / cols)) w ≡ false → how_often i j (map (block_cell rows cols lay p r) (filter (λ j. same (pos (j / cols)) w) (upto m.cols))) ≡ 0
  other_value w p r e =
      ap (how_often i j) (map_flat i j (block_cell rows cols lay p r) (filter (λ j. same (pos (j / cols)) w) (upto m.cols)))
      ∙ none_of i j (λ x. block_cell rows cols lay p r x ∷ []) (λ j. same (pos (j / cols)) w) m.cols
      (λ x u t. one_cell i j (block_cell rows cols lay p r x) _ false refl (differs x t) ∙ both_false (nat_eq r i))
    where
      differs : (x : ℕ) → same (pos (x / cols)) w ≡ true → nat_eq x j ≡ false
      differs x t = by _ refl
        where
          by : (b : Bool) → nat_eq x j ≡ b → nat_eq x j ≡ false
          by true n = absurd (let z : x ≡ j = grind (arith, n) in let y : same (pos (j / cols)) w ≡ true = subst (λ x. same (pos (x / cols)) w ≡ true) z t in grind (arith, y, e))
          by false n = n

  this_row : (w : ℤ) (p : ℕ) → same (pos (j / cols)) w ≡ true → how_often i j (map (block_cell rows cols lay p i) (filter (λ j. same (pos (j / cols)) w) (upto m.cols))) ≡ 1
  this_row w p e =
      ap (how_often i j) (map_flat i j (block_cell rows cols lay p i) (filter (λ j. same (pos (j / cols)) w) (upto m.cols)))
      ∙ one_of i j (λ x. block_cell rows cols lay p i x ∷ []) (λ j. same (pos (j / cols)) w) m.cols j c e
      (λ x u n t. one_cell i j (block_cell rows cols lay p i x) _ false refl n ∙ both_false (nat_eq i i))
      ∙ one_cell i j (block_cell rows cols lay p i j) true true (self i) (self j)

  other_block : (g p : ℕ) (w : ℤ) → same (pos (j / cols)) w ≡ false → how_often i j (cells_of_block rows cols lay m g w p) ≡ 0
  other_block g p w e = none_of i j (λ r. map (block_cell rows cols lay p r) (filter (λ j. same (pos (j / cols)) w) (upto m.cols))) (λ r. nat_eq (r / rows) g) m.rows (λ r u t. other_value w p r e)

  this_block : (p : ℕ) (w : ℤ) → same (pos (j / cols)) w ≡ true → how_often i j (cells_of_block rows cols lay m (i / rows) w p) ≡ 1
  this_block p w e =
      one_of i j (λ r. map (block_cell rows cols lay p r) (filter (λ j. same (pos (j / cols)) w) (upto m.cols))) (λ r. nat_eq (r / rows) (i / rows)) m.rows i a (self (i / rows)) (λ r u n t. other_row w p r n)
      ∙ this_row w p e

  other_group : (g p : ℕ) (w : ℤ) → nat_eq g (i / rows) ≡ false → how_often i j (cells_of_block rows cols lay m g w p) ≡ 0
  other_group g p w e = none_of i j (λ r. map (block_cell rows cols lay p r) (filter (λ j. same (pos (j / cols)) w) (upto m.cols))) (λ r. nat_eq (r / rows) g) m.rows (λ r u t. other_row w p r (differs r t))
    where
      differs : (r : ℕ) → nat_eq (r / rows) g ≡ true → nat_eq r i ≡ false
      differs r t = by _ refl
        where
          by : (b : Bool) → nat_eq r i ≡ b → nat_eq r i ≡ false
          by true n = absurd (let z : r ≡ i = grind (arith, n) in let y : nat_eq (i / rows) g ≡ true = subst (λ r. nat_eq (r / rows) g ≡ true) z t in grind (arith, y, e))
          by false n = n

  group_empty : (g : ℕ) → nat_eq g (i / rows) ≡ false → how_often i j (blocks_of_group rows cols lay m g) ≡ 0
  group_empty g e =
      ap (λ ks. how_often i j (flat_map (λ q. cells_of_block rows cols lay m g (nth (kept g (block_entries rows cols m)) q) (start g (block_entries rows cols m) + q)) ks)) (sym (filter_all i j (upto (length (kept g (block_entries rows cols m))))))
      ∙ none_of i j (λ q. cells_of_block rows cols lay m g (nth (kept g (block_entries rows cols m)) q) (start g (block_entries rows cols m) + q)) (λ q. true) (length (kept g (block_entries rows cols m)))
      (λ q u t. other_group g (start g (block_entries rows cols m) + q) (nth (kept g (block_entries rows cols m)) q) e)

  group_once : how_often i j (blocks_of_group rows cols lay m (i / rows)) ≡ 1
  group_once =
      one_of_all i j (λ q. cells_of_block rows cols lay m (i / rows) (nth (kept (i / rows) (block_entries rows cols m)) q) (start (i / rows) (block_entries rows cols m) + q)) (length (kept (i / rows) (block_entries rows cols m)))
      (standing (pos (j / cols)) (kept (i / rows) (block_entries rows cols m))) (standing_inside (pos (j / cols)) (kept (i / rows) (block_entries rows cols m)) k)
      (λ q u e. other_block (i / rows) (start (i / rows) (block_entries rows cols m) + q) (nth (kept (i / rows) (block_entries rows cols m)) q) (stands_once (i / rows) q (pos (j / cols)) (block_entries rows cols m) u e))
      ∙ this_block (start (i / rows) (block_entries rows cols m) + standing (pos (j / cols)) (kept (i / rows) (block_entries rows cols m)))
      (nth (kept (i / rows) (block_entries rows cols m)) (standing (pos (j / cols)) (kept (i / rows) (block_entries rows cols m))))
      (ap (same (pos (j / cols))) (nth_standing (pos (j / cols)) (kept (i / rows) (block_entries rows cols m)) k) ∙ same_self (pos (j / cols)))

  blocks_once : how_often i j (padded_blocks rows cols lay m) ≡ 1
  blocks_once =
      one_of_all i j (blocks_of_group rows cols lay m) (groups (blocks rows cols) m) (i / rows)
      (subst (λ g. g < groups (blocks rows cols) m) (group_is rows i h) (group_in rows i m.rows a)) (λ g u e. group_empty g e)
      ∙ group_once

pub fall_on_blocks : EntriesFallOnBlocksOnce
fall_on_blocks rows cols lay m v h l i k a b =
    blocks_once rows cols lay m h l i (m.col (m.first i + k)) a (entry_column m v i k a b)
    (subst (λ g. is_among (pos (m.col (m.first i + k) / cols)) (kept g (block_entries rows cols m)) ≡ true) (group_is rows i h)
    (subst (λ w. is_among w (kept (group_by rows i) (block_entries rows cols m)) ≡ true) (plain_value cols i (m.col (m.first i + k)) l) (entry_kept (blocks rows cols) (in_block rows cols) m i k a b)))

-- diagonals
module _ (lay : ℕ → ℕ → Spot) (m : Csr) (i j : ℕ) (a : i < m.rows) (c : j < m.cols) (k : is_among (pos j -ℤ pos i) (kept 0 (diagonal_entries m)) ≡ true) where
  of_row : (w : ℤ) (p r : ℕ) → nat_eq r i ≡ false → how_often i j ((let c : Padded = record { row = r; col = column_of (pos r +ℤ w); cell = lay p r } in c) ∷ []) ≡ 0
  of_row w p r e = one_cell i j (record { row = r; col = column_of (pos r +ℤ w); cell = lay p r }) false _ e refl

  column_is : (x : ℤ) → is_column m.cols x ≡ true → nat_eq (column_of x) j ≡ true → x ≡ pos j
  column_is (pos y) t e = ap pos (let z : y ≡ j = grind (arith, e) in z)
  column_is (negsuc y) t e = absurd (grind (arith, t))

  -- on another diagonal the row has another column
  apart : (w : ℤ) → same (pos j -ℤ pos i) w ≡ false → is_column m.cols (pos i +ℤ w) ≡ true → nat_eq (column_of (pos i +ℤ w)) j ≡ false
  apart w e t = by _ refl
    where
      by : (b : Bool) → nat_eq (column_of (pos i +ℤ w)) j ≡ b → nat_eq (column_of (pos i +ℤ w)) j ≡ false
      by true n = absurd (not_same w e (column_is (pos i +ℤ w) t n))
        where
          not_same : (w : ℤ) → same (pos j -ℤ pos i) w ≡ false → (pos i +ℤ w) ≡ pos j → ⊥
          not_same w e f =
              let z : pos j -ℤ pos i ≡ w = omega (arith, ints, f) in
              let y : same (pos j -ℤ pos i) w ≡ true = ap (same (pos j -ℤ pos i)) (sym z) ∙ same_self (pos j -ℤ pos i) in
              absurd (grind (arith, y, e))
      by false n = n

  other_diagonal : (w : ℤ) (p : ℕ) → same (pos j -ℤ pos i) w ≡ false → how_often i j (cells_of_diagonal lay m w p) ≡ 0
  other_diagonal w p e =
      ap (how_often i j) (map_flat i j (λ r. let c : Padded = record { row = r; col = column_of (pos r +ℤ w); cell = lay p r } in c) (filter (λ r. is_column m.cols (pos r +ℤ w)) (upto m.rows)))
      ∙ none_of i j (λ r. (let c : Padded = record { row = r; col = column_of (pos r +ℤ w); cell = lay p r } in c) ∷ []) (λ r. is_column m.cols (pos r +ℤ w)) m.rows (λ r u t. by r t _ refl)
    where
      here : (r : ℕ) → i ≡ r → is_column m.cols (pos r +ℤ w) ≡ true → nat_eq (column_of (pos r +ℤ w)) j ≡ false
      here r z = subst (λ r. is_column m.cols (pos r +ℤ w) ≡ true → nat_eq (column_of (pos r +ℤ w)) j ≡ false) z (apart w e)

      by : (r : ℕ) → is_column m.cols (pos r +ℤ w) ≡ true → (b : Bool) → nat_eq r i ≡ b → how_often i j ((let c : Padded = record { row = r; col = column_of (pos r +ℤ w); cell = lay p r } in c) ∷ []) ≡ 0
      by r t true n = one_cell i j (record { row = r; col = column_of (pos r +ℤ w); cell = lay p r }) _ false refl (here r (grind (arith, n)) t) ∙ both_false (nat_eq r i)
      by r t false n = of_row w p r n

  there : (pos i +ℤ (pos j -ℤ pos i)) ≡ pos j
  there = omega (arith, ints)

  this_diagonal : (w : ℤ) (p : ℕ) → w ≡ pos j -ℤ pos i → how_often i j (cells_of_diagonal lay m w p) ≡ 1
  this_diagonal w p e =
      ap (how_often i j) (map_flat i j (λ r. let c : Padded = record { row = r; col = column_of (pos r +ℤ w); cell = lay p r } in c) (filter (λ r. is_column m.cols (pos r +ℤ w)) (upto m.rows)))
      ∙ one_of i j (λ r. (let c : Padded = record { row = r; col = column_of (pos r +ℤ w); cell = lay p r } in c) ∷ []) (λ r. is_column m.cols (pos r +ℤ w)) m.rows i a
      (ap (is_column m.cols) x ∙ (let z : nat_lt j m.cols ≡ true = grind (arith, c) in z)) (λ r u n t. of_row w p r n)
      ∙ one_cell i j (record { row = i; col = column_of (pos i +ℤ w); cell = lay p i }) true true (self i) (ap (λ x. nat_eq (column_of x) j) x ∙ self j)
    where
      x : (pos i +ℤ w) ≡ pos j
      x = ap (λ w. pos i +ℤ w) e ∙ there

  diagonals_once : how_often i j (padded_diagonals lay m) ≡ 1
  diagonals_once =
      one_of_all i j (λ q. cells_of_diagonal lay m (nth (kept 0 (diagonal_entries m)) q) q) (length (kept 0 (diagonal_entries m))) (standing (pos j -ℤ pos i) (kept 0 (diagonal_entries m))) (standing_inside _ _ k)
      (λ q u e. other_diagonal (nth (kept 0 (diagonal_entries m)) q) q (stands_once 0 q (pos j -ℤ pos i) (diagonal_entries m) u e))
      ∙ this_diagonal (nth (kept 0 (diagonal_entries m)) (standing (pos j -ℤ pos i) (kept 0 (diagonal_entries m)))) _ (nth_standing (pos j -ℤ pos i) (kept 0 (diagonal_entries m)) k)

pub fall_on_diagonals : EntriesFallOnDiagonalsOnce
fall_on_diagonals lay m v i k a b =
    diagonals_once lay m i (m.col (m.first i + k)) a (entry_column m v i k a b)
    (subst (λ w. is_among w (kept 0 (diagonal_entries m)) ≡ true) (diagonal_value i (m.col (m.first i + k))) (entry_kept diagonals in_diagonal m i k a b))
