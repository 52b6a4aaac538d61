-- The padded cells of blocks and diagonals hold the matrix.
use Rattle.std.proofs.Common.{◌≡◌, refl, sym, ap, ◌∙◌, subst, ℕ, zero, suc, ◌+◌, ◌-◌, ◌*◌, ◌/◌, ◌%◌, ◌<◌, ◌≤◌, ℤ, pos, negsuc, ◌+ℤ◌, Bool, true, false, List, [], ◌∷◌, ◌++◌, map, length, nat_eq, cond, arith}
use Rattle.std.proofs.lemmas.Nat.{div-add-mod'}
use Rattle.std.proofs.Math.Nat.{mod-lt}
use Rattle.std.specs.List.{filter, flat_map}
use Rattle.c_meaning.specs.Memory.{Spot, Cells}
use Rattle.sparse_marks.specs.Matrices.{Csr, cell}
use Rattle.sparse_marks.specs.Kept.{same, is_among, kept, start, position, nth}
use Rattle.sparse_marks.specs.Forms.{groups}
use Rattle.sparse_marks.specs.Walks.{walk}
use Rattle.sparse_marks.proofs.Values.{same_is}
use Rattle.sparse_marks.proofs.Keeping.{keeps_each}
use Rattle.sparse_marks.proofs.Standing.{nth_among, standing_nth}
use Rattle.sparse_layouts.specs.Layouts.{layout, blocks, in_block, diagonals, in_diagonal}
use Rattle.sparse_layouts.specs.Laws.{cell_at}
use Rattle.sparse_layouts.specs.Extents.{block_entries, diagonal_entries}
use Rattle.sparse_layouts.specs.Padded.{upto}
use Rattle.sparse_layouts.proofs.Falling.{of_blocks, of_diagonals}
use Rattle.sparse_padding.specs.Bodies.{Body, Padded}
use Rattle.sparse_padding.specs.PaddedCells.{block_cell, cells_of_block, blocks_of_group, padded_blocks, is_column, column_of, cells_of_diagonal, padded_diagonals}
use Rattle.sparse_padding.specs.BodyLaws.{IsUnread, HoldsCell, HoldCells, HoldBlocks, HoldDiagonals, PaddedBlocksKeepEffect, PaddedDiagonalsKeepEffect}
use Rattle.sparse_padding.proofs.Bodies.{cells_keep}

-- each number from 0 to below n
abbrev EachBelow : ℕ → (ℕ → Type 0) → List ℕ → Type 0
EachBelow n P [] = Unit
EachBelow n P (k ∷ ks) = ((k < n) × P k) × EachBelow n P ks

below_append : (n : ℕ) (P : ℕ → Type 0) (ks ls : List ℕ) → EachBelow n P ks → EachBelow n P ls → EachBelow n P (ks ++ ls)
below_append n P [] ls h k = k
below_append n P (x ∷ ks) ls h k = (h.0, below_append n P ks ls h.1 k)

below_upto : (n k : ℕ) → k ≤ n → EachBelow n (λ x. Unit) (upto k)
below_upto n zero h = tt
below_upto n (suc k) h = below_append n (λ x. Unit) (upto k) (k ∷ []) (below_upto n k (omega (arith, h))) ((omega (arith, h), tt), tt)

below_filter : (n : ℕ) (test : ℕ → Bool) (ks : List ℕ) → EachBelow n (λ x. Unit) ks → EachBelow n (λ x. test x ≡ true) (filter test ks)
below_filter n test [] h = tt
below_filter n test (k ∷ ks) h = by (test k) refl (below_filter n test ks h.1)
  where
    by : (b : Bool) → test k ≡ b → EachBelow n (λ x. test x ≡ true) (filter test ks) → EachBelow n (λ x. test x ≡ true) (cond b (k ∷ filter test ks) (filter test ks))
    by true e f = (((h.0).0, e), f)
    by false e f = f

module _ (matrix : Spot → Bool) (b : Body) (m : Csr) (s : Cells) where
  hold_append : (cs ds : List Padded) → HoldCells matrix b m s cs → HoldCells matrix b m s ds → HoldCells matrix b m s (cs ++ ds)
  hold_append [] ds h k = k
  hold_append (c ∷ cs) ds h k = (h.0, hold_append cs ds h.1 k)

  hold_flat : (n : ℕ) (P : ℕ → Type 0) (f : ℕ → List Padded) (ks : List ℕ) → EachBelow n P ks → ((k : ℕ) → k < n → P k → HoldCells matrix b m s (f k)) → HoldCells matrix b m s (flat_map f ks)
  hold_flat n P f [] e h = tt
  hold_flat n P f (k ∷ ks) e h = hold_append (f k) (flat_map f ks) (h k (e.0).0 (e.0).1) (hold_flat n P f ks e.1 h)

  hold_map : (n : ℕ) (P : ℕ → Type 0) (f : ℕ → Padded) (ks : List ℕ) → EachBelow n P ks → ((k : ℕ) → k < n → P k → HoldsCell matrix b m s (f k)) → HoldCells matrix b m s (map f ks)
  hold_map n P f [] e h = tt
  hold_map n P f (k ∷ ks) e h = (h k (e.0).0 (e.0).1, hold_map n P f ks e.1 h)

-- the q-th kept value of a group has the position that stands there
kept_place : (g q : ℕ) (es : List _) → q < length (kept g es) → start g es + q ≡ position g (nth (kept g es) q) es
kept_place g q es h = ap (λ n. start g es + n) (sym (standing_nth (kept g es) q (keeps_each g es).distinct h))

less_first : (n r : ℕ) → 0 < n → (r - r / n * n < n) × (r / n * n + (r - r / n * n) ≡ r)
less_first n r h = let e : r / n * n + r % n ≡ r = div-add-mod' r n in let l : r % n < n = mod-lt r h in (omega (arith, e, l), omega (arith, e))

module _ (matrix : Spot → Bool) (b : Body) (rows cols : ℕ) (lay : ℕ → ℕ → ℕ → Spot) (m : Csr) (s : Cells)
    (h : 0 < rows) (l : 0 < cols) (d : HoldBlocks matrix rows cols lay m s) (unread : (i j : ℕ) → IsUnread b m i j) where
  -- one cell, of the q-th value of group g
  block_held : (g q r j : ℕ) → q < length (kept g (block_entries rows cols m)) → r / rows ≡ g → pos (j / cols) ≡ nth (kept g (block_entries rows cols m)) q
      → s (lay (start g (block_entries rows cols m) + q) (r - r / rows * rows) (j - j / cols * cols)) ≡ cell m r j
  block_held g q r j k e f =
      let u = less_first rows r h in
      let v = less_first cols j l in
      let u1 : r / rows * rows + (r - r / rows * rows) ≡ r = u.1 in
      let v1 : j / cols * cols + (j - j / cols * cols) ≡ j = v.1 in
      let kept_here : is_among (pos (j / cols)) (kept g (block_entries rows cols m)) ≡ true =
      subst (λ w. is_among w (kept g (block_entries rows cols m)) ≡ true) (sym f) (nth_among (kept g (block_entries rows cols m)) q k) in
      d.held (start g (block_entries rows cols m) + q) (r - r / rows * rows) (j - j / cols * cols)
      ∙ ap (λ p. layout (walk (blocks rows cols) (in_block rows cols) m) m.rows p (pos (r - r / rows * rows) ∷ pos (j - j / cols * cols) ∷ []))
      (kept_place g q (block_entries rows cols m) k ∙ ap (λ w. position g w (block_entries rows cols m)) (sym f))
      ∙ of_blocks rows cols m g (j / cols) (r - r / rows * rows) (j - j / cols * cols) u.0 v.0 kept_here
      ∙ ap (λ i. cell m i (j / cols * cols + (j - j / cols * cols))) (ap (λ g. g * rows + (r - r / rows * rows)) (sym e) ∙ u1)
      ∙ ap (cell m r) v1

  holds_block_cell : (g q r j : ℕ) → q < length (kept g (block_entries rows cols m)) → nat_eq (r / rows) g ≡ true → same (pos (j / cols)) (nth (kept g (block_entries rows cols m)) q) ≡ true
      → HoldsCell matrix b m s (block_cell rows cols lay (start g (block_entries rows cols m) + q) r j)
  holds_block_cell g q r j k e f = record {
    held = block_held g q r j k (grind (arith, e)) (same_is _ _ f);
    cell_in = d.cell_in (start g (block_entries rows cols m) + q) (r - r / rows * rows) (j - j / cols * cols);
    unread = unread r j;
  }

  hold_block : (g q : ℕ) → q < length (kept g (block_entries rows cols m)) → HoldCells matrix b m s (cells_of_block rows cols lay m g (nth (kept g (block_entries rows cols m)) q) (start g (block_entries rows cols m) + q))
  hold_block g q k =
      hold_flat matrix b m s m.rows (λ r. nat_eq (r / rows) g ≡ true) (λ r. map (block_cell rows cols lay (start g (block_entries rows cols m) + q) r) (filter (λ j. same (pos (j / cols)) (nth (kept g (block_entries rows cols m)) q)) (upto m.cols)))
      (filter (λ r. nat_eq (r / rows) g) (upto m.rows)) (below_filter m.rows (λ r. nat_eq (r / rows) g) (upto m.rows) (below_upto m.rows m.rows (omega arith)))
      (λ r a e. hold_map matrix b m s m.cols (λ j. same (pos (j / cols)) (nth (kept g (block_entries rows cols m)) q) ≡ true) (block_cell rows cols lay (start g (block_entries rows cols m) + q) r)
      (filter (λ j. same (pos (j / cols)) (nth (kept g (block_entries rows cols m)) q)) (upto m.cols))
      (below_filter m.cols (λ j. same (pos (j / cols)) (nth (kept g (block_entries rows cols m)) q)) (upto m.cols) (below_upto m.cols m.cols (omega arith)))
      (λ j c f. holds_block_cell g q r j k e f))

  hold_group : (g : ℕ) → HoldCells matrix b m s (blocks_of_group rows cols lay m g)
  hold_group g =
      hold_flat matrix b m s (length (kept g (block_entries rows cols m))) (λ x. Unit) (λ q. cells_of_block rows cols lay m g (nth (kept g (block_entries rows cols m)) q) (start g (block_entries rows cols m) + q))
      (upto (length (kept g (block_entries rows cols m)))) (below_upto _ (length (kept g (block_entries rows cols m))) (omega arith)) (λ q k u. hold_block g q k)

  hold_blocks : HoldCells matrix b m s (padded_blocks rows cols lay m)
  hold_blocks = hold_flat matrix b m s (groups (blocks rows cols) m) (λ x. Unit) (blocks_of_group rows cols lay m) (upto (groups (blocks rows cols) m)) (below_upto _ (groups (blocks rows cols) m) (omega arith)) (λ g k u. hold_group g)

pub blocks_keep : PaddedBlocksKeepEffect
blocks_keep matrix b rows cols lay m s h l n o d u = cells_keep matrix b m s (padded_blocks rows cols lay m) n o (hold_blocks matrix b rows cols lay m s h l d u)

module _ (matrix : Spot → Bool) (b : Body) (lay : ℕ → ℕ → Spot) (m : Csr) (s : Cells) (d : HoldDiagonals matrix lay m s) (unread : (i j : ℕ) → IsUnread b m i j) where
  diagonal_held : (q r : ℕ) (x : ℤ) → pos r +ℤ nth (kept 0 (diagonal_entries m)) q ≡ x → is_column m.cols x ≡ true → q < length (kept 0 (diagonal_entries m)) → s (lay q r) ≡ cell m r (column_of x)
  diagonal_held q r (negsuc j) e f k = absurd (grind (arith, f))
  diagonal_held q r (pos j) e f k =
      d.held q r
      ∙ ap (λ p. layout (walk diagonals in_diagonal m) m.rows p (pos r ∷ [])) ((let z : q ≡ 0 + q = omega arith in z) ∙ kept_place 0 q (diagonal_entries m) k)
      ∙ of_diagonals m (nth (kept 0 (diagonal_entries m)) q) r (nth_among (kept 0 (diagonal_entries m)) q k)
      ∙ ap (cell_at m r) e

  hold_diagonal : (q : ℕ) → q < length (kept 0 (diagonal_entries m)) → HoldCells matrix b m s (cells_of_diagonal lay m (nth (kept 0 (diagonal_entries m)) q) q)
  hold_diagonal q k =
      hold_map matrix b m s m.rows (λ r. is_column m.cols (pos r +ℤ nth (kept 0 (diagonal_entries m)) q) ≡ true) (λ r. let c : Padded = record { row = r; col = column_of (pos r +ℤ nth (kept 0 (diagonal_entries m)) q); cell = lay q r } in c)
      (filter (λ r. is_column m.cols (pos r +ℤ nth (kept 0 (diagonal_entries m)) q)) (upto m.rows))
      (below_filter m.rows (λ r. is_column m.cols (pos r +ℤ nth (kept 0 (diagonal_entries m)) q)) (upto m.rows) (below_upto m.rows m.rows (omega arith)))
      (λ r a f. record { held = diagonal_held q r _ refl f k; cell_in = d.cell_in q r; unread = unread r (column_of (pos r +ℤ nth (kept 0 (diagonal_entries m)) q)) })

  hold_diagonals : HoldCells matrix b m s (padded_diagonals lay m)
  hold_diagonals =
      hold_flat matrix b m s (length (kept 0 (diagonal_entries m))) (λ x. Unit) (λ q. cells_of_diagonal lay m (nth (kept 0 (diagonal_entries m)) q) q)
      (upto (length (kept 0 (diagonal_entries m)))) (below_upto _ (length (kept 0 (diagonal_entries m))) (omega arith)) (λ q k u. hold_diagonal q k)

pub diagonals_keep : PaddedDiagonalsKeepEffect
diagonals_keep matrix b lay m s n o d u = cells_keep matrix b m s (padded_diagonals lay m) n o (hold_diagonals matrix b lay m s d u)
