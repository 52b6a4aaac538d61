-- The memories of y[i] += a[k] * x[col[k]] meet the conditions.
use Rattle.std.proofs.Common.{inl, refl, ℕ, zero, suc, ◌+◌, ◌^◌, ◌<◌, ℤ, pos, Bool, true, false, List, [], ◌∷◌, if◌then◌else◌, arith}
use Rattle.std.proofs.Math.Nat.{mod-lt}
use Rattle.c_meaning.specs.Names.{same_name}
use Rattle.sparse_marks.specs.Matrices.{Csr}
use Rattle.sparse_marks.specs.Walks.{Walk, walk}
use Rattle.sparse_marks.specs.Examples.{numbers, three_by_four}
use Rattle.sparse_layouts.specs.Layouts.{Cells as LayoutCells, laying, layout, blocks, in_block, diagonals, in_diagonal}
use Rattle.sparse_layouts.specs.Padded.{row_value}
use Rattle.sparse_padding.specs.Positions.{AreNumbers}
use Rattle.sparse_padding.specs.BodyLaws.{IsOver, IsUnread, HoldRows, HoldBlocks, HoldDiagonals}
use Rattle.sparse_padding.specs.Spmv.{spmv, lay_cell, lay_row, is_matrix, subscript, memory, with_rows, with_blocks, with_diagonals, x_cells, y_cells}

-- all cells are numbers
if_low : (b : Bool) (n k : ℕ) → n < 2 ^ 64 → k < 2 ^ 64 → (if b then n else k) < 2 ^ 64
if_low true n k h l = h
if_low false n k h l = l

positive : 0 < 2 ^ 64
positive = omega arith

abbrev AreLow : List ℕ → Type 0
AreLow [] = Unit
AreLow (x ∷ xs) = (x < 2 ^ 64) × AreLow xs

numbers_low : (xs : List ℕ) (k : ℕ) → AreLow xs → numbers xs k < 2 ^ 64
numbers_low [] k h = positive
numbers_low (x ∷ xs) zero h = h.0
numbers_low (x ∷ xs) (suc k) h = numbers_low xs k h.1

memory_low : (m : Csr) (lay : ℕ → ℕ → ℕ → ℕ) (x y : List ℕ) → ((k : ℕ) → m.worth k < 2 ^ 64) → ((i j k : ℕ) → lay i j k < 2 ^ 64) → AreLow x → AreLow y → AreNumbers (memory m lay x y)
memory_low m lay x y a l h k = record {
  below = λ z.
      if_low (same_name z.array (97 ∷ [])) _ _ (a (subscript z.at 0))
      (if_low (same_name z.array (98 ∷ [])) _ _ (l (subscript z.at 0) (subscript z.at 1) (subscript z.at 2))
      (if_low (same_name z.array (120 ∷ [])) _ _ (numbers_low x (subscript z.at 0) h) (if_low (same_name z.array (121 ∷ [])) _ _ (numbers_low y (subscript z.at 0) k) positive)));
}

laying_low : (a : Walk) (i : ℕ) (c : LayoutCells) (j p : ℕ) (o : List ℤ) → c p o < 2 ^ 64 → laying a i c j p o < 2 ^ 64
laying_low a i c zero p o h = h
laying_low a i c (suc j) p o h = if_low _ _ _ (mod-lt (laying a i c j p o + a.worth i j) positive) (laying_low a i c j p o h)

layout_low : (a : Walk) (n p : ℕ) (o : List ℤ) → layout a n p o < 2 ^ 64
layout_low a zero p o = positive
layout_low a (suc n) p o = laying_low a n (layout a n) (a.count n) p o (layout_low a n p o)

worth_low : (k : ℕ) → three_by_four.worth k < 2 ^ 64
worth_low k = numbers_low (5 ∷ 6 ∷ 7 ∷ 8 ∷ 9 ∷ []) k (omega arith, (omega arith, (omega arith, (omega arith, (omega arith, tt)))))

x_low : AreLow x_cells
x_low = (omega arith, (omega arith, (omega arith, (omega arith, tt))))

y_low : AreLow y_cells
y_low = (omega arith, (omega arith, (omega arith, tt)))

over : (m : Csr) (lay : ℕ → ℕ → ℕ → ℕ) (x y : List ℕ) → IsOver is_matrix spmv m (memory m lay x y)
over m lay x y = record { compound = refl; values = λ i j h l. refl; value_in = λ k. refl; outside = λ i j. refl }

pub rows_over : IsOver is_matrix spmv three_by_four (with_rows three_by_four x_cells y_cells)
rows_over = over three_by_four (λ i j k. row_value three_by_four i j) x_cells y_cells

pub blocks_over : IsOver is_matrix spmv three_by_four (with_blocks three_by_four x_cells y_cells)
blocks_over = over three_by_four (λ p u v. layout (walk (blocks 2 2) (in_block 2 2) three_by_four) 3 p (pos u ∷ pos v ∷ [])) x_cells y_cells

pub diagonals_over : IsOver is_matrix spmv three_by_four (with_diagonals three_by_four x_cells y_cells)
diagonals_over = over three_by_four (λ p i k. layout (walk diagonals in_diagonal three_by_four) 3 p (pos i ∷ [])) x_cells y_cells

pub unread : (m : Csr) (i j : ℕ) → IsUnread spmv m i j
unread m i j = inl refl

pub rows_numbers : AreNumbers (with_rows three_by_four x_cells y_cells)
rows_numbers = memory_low three_by_four (λ i j k. row_value three_by_four i j) x_cells y_cells worth_low (λ i j k. if_low _ _ _ (worth_low (three_by_four.first i + j)) positive) x_low y_low

pub blocks_numbers : AreNumbers (with_blocks three_by_four x_cells y_cells)
blocks_numbers = memory_low three_by_four (λ p u v. layout (walk (blocks 2 2) (in_block 2 2) three_by_four) 3 p (pos u ∷ pos v ∷ [])) x_cells y_cells worth_low (λ p u v. layout_low (walk (blocks 2 2) (in_block 2 2) three_by_four) 3 p (pos u ∷ pos v ∷ [])) x_low y_low

pub diagonals_numbers : AreNumbers (with_diagonals three_by_four x_cells y_cells)
diagonals_numbers = memory_low three_by_four (λ p i k. layout (walk diagonals in_diagonal three_by_four) 3 p (pos i ∷ [])) x_cells y_cells worth_low (λ p i k. layout_low (walk diagonals in_diagonal three_by_four) 3 p (pos i ∷ [])) x_low y_low

pub rows_held : HoldRows is_matrix lay_row three_by_four (with_rows three_by_four x_cells y_cells)
rows_held = record { held = λ i j h l. refl; cell_in = λ i j. refl }

pub blocks_held : HoldBlocks is_matrix 2 2 lay_cell three_by_four (with_blocks three_by_four x_cells y_cells)
blocks_held = record { held = λ p u v. refl; cell_in = λ p u v. refl }

pub diagonals_held : HoldDiagonals is_matrix lay_row three_by_four (with_diagonals three_by_four x_cells y_cells)
diagonals_held = record { held = λ p i. refl; cell_in = λ p i. refl }
