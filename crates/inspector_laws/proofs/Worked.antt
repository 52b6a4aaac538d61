-- The worked matrices meet what the laws ask for, and what their runs leave.
use Rattle.std.proofs.Common.{◌≡◌, refl, ap, ◌∙◌, ℕ, zero, suc, ◌≤◌, ◌<◌, ◌^◌, ℤ, pos, false, List, [], ◌∷◌, ◌++◌, map, arith}
use Rattle.c_meaning.specs.Names.{Name, line}
use Rattle.c_meaning.specs.Memory.{Memory}
use Rattle.sparse_marks.specs.Matrices.{Csr, IsCsr, entries}
use Rattle.sparse_marks.specs.Kept.{Placed, kept_before, start, nth}
use Rattle.sparse_marks.specs.Forms.{Form, groups, placed}
use Rattle.sparse_marks.specs.Examples.{three_by_four, repeated, by_blocks, by_columns, by_diagonals}
use Rattle.inspector_runs.specs.Rules.{Goes}
use Rattle.inspector_runs.specs.Shown.{Left, cleared}
use Rattle.c_meaning.specs.Run.{run}
use Rattle.inspectors.specs.Marks.{compact_lines}
use Rattle.inspectors.specs.Rows.{padded_lines}
use Rattle.sparse_layouts.specs.Padded.{row_value, row_column}
use Rattle.inspector_laws.specs.Ready.{Holds, HoldsValues, NamesFit, arrays_of, IsSmallForm, start_count, mark_count, compacted}
use Rattle.inspector_laws.specs.Padding.{RowNamesFit, LeftRows}
use Rattle.inspector_laws.specs.Layouts.{LayoutNamesFit}
use Rattle.inspector_laws.specs.Examples.{names, parameters, memory, made, row_arrays, lay, compacting, padding, first_cells, in_row, table, row_cells, row_columns}
use Rattle.inspector_laws.proofs.Compacting.{compact_leaves}
use Rattle.inspector_laws.proofs.Padding.{pads}

rises : (r : ℕ) → r < 3 → three_by_four.first r ≤ three_by_four.first (suc r)
rises zero h = omega arith
rises (suc zero) h = omega arith
rises (suc (suc zero)) h = omega arith
rises (suc (suc (suc r))) h = absurd (omega (arith, h))

column : (k : ℕ) → k < 5 → three_by_four.col k < 4
column zero h = omega arith
column (suc zero) h = omega arith
column (suc (suc zero)) h = omega arith
column (suc (suc (suc zero))) h = omega arith
column (suc (suc (suc (suc zero)))) h = omega arith
column (suc (suc (suc (suc (suc k))))) h = absurd (omega (arith, h))

pub worked_csr : IsCsr three_by_four
worked_csr = record { begins = refl; rises = rises; column = column }

pub repeated_csr : IsCsr repeated
repeated_csr = record { begins = refl; rises = rises_one; column = columns_two }
  where
    rises_one : (r : ℕ) → r < 1 → repeated.first r ≤ repeated.first (suc r)
    rises_one zero h = omega arith
    rises_one (suc r) h = absurd (omega (arith, h))

    columns_two : (k : ℕ) → k < 3 → repeated.col k < 2
    columns_two zero h = omega arith
    columns_two (suc zero) h = omega arith
    columns_two (suc (suc zero)) h = omega arith
    columns_two (suc (suc (suc k))) h = absurd (omega (arith, h))

memory_holds : (a : Csr) → IsCsr a → a.rows ≤ 2 ^ 24 → a.cols ≤ 2 ^ 24 → a.first a.rows ≤ 2 ^ 24 → Holds names (parameters a) (memory a) a
memory_holds a h p q r = record {
  is_csr = h;
  rows = refl;
  cols = refl;
  index = λ r h. refl;
  col = λ k h. refl;
  index_long = refl;
  col_long = refl;
  rows_small = p;
  cols_small = q;
  entries_small = r;
}

pub worked_holds : Holds names (parameters three_by_four) (memory three_by_four) three_by_four
worked_holds = memory_holds three_by_four worked_csr (omega arith) (omega arith) (omega arith)

pub repeated_holds : Holds names (parameters repeated) (memory repeated) repeated
repeated_holds = memory_holds repeated repeated_csr (omega arith) (omega arith) (omega arith)

small_number : (n : ℕ) → n < 10 → n < 2 ^ 64
small_number n h = let e : 10 ≤ 2 ^ 64 = omega arith in omega (arith, h, e)

pub worked_values : HoldsValues names (memory three_by_four) three_by_four
worked_values = record { value = λ k h. refl; value_long = refl; numbers = λ k h. small_number (three_by_four.worth k) (worth_small k) }
  where
    worth_small : (k : ℕ) → three_by_four.worth k < 10
    worth_small zero = omega arith
    worth_small (suc zero) = omega arith
    worth_small (suc (suc zero)) = omega arith
    worth_small (suc (suc (suc zero))) = omega arith
    worth_small (suc (suc (suc (suc zero)))) = omega arith
    worth_small (suc (suc (suc (suc (suc k))))) = omega arith

pub repeated_values : HoldsValues names (memory repeated) repeated
repeated_values = record { value = λ k h. refl; value_long = refl; numbers = λ k h. small_number (repeated.worth k) (worth_small k) }
  where
    worth_small : (k : ℕ) → repeated.worth k < 10
    worth_small zero = omega arith
    worth_small (suc zero) = omega arith
    worth_small (suc (suc zero)) = omega arith
    worth_small (suc (suc (suc k))) = omega arith

pub worked_row_names : RowNamesFit names row_arrays
worked_row_names = record { wid_lay = refl; wid_lcol = refl; lay_lcol = refl; index = refl; col = refl; value = refl; row_rows = refl; entry_rows = refl }

pub worked_lay_names : LayoutNamesFit names (arrays_of made) lay
worked_lay_names = record { made = refl; index = refl; col = refl; value = refl; value_made = refl }

pub worked_names : NamesFit names (arrays_of made)
worked_names = record {
  apart = record { ptr_val = refl; ptr_num = refl; ptr_mark = refl; val_num = refl; val_mark = refl; num_mark = refl };
  index = refl;
  col = refl;
  row_rows = refl;
  row_cols = refl;
  entry_rows = refl;
  entry_cols = refl;
}

pub columns_fit : IsSmallForm by_columns
columns_fit = record { c = omega arith; s0 = omega arith; divisor = omega arith }

pub blocks_fit : IsSmallForm by_blocks
blocks_fit = record { c = omega arith; s0 = omega arith; divisor = omega arith }

pub diagonals_fit : IsSmallForm by_diagonals
diagonals_fit = record { c = omega arith; s0 = omega arith; divisor = omega arith }

-- the law at the worked matrix
abbrev entries_of : Form → List Placed
entries_of f = map (placed f (λ e. [])) (entries three_by_four)

pub goes : (f : Form) → IsSmallForm f → Goes (run (compact_lines (compacted names false f) made) (parameters three_by_four)) (memory three_by_four) 8 (Left (arrays_of made) (start_count f three_by_four) (mark_count f three_by_four) (cleared (arrays_of made) (memory three_by_four)) (entries_of f) (groups f three_by_four))
goes f k = compact_leaves names false f made (parameters three_by_four) (memory three_by_four) three_by_four worked_holds worked_names k

-- the first cells of an array by their numbers
abbrev numbers_to : (ℕ → ℤ) → ℕ → List ℤ
numbers_to f zero = []
numbers_to f (suc n) = numbers_to f n ++ f n ∷ []

pub cells_are : (m : Memory) (a : Name) (f : ℕ → ℤ) (n : ℕ) → ((k : ℕ) → k < n → m.index a (line (pos k)) ≡ f k) → first_cells m a n ≡ numbers_to f n
cells_are m a f zero h = refl
cells_are m a f (suc n) h =
    ap (λ l. l ++ m.index a (line (pos n)) ∷ []) (cells_are m a f n (λ k l. h k (omega (arith, l))))
    ∙ ap (λ v. numbers_to f n ++ v ∷ []) (h n (omega arith))

pub starts_are : (f : Form) → IsSmallForm f → first_cells (compacting f).last made.ptr (suc (groups f three_by_four)) ≡ numbers_to (λ g. pos (start g (entries_of f))) (suc (groups f three_by_four))
starts_are f k = cells_are (compacting f).last made.ptr _ (suc (groups f three_by_four)) (λ g h. (goes f k).meets.ptr g (omega (arith, h)))

pub values_are : (f : Form) → IsSmallForm f → (n : ℕ) → first_cells (compacting f).last made.val n ≡ numbers_to (nth (kept_before (groups f three_by_four) (entries_of f))) n
values_are f k n = cells_are (compacting f).last made.val _ n (λ p h. (goes f k).meets.val p)

pub number_is : (f : Form) → IsSmallForm f → first_cells (compacting f).last made.num 1 ≡ pos (start (groups f three_by_four) (entries_of f)) ∷ []
number_is f k = ap (λ v. v ∷ []) (goes f k).meets.num

-- padded rows
pub pads_rows : Goes (run (padded_lines names row_arrays) (parameters three_by_four)) (memory three_by_four) 11 (LeftRows row_arrays (memory three_by_four) three_by_four)
pads_rows = pads names row_arrays (parameters three_by_four) (memory three_by_four) three_by_four worked_holds worked_values worked_row_names

row_is : {A : Type 0} → (f g : ℕ → ℕ → A) (i w : ℕ) → ((s : ℕ) → f i s ≡ g i s) → in_row f i w ≡ in_row g i w
row_is f g i zero h = refl
row_is f g i (suc w) h = ap (λ l. l ++ f i w ∷ []) (row_is f g i w h) ∙ ap (λ v. in_row g i w ++ v ∷ []) (h w)

table_is : {A : Type 0} → (f g : ℕ → ℕ → A) (n w : ℕ) → ((i s : ℕ) → i < n → f i s ≡ g i s) → table f n w ≡ table g n w
table_is f g zero w h = refl
table_is f g (suc n) w h = ap (λ l. l ++ in_row f n w) (table_is f g n w (λ i s l. h i s (omega (arith, l)))) ∙ ap (λ l. table g n w ++ l) (row_is f g n w (λ s. h n s (omega arith)))

pub row_values_are : row_cells padding.last ≡ 5 ∷ 6 ∷ 7 ∷ 0 ∷ 8 ∷ 9 ∷ []
row_values_are = table_is _ (row_value three_by_four) 3 2 (λ i s h. pads_rows.meets.values i s h)

pub row_columns_are : row_columns padding.last ≡ pos 0 ∷ pos 2 ∷ pos 1 ∷ pos 0 ∷ pos 0 ∷ pos 3 ∷ []
row_columns_are = table_is _ (λ i s. pos (row_column three_by_four i s)) 3 2 (λ i s h. pads_rows.meets.columns i s h)

pub row_width_is : first_cells padding.last row_arrays.wid 1 ≡ pos 2 ∷ []
row_width_is = ap (λ v. v ∷ []) pads_rows.meets.wid
