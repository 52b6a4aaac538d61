-- The worked matrix meets what the laws ask for, and what its runs leave.
use Rattle.std.proofs.Common.{◌≡◌, inr, refl, sym, ap, ◌∙◌, ℕ, zero, suc, ◌+◌, ◌≤◌, ◌<◌, ℤ, pos, ◌+ℤ◌, ◌-ℤ◌, ◌≤ℤ◌, ◌<ℤ◌, List, [], ◌∷◌, ◌++◌, Ok, arith}
use Rattle.std.proofs.lemmas.Int.{ints}
use Rattle.c_tree.specs.declared.index.Index.{Index}
use Rattle.c_tree.specs.declared.index.Index.TheVariants.{Const, Var, At, Plus}
use Rattle.c_meaning.specs.Names.{Name, line}
use Rattle.c_meaning.specs.Weighed.{greatest, plain}
use Rattle.c_meaning.specs.Value.{value_of}
use Rattle.c_meaning.specs.Memory.{Memory, sight_of}
use Rattle.c_meaning.specs.Run.{run}
use Rattle.c_meaning.proofs.Equations.{measure-Const, measure-Var}
use Rattle.sparse_marks.specs.Kept.{kept_before, start, nth}
use Rattle.sparse_marks.specs.Marks.{unmarked}
use Rattle.sparse_marks.specs.Matrices.{count}
use Rattle.sparse_marks.specs.Walks.{met_before, sum_below}
use Rattle.sparse_marks.specs.Examples.{three_by_four}
use Rattle.inspector_runs.specs.Rules.{Goes, run_at}
use Rattle.inspector_runs.specs.Texts.{cell, marking_lines, kept_lines}
use Rattle.inspector_runs.specs.Shown.{Agrees, Shows, Left, Fits, cleared, SizesFit, row_env, turn_env}
use Rattle.inspector_runs.specs.Laws.{sizes}
use Rattle.inspector_runs.specs.Examples.{made, index_name, column_name, row_name, entry_name, text, loops, parameters, memory, columns, first_cells}
use Rattle.inspector_runs.proofs.Values.{inside_long, value_by, value_read, value_const, value_var, value_plus}
use Rattle.inspector_runs.proofs.Whole.{leaves}
use Rattle.inspector_runs.proofs.Heads.{lines_leave, no_rows}

from_zero : (n : ℕ) → pos 0 ≤ℤ pos n
from_zero n = grind (arith, ints)

below : (k n : ℕ) → k < n → pos k <ℤ pos n
below k n h = grind (arith, ints)

one_more : (n : ℕ) → pos n +ℤ pos 1 ≡ pos (suc n)
one_more n = grind (arith, ints)

zero_and : (i : ℕ) → pos 0 +ℤ pos i ≡ pos i
zero_and i = grind (arith, ints)

less_zero : (n : ℕ) → pos n -ℤ pos 0 ≡ pos n
less_zero n = grind (arith, ints)

none : (i : ℕ) → i < 0 → ⊥
none i h = omega (arith, h)

-- the numbers of the matrix
begins_small : (r : ℕ) → r < 4 → three_by_four.first r ≤ 5
begins_small zero h = omega arith
begins_small (suc zero) h = omega arith
begins_small (suc (suc zero)) h = omega arith
begins_small (suc (suc (suc zero))) h = omega arith
begins_small (suc (suc (suc (suc r)))) h = absurd (omega (arith, h))

ends : (i : ℕ) → i < 3 → three_by_four.first i + count three_by_four i ≡ three_by_four.first (suc i)
ends zero h = refl
ends (suc zero) h = refl
ends (suc (suc zero)) h = refl
ends (suc (suc (suc i))) h = absurd (omega (arith, h))

place_in : (i j : ℕ) → i < 3 → j < count three_by_four i → three_by_four.first i + j < 5
place_in i j h k = let e : three_by_four.first i + count three_by_four i ≡ three_by_four.first (suc i) = ends i h in let l : three_by_four.first (suc i) ≤ 5 = begins_small (suc i) (omega (arith, h)) in omega (arith, e, l, k)

column_small : (k : ℕ) → three_by_four.col k ≤ 3
column_small zero = omega arith
column_small (suc zero) = omega arith
column_small (suc (suc zero)) = omega arith
column_small (suc (suc (suc zero))) = omega arith
column_small (suc (suc (suc (suc zero)))) = omega arith
column_small (suc (suc (suc (suc (suc k))))) = omega arith

five : (n : ℕ) → n ≤ 5 → n ≤ greatest
five n h = let l : 5 ≤ greatest = omega arith in omega (arith, h, l)

module _ (base : Memory) (same_index : (a : Name) → base.index a ≡ memory.index a) (same_extents : (a : Name) → base.extents a ≡ memory.extents a) where
  -- a row's first place, and an entry's column
  begins : (e : Index) (r i n : ℕ) (m : Memory) → r < 4 → Agrees made base m → value_of e (sight_of (row_env loops (parameters n) i) m) ≡ Ok (pos r)
      → value_of (At (cell index_name e)) (sight_of (row_env loops (parameters n) i) m) ≡ Ok (pos (three_by_four.first r))
  begins e r i n m h g v =
      value_read index_name e (row_env loops (parameters n) i) m (pos r) (pos (three_by_four.first r)) v
      (inside_long (m.extents index_name) (pos r) (pos 4) (g.extents index_name refl ∙ same_extents index_name) (from_zero r) (below r 4 h))
      (ap (λ f. f (line (pos r))) (g.index index_name refl ∙ same_index index_name))
      (five (three_by_four.first r) (begins_small r h))

  column_value : (i j n : ℕ) (m : Memory) → i < 3 → j < count three_by_four i → Agrees made base m
      → value_of (At (cell column_name (Var entry_name))) (sight_of (turn_env loops (parameters n) i (three_by_four.first i) j) m) ≡ Ok (pos (three_by_four.col (three_by_four.first i + j)))
  column_value i j n m h k g =
      let at : ℕ = three_by_four.first i + j in
      let in_five : three_by_four.first i + j < 5 = place_in i j h k in
      value_read column_name (Var entry_name) (turn_env loops (parameters n) i (three_by_four.first i) j) m (pos at) (pos (three_by_four.col at))
      (value_var entry_name (sight_of (turn_env loops (parameters n) i (three_by_four.first i) j) m) (five at (let l : three_by_four.first i + j ≤ 5 = omega (arith, in_five) in l)))
      (inside_long (m.extents column_name) (pos at) (pos 5) (g.extents column_name refl ∙ same_extents column_name) (from_zero at) (below at 5 in_five))
      (ap (λ f. f (line (pos at))) (g.index column_name refl ∙ same_index column_name))
      (five (three_by_four.col at) (let l : three_by_four.col (three_by_four.first i + j) ≤ 3 = column_small at in omega (arith, l)))

  row_value : (i n : ℕ) (m : Memory) → i < 3 → value_of (Var row_name) (sight_of (row_env loops (parameters n) i) m) ≡ Ok (pos i)
  row_value i n m h = value_by (Var row_name) _ (plain (pos i)) (measure-Var row_name (sight_of (row_env loops (parameters n) i) m) ∙ ap (λ v. Ok (plain v)) (zero_and i)) (five i (omega (arith, h)))

  next_value : (i n : ℕ) (m : Memory) → i < 3 → value_of (Plus (Var row_name) (Const (pos 1))) (sight_of (row_env loops (parameters n) i) m) ≡ Ok (pos (suc i))
  next_value i n m h =
      value_plus (Var row_name) (Const (pos 1)) (sight_of (row_env loops (parameters n) i) m) (plain (pos i)) (plain (pos 1))
      (measure-Var row_name (sight_of (row_env loops (parameters n) i) m) ∙ ap (λ v. Ok (plain v)) (zero_and i)) (measure-Const (pos 1) _) (five (i + 1) (omega (arith, h)))
      ∙ ap Ok (one_more i)

  pub fits_of : (n : ℕ) → n ≤ 3 → Fits made text loops (parameters n) base (sizes (pos 0) 4 4) n three_by_four.first columns
  fits_of n l = record {
    apart = record { ptr_val = refl; ptr_num = refl; ptr_mark = refl; val_num = refl; val_mark = refl; num_mark = refl };
    rising = record { begin = refl; next = λ i. inr refl };
    rows_are = λ m. value_var loops.rows (sight_of (parameters n) m) (five n (omega (arith, l)));
    from = λ i m h g. begins (Var row_name) i i n m (omega (arith, h, l)) g (row_value i n m (omega (arith, h, l)));
    to = λ i m h g. begins (Plus (Var row_name) (Const (pos 1))) (suc i) i n m (omega (arith, h, l)) g (next_value i n m (omega (arith, h, l))) ∙ ap (λ k. Ok (pos k)) (sym (ends i (omega (arith, h, l))));
    next = λ i m h g. next_value i n m (omega (arith, h, l));
    groups_in = λ i h. below (suc i) 4 (omega (arith, h, l));
    gives = λ i j h k. record {
      value = λ m g. column_value i j n m (omega (arith, h, l)) k g;
      from_low = λ m g. column_value i j n m (omega (arith, h, l)) k g ∙ ap Ok (sym (less_zero (three_by_four.col (three_by_four.first i + j))));
      group = λ m g. value_by (Var row_name) _ (plain (pos i)) (measure-Var row_name (sight_of (turn_env loops (parameters n) i (three_by_four.first i) j) m) ∙ ap (λ v. Ok (plain v)) (zero_and i)) (five i (omega (arith, h, l)));
    };
    low_in = λ i j h k. from_low_in (three_by_four.col (three_by_four.first i + j));
    high_in = λ i j h k. to_high (three_by_four.col (three_by_four.first i + j)) (column_small (three_by_four.first i + j));
    small = all_small n l;
  }
    where
      from_low_in : (v : ℕ) → pos 0 ≤ℤ (pos v -ℤ pos 0)
      from_low_in v = grind (arith, ints)

      to_high : (v : ℕ) → v ≤ 3 → (pos v -ℤ pos 0) <ℤ pos 4
      to_high v h = grind (arith, ints)

      all_small : (n : ℕ) → n ≤ 3 → sum_below columns.count n + 2 ≤ greatest
      all_small zero h = omega arith
      all_small (suc zero) h = omega arith
      all_small (suc (suc zero)) h = omega arith
      all_small (suc (suc (suc zero))) h = omega arith
      all_small (suc (suc (suc (suc n)))) h = absurd (omega (arith, h))

pub fits_memory : Fits made text loops (parameters 3) memory (sizes (pos 0) 4 4) 3 three_by_four.first columns
fits_memory = fits_of memory (λ a. refl) (λ a. refl) 3 (omega arith)

pub fits_cleared : (n : ℕ) → n ≤ 3 → Fits made text loops (parameters n) (cleared made memory) (sizes (pos 0) 4 4) n three_by_four.first columns
fits_cleared n h = fits_of (cleared made memory) (λ a. refl) (λ a. refl) n h

pub sizes_are : (n : ℕ) → SizesFit made (parameters n) (cleared made memory) (Const (pos 4)) (Const (pos 4)) 4 4
sizes_are n = record {
  starts_are = λ m g. value_const (pos 4) (sight_of (parameters n) m) (omega arith);
  marks_are = λ m g. value_const (pos 4) (sight_of (parameters n) m) (omega arith);
  starts_small = omega arith;
  marks_small = omega arith;
}

pub begins_unmarked : Shows made (sizes (pos 0) 4 4) memory unmarked memory
begins_unmarked = record {
  mark = λ d. refl;
  ptr = λ g. refl;
  val = λ p. refl;
  num = refl;
  mark_long = refl;
  ptr_long = refl;
  val_long = refl;
  num_long = refl;
  others = record { index = λ a h. refl; extents = λ a h. refl; cells = refl };
}

-- the laws at the worked matrix
pub marks : Goes (run_at (marking_lines made text loops) (parameters 3) [] 0) memory 8 (Left made (pos 4) (pos 4) memory (met_before columns 3) 3)
marks = (leaves made text loops (parameters 3) memory (sizes (pos 0) 4 4) 2 three_by_four.first columns fits_memory [] 0 memory begins_unmarked).goes

pub keeps : Goes (run (kept_lines made text loops (Const (pos 4)) (Const (pos 4))) (parameters 3)) memory 8 (Left made (pos 4) (pos 4) (cleared made memory) (met_before columns 3) 3)
keeps = lines_leave made text loops (Const (pos 4)) (Const (pos 4)) (parameters 3) memory (pos 0) 4 4 2 three_by_four.first columns (sizes_are 3) (fits_cleared 3 (omega arith))

pub keeps_none : Goes (run (kept_lines made text loops (Const (pos 4)) (Const (pos 4))) (parameters 0)) memory 0 (Left made (pos 4) (pos 4) (cleared made memory) [] 3)
keeps_none = no_rows made text loops (Const (pos 4)) (Const (pos 4)) (parameters 0) memory (pos 0) 4 4 3 three_by_four.first columns (sizes_are 0) (fits_cleared 0 (omega arith))

-- the first cells of an array by their numbers
abbrev pub numbers_to : (ℕ → ℤ) → ℕ → List ℤ
numbers_to f zero = []
numbers_to f (suc n) = numbers_to f n ++ f n ∷ []

pub cells_are : (m : Memory) (a : Name) (f : ℕ → ℤ) (n : ℕ) → ((k : ℕ) → k < n → m.index a (line (pos k)) ≡ f k) → first_cells m a n ≡ numbers_to f n
cells_are m a f zero h = refl
cells_are m a f (suc n) h =
    ap (λ l. l ++ m.index a (line (pos n)) ∷ []) (cells_are m a f n (λ k l. h k (omega (arith, l))))
    ∙ ap (λ v. numbers_to f n ++ v ∷ []) (h n (omega arith))

pub starts_are : (base m : Memory) → Left made (pos 4) (pos 4) base (met_before columns 3) 3 m → first_cells m made.ptr 4 ≡ pos 0 ∷ pos 2 ∷ pos 3 ∷ pos 5 ∷ []
starts_are base m l = cells_are m made.ptr (λ g. pos (start g (met_before columns 3))) 4 (λ g h. l.ptr g (omega (arith, h)))

pub values_are : (base m : Memory) → Left made (pos 4) (pos 4) base (met_before columns 3) 3 m → first_cells m made.val 5 ≡ pos 0 ∷ pos 2 ∷ pos 1 ∷ pos 0 ∷ pos 3 ∷ []
values_are base m l = cells_are m made.val (nth (kept_before 3 (met_before columns 3))) 5 (λ p h. l.val p)

pub number_is : (base m : Memory) → Left made (pos 4) (pos 4) base (met_before columns 3) 3 m → first_cells m made.num 1 ≡ pos 5 ∷ []
number_is base m l = ap (λ v. v ∷ []) l.num
