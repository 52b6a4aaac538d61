-- What the made arrays show.
use Rattle.std.specs.Prelude.{◌≡◌, ℕ, suc, ◌+◌, ◌≤◌, ◌<◌, ℤ, pos, ◌+ℤ◌, ◌-ℤ◌, ◌≤ℤ◌, ◌<ℤ◌, Bool, false, ◌||◌, List, [], ◌∷◌, length, Ok, if◌then◌else◌}
use Rattle.c_tree.specs.declared.index.Index.{Index}
use Rattle.c_tree.specs.declared.index.Index.TheVariants.{Const, Var, At, Plus}
use Rattle.c_meaning.specs.Names.{Name, same_name, line}
use Rattle.c_meaning.specs.Weighed.{greatest}
use Rattle.c_meaning.specs.Value.{value_of}
use Rattle.c_meaning.specs.Memory.{Memory, Spot, Env, sight_of, bound}
use Rattle.sparse_marks.specs.Kept.{Placed, kept_before, start, nth}
use Rattle.sparse_marks.specs.Marks.{Marks}
use Rattle.sparse_marks.specs.Walks.{Walk, Rising, sum_below}
use Rattle.inspector_runs.specs.Texts.{Arrays, Text, Loops, cell}

-- the extents of an array with one subscript
abbrev pub long : ℤ → List ℤ
long n = n ∷ pos 1 ∷ pos 1 ∷ []

abbrev pub is_made : Arrays → Name → Bool
is_made b a = (same_name b.ptr a || same_name b.val a) || (same_name b.num a || same_name b.mark a)

-- all but the made arrays is as it was
pub record Agrees (b : Arrays) (base m : Memory) : Type 0 where
  pub index : (a : Name) → is_made b a ≡ false → m.index a ≡ base.index a
  pub extents : (a : Name) → is_made b a ≡ false → m.extents a ≡ base.extents a
  pub cells : m.cells ≡ base.cells

-- all but the arrays of some names is as it was
pub record Spares (own : Name → Bool) (base m : Memory) : Type 0 where
  pub index : (a : Name) → own a ≡ false → m.index a ≡ base.index a
  pub extents : (a : Name) → own a ≡ false → m.extents a ≡ base.extents a
  pub cells : (y : Spot) → own y.array ≡ false → m.cells y ≡ base.cells y

-- no two of the made arrays have one name
pub record Apart (b : Arrays) : Type 0 where
  pub ptr_val : same_name b.ptr b.val ≡ false
  pub ptr_num : same_name b.ptr b.num ≡ false
  pub ptr_mark : same_name b.ptr b.mark ≡ false
  pub val_num : same_name b.val b.num ≡ false
  pub val_mark : same_name b.val b.mark ≡ false
  pub num_mark : same_name b.num b.mark ≡ false

-- the least value has the first mark; there are so many marks, and so many cells for the starts of groups
pub record Sizes : Type 0 where
  pub low : ℤ
  pub marks : ℤ
  pub starts : ℤ

-- the made arrays show the marks, and all else is as it was
pub record Shows (b : Arrays) (z : Sizes) (base : Memory) (s : Marks) (m : Memory) : Type 0 where
  pub mark : (d : ℤ) → m.index b.mark (line d) ≡ pos (s.mark (d +ℤ z.low))
  pub ptr : (g : ℕ) → m.index b.ptr (line (pos g)) ≡ pos (s.ptr g)
  pub val : (p : ℕ) → m.index b.val (line (pos p)) ≡ nth s.val p
  pub num : m.index b.num (line (pos 0)) ≡ pos (length s.val)
  pub mark_long : m.extents b.mark ≡ long z.marks
  pub ptr_long : m.extents b.ptr ≡ long z.starts
  pub val_long : m.extents b.val ≡ long (pos (length s.val))
  pub num_long : m.extents b.num ≡ long (pos 1)
  pub others : Agrees b base m

-- the made arrays hold the kept values, with so many cells for the starts of groups and so many for marks, and all else is as it was
pub record Left (b : Arrays) (starts marks : ℤ) (base : Memory) (es : List Placed) (groups : ℕ) (m : Memory) : Type 0 where
  pub ptr : (g : ℕ) → g ≤ groups → m.index b.ptr (line (pos g)) ≡ pos (start g es)
  pub val : (p : ℕ) → m.index b.val (line (pos p)) ≡ nth (kept_before groups es) p
  pub num : m.index b.num (line (pos 0)) ≡ pos (start groups es)
  pub mark_long : m.extents b.mark ≡ long marks
  pub ptr_long : m.extents b.ptr ≡ long starts
  pub val_long : m.extents b.val ≡ long (pos (start groups es))
  pub num_long : m.extents b.num ≡ long (pos 1)
  pub others : Agrees b base m

-- in the turn of an entry the expressions have these values: w, which is d above the least value, and group g
pub record Gives (b : Arrays) (x : Text) (c : Env) (base : Memory) (w d : ℤ) (g : ℕ) : Type 0 where
  pub value : (m : Memory) → Agrees b base m → value_of x.value (sight_of c m) ≡ Ok w
  pub from_low : (m : Memory) → Agrees b base m → value_of x.from_low (sight_of c m) ≡ Ok d
  pub group : (m : Memory) → Agrees b base m → value_of x.group (sight_of c m) ≡ Ok (pos g)

-- the names' values in row i, and in the turn of its entry j, where its entries begin at `first`
abbrev pub row_env : Loops → Env → ℕ → Env
row_env l c i = bound l.row (pos 0 +ℤ pos i) c

abbrev pub turn_env : Loops → Env → ℕ → ℕ → ℕ → Env
turn_env l c i first j = bound l.entry (pos first +ℤ pos j) (row_env l c i)

-- the lines are those of this walk: their bounds, their groups and their values are the walk's
pub record Fits (b : Arrays) (x : Text) (l : Loops) (c : Env) (base : Memory) (z : Sizes) (rows : ℕ) (first : ℕ → ℕ) (a : Walk) : Type 0 where
  pub apart : Apart b
  pub rising : Rising a.group
  pub rows_are : (m : Memory) → value_of (Var l.rows) (sight_of c m) ≡ Ok (pos rows)
  pub from : (i : ℕ) (m : Memory) → i < rows → Agrees b base m → value_of (At (cell l.index (Var l.row))) (sight_of (row_env l c i) m) ≡ Ok (pos (first i))
  pub to : (i : ℕ) (m : Memory) → i < rows → Agrees b base m → value_of (At (cell l.index (Plus (Var l.row) (Const (pos 1))))) (sight_of (row_env l c i) m) ≡ Ok (pos (first i) +ℤ pos (a.count i))
  pub next : (i : ℕ) (m : Memory) → i < rows → Agrees b base m → value_of x.next_group (sight_of (row_env l c i) m) ≡ Ok (pos (suc (a.group i)))
  pub groups_in : (i : ℕ) → i < rows → pos (suc (a.group i)) <ℤ z.starts
  pub gives : (i j : ℕ) → i < rows → j < a.count i → Gives b x (turn_env l c i (first i) j) base (a.value i j) (a.value i j -ℤ z.low) (a.group i)
  pub low_in : (i j : ℕ) → i < rows → j < a.count i → pos 0 ≤ℤ (a.value i j -ℤ z.low)
  pub high_in : (i j : ℕ) → i < rows → j < a.count i → (a.value i j -ℤ z.low) <ℤ z.marks
  pub small : sum_below a.count rows + 2 ≤ greatest

-- the memory in which the data cells of the made names hold 0
abbrev pub cleared : Arrays → Memory → Memory
cleared b m = record m { cells = λ x. if is_made b x.array then 0 else m.cells x }

-- the expressions of the head have the sizes, which are within the limits
pub record SizesFit (b : Arrays) (c : Env) (base : Memory) (starts marks : Index) (s k : ℕ) : Type 0 where
  pub starts_are : (m : Memory) → Agrees b base m → value_of starts (sight_of c m) ≡ Ok (pos s)
  pub marks_are : (m : Memory) → Agrees b base m → value_of marks (sight_of c m) ≡ Ok (pos k)
  pub starts_small : s ≤ greatest
  pub marks_small : k ≤ greatest
