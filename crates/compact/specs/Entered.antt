-- What the command enters into a kernel.
use Rattle.std.specs.Prelude.{◌≡◌, ◌≤◌, ◌+◌, ℕ, Bool, true, false, cond, List, [], ◌∷◌, length, ℤ, pos, bytes_eq, Some, None, Ok, slice_get}
use Rattle.c_tree.specs.declared.program.Program.{Program}
use Rattle.c_tree.specs.declared.program.Matrix.{Matrix}
use Rattle.c_tree.specs.declared.statement.Stmt.{Stmt}
use Rattle.nest_tree.specs.declared.kernel.Kernel.{Kernel}
use Rattle.nest_tree.specs.declared.kernel.Nest.{Nest}
use Rattle.nest_tree.specs.declared.made.Made.{Made}
use Rattle.nest_tree.specs.declared.made.MadeWhat.{MadeWhat}
use Rattle.nest_tree.specs.declared.made.MadeWhat.TheVariants.{Pointer, Kept, Count, Mark}
use Rattle.inspectors.specs.declared.level.Compacted.{Compacted}
use Rattle.inspectors.specs.declared.level.Group.{Group}
use Rattle.inspectors.specs.declared.level.Group.TheVariants.{All, Rows}
use Rattle.inspectors.specs.declared.names.MarkNames.{MarkNames}
use Rattle.inspectors.specs.Marks.{compact_lines}
use Rattle.one_statement.specs.Put.{put}
use Rattle.nest_core.specs.Shapes.{IsShapedNest}
use Rattle.depend_test.specs.Tested.{FindsAt}
use Rattle.compact.specs.declared.matching.Target.{Target}
use Rattle.compact.specs.declared.plan.Plan.{Plan}
use Rattle.compact.specs.Names.{mark_names, AreFree}
use Rattle.compact.specs.Shapes.{IsTarget}
use Rattle.compact.specs.Statement.{compacted, counts_of}

-- how many rows a group has, or 0 for all
abbrev pub group_rows : Group → ℤ
group_rows All = pos 0
group_rows (Rows r) = r

abbrev pub made : Target → List ℕ → MadeWhat → Made
made t x what = record { name = x; matrix = t.matrix; what = what }

abbrev pub pointer : Target → MarkNames → MadeWhat
pointer t b = Pointer (group_rows t.group) b.num

abbrev pub kept : Target → MarkNames → MadeWhat
kept t b = Kept t.form.c t.form.s0 t.form.divisor b.num

-- where the kept values of each group begin, the values, their number, and their marks
abbrev pub made_arrays : Target → MarkNames → List Made
made_arrays t b =
    made t b.ptr (pointer t b)
    ∷ made t b.val (kept t b)
    ∷ made t b.num Count
    ∷ made t b.mark Mark
    ∷ []

-- the first parameter stands before the other
abbrev pub comes_first : List (List ℕ) → List ℕ → List ℕ → Bool
comes_first [] x y = false
comes_first (p ∷ ps) x y = cond (bytes_eq p y) false (cond (bytes_eq p x) true (comes_first ps x y))

abbrev pub level_of : Program → Target → Matrix → Compacted
level_of head t m = record { matrix = m; cols_first = comes_first head.params m.cols m.rows; form = t.form; group = t.group }

-- the lines of the target
pub record AreLines (head : Program) (t : Target) (b : MarkNames) (lines : List Stmt) : Type 0 where
  pub matrix : Matrix
  pub of : slice_get head.matrices t.matrix ≡ Some matrix
  pub are : lines ≡ compact_lines (level_of head t matrix) b

-- what is compacted, with names that are free
pub record IsPlan (k : Kernel) (s level : ℕ) (prefix : List ℕ) (p : Plan) : Type 0 where
  pub target : IsTarget k s level p.target
  pub named : mark_names prefix ≡ Some p.names
  pub free : AreFree k p.names
  pub room : length k.made + 4 ≤ 384

-- the statement over the places of kept values
pub record IsNew (k : Kernel) (s level : ℕ) (p : Plan) (new : Nest) : Type 0 where
  pub old : Nest
  pub found : slice_get k.nests s ≡ Some old
  pub over : compacted (counts_of (length k.head.params) old level) p.target.group p.names old ≡ Ok new
  pub shaped : IsShapedNest k.head new

-- the new kernel is the old one with this statement, the arrays of kept values, and the lines that make these
pub record IsEntered (old new : Kernel) (s : ℕ) (p : Plan) (nest : Nest) : Type 0 where
  pub lines : List Stmt
  pub are : AreLines old.head p.target p.names lines
  pub is : new ≡ put old s nest (made_arrays p.target p.names) lines

-- the new kernel is the old one with a level compacted by a plan, and the test of the level finds no dependence
pub record IsCompacted (old new : Kernel) (s level : ℕ) (prefix : List ℕ) : Type 0 where
  pub plan : Plan
  pub is_plan : IsPlan old s level prefix plan
  pub nest : Nest
  pub is_new : IsNew old s level plan nest
  pub entered : IsEntered old new s plan nest
  pub tested : FindsAt old s level None
