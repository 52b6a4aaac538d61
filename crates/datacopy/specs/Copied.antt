-- What the command judges first, and what it enters into a kernel.
use Rattle.std.specs.Prelude.{◌≡◌, ℕ, suc, ◌≤◌, Bool, cond, not, ◌&&◌, nat_le, List, [], ◌∷◌, ◌++◌, length, map, take, drop, replicate, ◌+◌, ◌-◌, ⊤, ℤ, Option, Some, None, Result, Err, slice_get, bytes_eq}
use Rattle.std.specs.List.{AllByRecursion}
use Rattle.chill_base.specs.declared.faults.Stop.{Stop}
use Rattle.chill_base.specs.declared.faults.Stop.TheVariants.{Refused}
use Rattle.c_tree.specs.declared.program.Program.{Program}
use Rattle.c_tree.specs.declared.program.Kind.TheVariants.{Number}
use Rattle.c_tree.specs.declared.statement.Stmt.{Stmt}
use Rattle.c_tree.specs.declared.statement.Stmt.TheVariants.{Declare, Grow}
use Rattle.c_tree.specs.declared.statement.How.TheVariants.{Write}
use Rattle.c_tree.specs.declared.index.Index.{Index}
use Rattle.c_tree.specs.declared.index.Index.TheVariants.{Const}
use Rattle.nest_tree.specs.declared.body.Access.{Access}
use Rattle.nest_tree.specs.declared.body.Body.{Body}
use Rattle.nest_tree.specs.declared.body.Body.TheVariants.{At}
use Rattle.nest_tree.specs.declared.fault.CommandFault.{CommandFault}
use Rattle.nest_tree.specs.declared.fault.CommandFault.TheVariants.{Shape}
use Rattle.nest_tree.specs.declared.fault.ShapeWhy.{ShapeWhy}
use Rattle.nest_tree.specs.declared.fault.ShapeWhy.TheVariants.{NoStatement, NoLoop, NotAlone, NotReadOnly}
use Rattle.nest_tree.specs.declared.kernel.Kernel.{Kernel}
use Rattle.nest_tree.specs.declared.kernel.Nest.{Nest}
use Rattle.nest_tree.specs.declared.made.Made.{Made}
use Rattle.nest_tree.specs.declared.made.MadeWhat.TheVariants.{Copy}
use Rattle.nest_core.specs.Order.{numbered}
use Rattle.nest_core.specs.Shapes.{IsShapedNest}
use Rattle.one_statement.specs.Alone.{any_shares}
use Rattle.one_statement.specs.Copies.{with_value}

-- the first of these shapes that holds
abbrev pub lowest : List (Bool × ShapeWhy) → Option ShapeWhy
lowest [] = None
lowest (s ∷ shapes) = cond s.0 (Some s.1) (lowest shapes)

-- the first shape of a statement that exists
abbrev pub nest_shape : ℕ → ℕ → List ℕ → List Nest → Nest → Option ShapeWhy
nest_shape s level array nests n = lowest
    ((not (nat_le 1 level && nat_le level (length n.levels)), NoLoop)
    ∷ (any_shares 0 s level n nests, NotAlone)
    ∷ (bytes_eq n.target.array array, NotReadOnly)
    ∷ [])

abbrev pub first_shape_at : ℕ → ℕ → List ℕ → List Nest → Option Nest → Option ShapeWhy
first_shape_at s level array nests None = Some NoStatement
first_shape_at s level array nests (Some n) = nest_shape s level array nests n

-- the shapes that come before the box: there is no such statement or loop, another statement shares the loop, or the statement writes the array
abbrev pub first_shape : Kernel → ℕ → ℕ → List ℕ → Option ShapeWhy
first_shape k s level array = first_shape_at s level array k.nests (slice_get k.nests s)

-- the shape is answered where there is one; otherwise anything may come
abbrev pub AnswersFirst : Option ShapeWhy → Result (Unit {0}) (Stop CommandFault) → Type 0
AnswersFirst (Some why) r = r ≡ Err (Refused (Shape why))
AnswersFirst None r = ⊤

abbrev pub GivesFirst : {A : Type 0} → Option ShapeWhy → Result A (Stop ShapeWhy) → Type 0
GivesFirst (Some why) r = r ≡ Err (Refused why)
GivesFirst None r = ⊤

-- ---- what is entered
abbrev pub constants : List ℤ → List Index
constants = map Const

-- the lines of the inspector: the copy is declared with its extents behind the first, and grown to the first
abbrev pub lines_of : List ℕ → List ℤ → List Stmt
lines_of copy [] = []
lines_of copy (e ∷ es) = Declare copy Number (constants es) ∷ Grow copy (Const e) ∷ []

abbrev pub made_of : List ℕ → List ℤ → Made
made_of copy extents = record { name = copy; matrix = 0; what = Copy extents }

abbrev pub with_lines : Program → List Stmt → Program
with_lines p lines = record { name = p.name; matrices = p.matrices; params = p.params; arrays = p.arrays; inspector = p.inspector ++ lines; executor = p.executor }

-- the kernel with a copy of these extents, and with these statements
abbrev pub entered : Kernel → List ℕ → List ℤ → List Nest → Kernel
entered k copy extents nests = record { head = with_lines k.head (lines_of copy extents); made = k.made ++ made_of copy extents ∷ []; nests = nests }

-- two statements in the place of one
abbrev pub with_both : List Nest → ℕ → Nest → Nest → List Nest
with_both nests s a b = take s nests ++ (a ∷ b ∷ drop (s + 1) nests)

-- in the outer loops, and then in a loop of its own: as a child it has a number that no statement has until all are counted anew
abbrev pub copying_positions : List ℕ → ℕ → ℕ → List ℕ
copying_positions outer statements dims = (outer ++ statements ∷ []) ++ replicate dims 0

-- it sets cells of the copy to cells of the array, right before the loop at a place and in a loop for each dimension
pub record IsCopy (k : Kernel) (old : Nest) (place dims : ℕ) (array copy : List ℕ) (n : Nest) : Type 0 where
  pub levels : length n.levels ≡ place + dims
  pub positions : n.positions ≡ copying_positions (take place old.positions) (length k.nests) dims
  pub target : n.target.array ≡ copy
  pub how : n.how ≡ Write
  pub cell : Access
  pub value : n.value ≡ At cell
  pub source : cell.array ≡ array

-- the statement has another right side, and one that copies stands right before its loop; all others are as they were
pub record HasCopy (k : Kernel) (s : ℕ) (old : Nest) (place dims : ℕ) (array copy : List ℕ) (nests : List Nest) : Type 0 where
  pub copying : Nest
  pub value : Body
  pub copies : IsCopy k old place dims array copy copying
  pub are : nests ≡ numbered (with_both k.nests s copying (with_value old value))

-- the same of a statement by its number, and of a level
pub record HasCopyAt (k : Kernel) (s level dims : ℕ) (array copy : List ℕ) (nests : List Nest) : Type 0 where
  pub old : Nest
  pub found : slice_get k.nests s ≡ Some old
  pub has : HasCopy k s old (level - 1) dims array copy nests

-- the new kernel has a copy of some extents, and one statement more, which makes the copy
pub record IsCopied (old new : Kernel) (s level : ℕ) (array copy : List ℕ) : Type 0 where
  pub extents : List ℤ
  pub some : 1 ≤ length extents
  pub is : new ≡ entered old copy extents new.nests
  pub more : length new.nests ≡ suc (length old.nests)
  pub statements : HasCopyAt old s level (length extents) array copy new.nests

-- so many statements, each of that shape, whose positions are counted from 0
pub record AreCounted (head : Program) (count : ℕ) (nests : List Nest) : Type 0 where
  pub shaped : AllByRecursion (IsShapedNest head) nests
  pub many : length nests ≡ count
  pub counted : numbered nests ≡ nests
