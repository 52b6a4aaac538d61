-- Counts of a program that have a limit.
use Rattle.std.specs.Prelude.{unsigned_abs, ℕ, ◌+◌, ◌*◌, ◌^◌, ◌-◌, max, min, nat_lt, Bool, true, false, if◌then◌else◌, List, [], ◌∷◌, length, map, Some, None}
use Rattle.std.specs.Option.{option_or}
use Rattle.c_tree.specs.declared.index.Index.{Index, fold-Index}
use Rattle.c_tree.specs.declared.index.Index.TheOpen.{Index-F, Const, Var, At, Neg, Plus, Minus, Times, Min, Max, Floor, Ceil, Cell-F, Subscripts-F}
use Rattle.c_tree.specs.declared.program.Array.{Array}
use Rattle.c_tree.specs.declared.program.Program.{Program}
use Rattle.c_tree.specs.declared.statement.Stmt.{Stmt, fold-Stmt}
use Rattle.c_tree.specs.declared.statement.Stmt.TheOpen.{Stmt-F, For, If, Assign, Put, Declare, Grow}
use Rattle.c_judge.specs.declared.faults.LimitWhat.{LimitWhat}
use Rattle.c_judge.specs.declared.faults.LimitWhat.TheVariants as what
use Rattle.c_judge.specs.declared.faults.ProgramFault.TheVariants as fault
use Rattle.c_judge.specs.declared.limits.Counted.{Counted}
use Rattle.c_judge.specs.declared.limits.Counted.TheVariants as counted
use Rattle.c_judge.specs.Names.{Fault}

-- a count as a program tells it
abbrev pub capped : ℕ → ℕ
capped n = min n (2 ^ 64 - 1)

-- a name and a cell count so much, whatever they name
abbrev pub unit : ℕ
unit = 2 ^ 24

abbrev pub size_layer : Index-F ℕ (Unit {0}) (Unit {0}) → ℕ
size_layer (Const n) = unsigned_abs n
size_layer (Var x) = unit
size_layer (At c) = unit
size_layer (Neg a) = a
size_layer (Plus a b) = a + b
size_layer (Minus a b) = a + b
size_layer (Times n a) = unsigned_abs n * a
size_layer (Min a b) = max a b
size_layer (Max a b) = max a b
size_layer (Floor a d) = a
size_layer (Ceil a d) = a

abbrev pub no_subscripts : Subscripts-F ℕ (Unit {0}) (Unit {0}) → Unit {0}
no_subscripts s = tt

abbrev pub no_cell : Cell-F ℕ (Unit {0}) (Unit {0}) → Unit {0}
no_cell c = tt

-- how large an expression can be
unfoldable pub size_of : Index → ℕ
size_of = fold-Index ℕ (Unit {0}) (Unit {0}) size_layer no_subscripts no_cell

-- what a statement of no further interest counts, a declaration, and an assignment to data
abbrev pub plain : Counted → ℕ
plain counted.All = 1
plain _ = 0

abbrev pub declaration : Counted → ℕ
declaration counted.Assignments = 0
declaration _ = 1

abbrev pub assignment : Counted → ℕ
assignment counted.Declarations = 0
assignment _ = 1

abbrev pub total : List ℕ → ℕ
total [] = 0
total (n ∷ ns) = n + total ns

abbrev pub count_layer : Counted → Stmt-F ℕ → ℕ
count_layer c (For x low high body) = plain c + total body
count_layer c (If tests body) = plain c + total body
count_layer c (Assign target how value) = assignment c
count_layer c (Put target value) = plain c
count_layer c (Declare x k inner) = declaration c
count_layer c (Grow x by) = plain c

-- how many statements of a kind stand in a statement, itself among them
unfoldable pub count_in : Counted → Stmt → ℕ
count_in c = fold-Stmt ℕ (count_layer c)

abbrev pub count_of : Counted → List Stmt → ℕ
count_of c ss = total (map (count_in c) ss)

abbrev pub over_by : LimitWhat → ℕ → ℕ → Fault
over_by what count limit = if nat_lt limit count then Some (fault.Limit what count) else None

-- a count that passes its limit
abbrev pub over : LimitWhat → ℕ → ℕ → Fault
over what count limit = over_by what (capped count) limit

abbrev pub has_large : List Index → Bool
has_large [] = false
has_large (e ∷ es) = if nat_lt (2 ^ 41) (size_of e) then true else has_large es

-- the first array with an extent that can be too large, by its number
abbrev pub large_extent : ℕ → List Array → Fault
large_extent number [] = None
large_extent number (a ∷ more) = if has_large a.extents then Some (fault.Limit what.Extent number) else large_extent (number + 1) more

-- the first limit that is passed
unfoldable pub limit_fault : Program → Fault
limit_fault p =
    option_or (over what.Signature (length p.params + length p.arrays) 32)
    (option_or (over what.Locals (count_of counted.Declarations p.inspector) 384)
    (option_or (over what.Assignments (count_of counted.Assignments p.executor) 64)
    (option_or (over what.InspectorStatements (count_of counted.All p.inspector) 2048)
    (option_or (over what.Matrices (length p.matrices + 0) 2)
    (large_extent 0 p.arrays)))))
