-- Loops around an assignment, and how they are written.
use Rattle.std.specs.Prelude.{Bool, true, not, ◌&&◌, if◌then◌else◌, List, [], ◌∷◌, pos, codes, Option, Some, None, bytes_eq}
use Rattle.c_tree.specs.declared.index.Index.{Index, out-Index}
use Rattle.c_tree.specs.declared.index.Index.TheVariants.{Const, Var}
use Rattle.c_tree.specs.declared.index.Index.TheOpen as open_index
use Rattle.c_tree.specs.declared.index.Index.TheOpen.{Subscripts-F, One, Two, Three}
use Rattle.c_tree.specs.declared.index.Cell.{Cell}
use Rattle.c_tree.specs.declared.index.Subscripts.{Subscripts, out-Subscripts}
use Rattle.c_tree.specs.declared.index.Subscripts.TheVariants as at
use Rattle.c_tree.specs.declared.data.Expr.{Expr, out-Expr}
use Rattle.c_tree.specs.declared.data.Expr.TheVariants as expr
use Rattle.c_tree.specs.declared.data.Expr.TheOpen as open_expr
use Rattle.c_tree.specs.declared.statement.Stmt.{Stmt, out-Stmt}
use Rattle.c_tree.specs.declared.statement.Stmt.TheVariants as stmt
use Rattle.c_tree.specs.declared.statement.Stmt.TheOpen as open_stmt
use Rattle.c_tree.specs.declared.statement.How.{How}
use Rattle.c_tree.specs.declared.program.Array.{Array}
use Rattle.first_form.specs.declared.size.Size.{Size}
use Rattle.first_form.specs.declared.nest.Turn.{Turn}
use Rattle.first_form.specs.Sizes.{Name, has_name, size_of, expression_of, is_same, is_zero}

-- the names that the loop variables get
abbrev pub outer_name : Name
outer_name = codes "t1"

abbrev pub inner_name : Name
inner_name = codes "t2"

-- the innermost loop with that variable
abbrev pub turn_with : List Turn → Name → Option Turn
turn_with [] x = None
turn_with (t ∷ ts) x = if bytes_eq t.variable x then Some t else turn_with ts x

-- the variable of a loop, as it is written, where the loop goes over the extent
abbrev pub over : Index → Option Turn → Option Index
over e (Some t) = if is_same t.high e then Some (Var t.written) else None
over e None = None

abbrev pub subscript_layer : List Turn → Index → open_index.Index-F Index Subscripts Cell → Option Index
subscript_layer ts e (open_index.Var x) = over e (turn_with ts x)
subscript_layer ts e _ = None

-- a subscript is the variable of a loop that goes over the extent
abbrev pub subscript : List Turn → Index → Index → Option Index
subscript ts e i = subscript_layer ts e (out-Index i)

abbrev pub one : Option Index → Option Subscripts
one (Some i) = Some (at.One i)
one None = None

abbrev pub two : Option Index → Option Index → Option Subscripts
two (Some i) (Some j) = Some (at.Two i j)
two _ _ = None

abbrev pub three : Option Index → Option Index → Option Index → Option Subscripts
three (Some i) (Some j) (Some k) = Some (at.Three i j k)
three _ _ _ = None

abbrev pub subscripts_layer : List Turn → List Index → Subscripts-F Index Subscripts Cell → Option Subscripts
subscripts_layer ts (e ∷ []) (One i) = one (subscript ts e i)
subscripts_layer ts (e ∷ f ∷ []) (Two i j) = two (subscript ts e i) (subscript ts f j)
subscripts_layer ts (e ∷ f ∷ g ∷ []) (Three i j k) = three (subscript ts e i) (subscript ts f j) (subscript ts g k)
subscripts_layer ts _ _ = None

-- there is one subscript for each extent
abbrev pub subscripts : List Turn → List Index → Subscripts → Option Subscripts
subscripts ts es is = subscripts_layer ts es (out-Subscripts is)

-- the extents of the first array of that name
abbrev pub extents_of : List Array → Name → List Index
extents_of [] x = []
extents_of (a ∷ more) x = if bytes_eq a.name x then a.extents else extents_of more x

abbrev pub cell_at : Name → Option Subscripts → Option Cell
cell_at x (Some is) = Some (record { array = x; at = is })
cell_at x None = None

-- a cell as it is written
abbrev pub cell : List Array → List Turn → Cell → Option Cell
cell arrays ts c = cell_at c.array (subscripts ts (extents_of arrays c.array) c.at)

abbrev pub loaded : Option Cell → Option Expr
loaded (Some c) = Some (expr.At c)
loaded None = None

abbrev pub value_layer : List Array → List Turn → open_expr.Expr-F Expr → Option Expr
value_layer arrays ts (open_expr.Const n) = Some (expr.Const n)
value_layer arrays ts (open_expr.At c) = loaded (cell arrays ts c)
value_layer arrays ts _ = None

-- a right side is one number, or one cell
abbrev pub value : List Array → List Turn → Expr → Option Expr
value arrays ts e = value_layer arrays ts (out-Expr e)

abbrev pub assigned : How → Option Cell → Option Expr → Option Stmt
assigned how (Some c) (Some e) = Some (stmt.Assign c how e)
assigned how _ _ = None

abbrev pub assignment_layer : List Array → List Turn → open_stmt.Stmt-F Stmt → Option Stmt
assignment_layer arrays ts (open_stmt.Assign c how e) = assigned how (cell arrays ts c) (value arrays ts e)
assignment_layer arrays ts _ = None

-- an assignment as it is written below these loops, from the inside
abbrev pub assignment : List Array → List Turn → Stmt → Option Stmt
assignment arrays ts s = assignment_layer arrays ts (out-Stmt s)

-- a loop, and the one statement in it
pub record Around : Type 0 where
  pub turn : Turn
  pub inner : Stmt

abbrev pub around : Name → Name → Bool → Option Size → List Stmt → Option Around
around y x true (Some size) (s ∷ []) = Some (record { turn = record { variable = x; high = size; written = y }; inner = s })
around y x _ _ _ = None

-- neither is the name of a parameter
abbrev pub are_free : List Name → Name → Name → Bool
are_free params x y = not (has_name params x) && not (has_name params y)

abbrev pub loop_layer : List Name → Name → open_stmt.Stmt-F Stmt → Option Around
loop_layer params y (open_stmt.For x low high body) = around y x (is_zero low && are_free params x y) (size_of params high) body
loop_layer params y _ = None

-- a loop from 0 to below a size, around one statement; its variable gets the name
abbrev pub loop_of : List Name → Name → Stmt → Option Around
loop_of params y s = loop_layer params y (out-Stmt s)

-- the loop as it is written
abbrev pub in_loop : Turn → Option Stmt → Option Stmt
in_loop t (Some s) = Some (stmt.For t.written (Const (pos 0)) (expression_of t.high) (s ∷ []))
in_loop t None = None

abbrev pub below : List Array → Turn → Stmt → Option Around → Option Stmt
below arrays t s (Some l) = in_loop l.turn (assignment arrays (l.turn ∷ t ∷ []) l.inner)
below arrays t s None = assignment arrays (t ∷ []) s

-- in the outer loop stands an assignment, or one more loop around one
abbrev pub nest_in : List Name → List Array → Option Around → Option Stmt
nest_in params arrays (Some l) = in_loop l.turn (below arrays l.turn l.inner (loop_of params inner_name l.inner))
nest_in params arrays None = None

-- one loop, or one loop around another, around an assignment: as it is written
abbrev pub nest : List Name → List Array → Stmt → Option Stmt
nest params arrays s = nest_in params arrays (loop_of params outer_name s)
