-- What the worked kernels are scanned as.
use Rattle.std.specs.Prelude.{◌≡◌, ℕ, List, [], ◌∷◌, pos, Ok}
use Rattle.c_tree.specs.declared.program.Program.{Program}
use Rattle.c_tree.specs.declared.index.Index.{Index}
use Rattle.c_tree.specs.declared.index.Index.TheVariants.{Const, Var, At, Neg, Plus, Minus, Times, Min, Max, Floor, Ceil}
use Rattle.c_tree.specs.declared.data.Expr.TheVariants as expr
use Rattle.c_tree.specs.declared.statement.How.TheVariants.{Write, Add}
use Rattle.c_tree.specs.declared.statement.Cmp.TheVariants.{AtLeast}
use Rattle.c_tree.specs.declared.statement.Test.{Test}
use Rattle.c_tree.specs.declared.statement.Stmt.{Stmt}
use Rattle.c_tree.specs.declared.statement.Stmt.TheVariants.{For, If, Assign}
use Rattle.c_tree.specs.declared.data.Expr.{Expr}
use Rattle.scanning.specs.Scanned.{scanned}
use Rattle.scanning.specs.Kernels.{n, m, b, z, index, col, t1, t2, t3, head, cell, matrix, triangle, fused, product, tiled}

abbrev pub at_least_zero : Index → Test
at_least_zero e = record { left = e; cmp = AtLeast; right = Const (pos 0) }

-- t1 from 0 to below n, t2 from max(0, t1) to below n: b[t2] = 0
abbrev pub WorkedTriangle : Type 0
WorkedTriangle = scanned triangle ≡ Ok (head [] (n ∷ []) []
    (For t1 (Const (pos 0)) (Var n) (For t2 (Max (Const (pos 0)) (Var t1)) (Var n) (Assign (cell b (Var t2)) Write (expr.Const 0) ∷ []) ∷ []) ∷ []))

-- t1 from min(0, 1) to below max(n, m), with the rows of each statement in a test
abbrev pub WorkedFused : Type 0
WorkedFused = scanned fused ≡ Ok (head [] (n ∷ m ∷ []) []
    (For t1 (Min (Const (pos 0)) (Const (pos 1))) (Max (Var n) (Var m)) (
    If (at_least_zero (Var t1) ∷ at_least_zero (Minus (Plus (Neg (Var t1)) (Var n)) (Const (pos 1))) ∷ []) (
    Assign (cell b (Var t1)) Write (expr.Const 0) ∷ [])
    ∷ If (at_least_zero (Minus (Var t1) (Const (pos 1))) ∷ at_least_zero (Minus (Plus (Neg (Var t1)) (Var m)) (Const (pos 1))) ∷ []) (
    Assign (cell b (Var t1)) Write (expr.Const 1) ∷ []) ∷ []) ∷ []))

-- the begin and the end of the row t1, and a[k] * x[col[k]]
abbrev pub begin : Index
begin = At (cell index (Var t1))

abbrev pub end : Index
end = At (cell index (Plus (Var t1) (Const (pos 1))))

abbrev pub times_x : List ℕ → Expr
times_x k = expr.Times (expr.At (cell (97 ∷ []) (Var k))) (expr.At (cell (120 ∷ []) (At (cell col (Var k)))))

abbrev pub entries_head : List Stmt → Program
entries_head executor = head (matrix ∷ []) (n ∷ m ∷ z ∷ []) [] executor

-- t2 from index[t1] to below index[t1+1]: y[t1] += a[t2] * x[col[t2]], without a test
abbrev pub WorkedProduct : Type 0
WorkedProduct = scanned product ≡ Ok (entries_head (
    For t1 (Const (pos 0)) (Var n) (For t2 begin end (Assign (cell (121 ∷ []) (Var t1)) Add (times_x t2) ∷ []) ∷ []) ∷ []))

-- two statements in tiles of a row's entries: the bounds of the tiles keep the row's begin and end, since these reads are safe there
abbrev pub WorkedTiles : Type 0
WorkedTiles = scanned tiled ≡ Ok (entries_head (
    For t1 (Const (pos 0)) (Var n) (
    For t2 (Ceil (Minus begin (Const (pos 7))) (pos 8)) (Plus (Floor (Minus end (Const (pos 1))) (pos 8)) (Const (pos 1))) (
    For t3 (Max begin (Times (pos 8) (Var t2))) (Min end (Plus (Times (pos 8) (Var t2)) (Const (pos 8)))) (
    Assign (cell (115 ∷ []) (Var t1)) Add (expr.At (cell (97 ∷ []) (Var t3)))
    ∷ Assign (cell (121 ∷ []) (Var t1)) Add (times_x t3) ∷ []) ∷ []) ∷ []) ∷ []))
