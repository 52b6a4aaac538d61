-- What stands inside statements and expressions that can be written.
use Rattle.std.proofs.Common.{ℕ, ◌<◌, ◌≤◌, ◌^◌, List, [], ◌∷◌, length, sym, subst, arith}
use Rattle.c_tree.specs.declared.data.Expr.{Expr, Expr-F, out-Expr}
use Rattle.c_tree.specs.declared.data.Expr.TheVariants.{outs-Const, outs-At, outs-Plus, outs-Minus, outs-Times}
use Rattle.c_tree.specs.declared.data.Expr.TheOpen as open_expr
use Rattle.c_tree.specs.declared.statement.Stmt.{Stmt, Stmt-F, out-Stmt}
use Rattle.c_tree.specs.declared.statement.Stmt.TheVariants.{outs-For, outs-If, outs-Assign, outs-Put, outs-Grow}
use Rattle.c_tree.specs.declared.statement.Stmt.TheOpen as open_stmt
use Rattle.c_grammar.specs.declared.pieces.Section.{Section}
use Rattle.c_grammar.specs.Index.{cell_of}
use Rattle.read_back.specs.Names.{IsName}
use Rattle.read_back.specs.Fits as fit
use Rattle.read_back.specs.Fits.{FitsData, FitsDataPart, FitsDataFactor}
use Rattle.read_back.specs.FitStatements as fits
use Rattle.read_back.specs.FitStatements.{FitsStatement, FitStatements}

-- a number or a cell of data
abbrev pub DataLeaf : Expr-F Expr → Type 0
DataLeaf (open_expr.Const n) = n < 2 ^ 64
DataLeaf (open_expr.At c) = IsName c.array
DataLeaf (open_expr.Plus a b) = Unit {0}
DataLeaf (open_expr.Minus a b) = Unit {0}
DataLeaf (open_expr.Times a b) = Unit {0}

mutual
  pub data_leaf : {b : ℕ} {e : Expr} → FitsData b e → DataLeaf (out-Expr e)
  data_leaf (fit.first h) = part_leaf h
  data_leaf (fit.sum {left = x} {right = y} h k) = subst DataLeaf (sym (outs-Plus x y)) tt
  data_leaf (fit.difference {left = x} {right = y} h k) = subst DataLeaf (sym (outs-Minus x y)) tt

  part_leaf : {b : ℕ} {e : Expr} → FitsDataPart b e → DataLeaf (out-Expr e)
  part_leaf (fit.factor h) = factor_leaf h
  part_leaf (fit.product {left = x} {right = y} h k) = subst DataLeaf (sym (outs-Times x y)) tt

  factor_leaf : {b : ℕ} {e : Expr} → FitsDataFactor b e → DataLeaf (out-Expr e)
  factor_leaf (fit.number {n = n} h) = subst DataLeaf (sym (outs-Const n)) h
  factor_leaf (fit.cell {x = x} {subscripts = z} n h) = subst DataLeaf (sym (outs-At (cell_of x z))) n
  factor_leaf (fit.group h) = data_leaf h

-- statements that can be written somewhere in a section
pub record Inside (section : Section) (body : List Stmt) : Type 0 where
  pub b : ℕ
  pub l : ℕ
  pub g : ℕ
  pub fits : FitStatements section b l g body

-- the body of a loop, or what an assignment names
abbrev pub Leaf : Section → Stmt-F Stmt → Type 0
Leaf section (open_stmt.For v low high body) = Inside section body
Leaf section (open_stmt.If tests body) = Unit {0}
Leaf section (open_stmt.Assign c how value) = IsName c.array × DataLeaf (out-Expr value)
Leaf section (open_stmt.Put c value) = Unit {0}
Leaf section (open_stmt.Declare x k inner) = Unit {0}
Leaf section (open_stmt.Grow x by) = Unit {0}

pub leaf : {section : Section} {b l g : ℕ} {s : Stmt} → FitsStatement section b l g s → Leaf section (out-Stmt s)
leaf {section = section} (fits.loop {b = b} {l = l} {g = g} {v = v} {low = low} {high = high} {body = body} n h k h') =
    subst (Leaf section) (sym (outs-For v low high body)) (record { b = b; l = l; g = g; fits = h' })
leaf {section = section} (fits.guard {tests = tests} {body = body} h k) = subst (Leaf section) (sym (outs-If tests body)) tt
leaf {section = section} (fits.assignment {x = x} {subscripts = z} {h = how} {value = value} n h kind d) = subst (Leaf section) (sym (outs-Assign (cell_of x z) how value)) (n, data_leaf d)
leaf {section = section} (fits.index_assignment {x = x} {subscripts = z} {value = value} n h kind d) = subst (Leaf section) (sym (outs-Put (cell_of x z) value)) tt
leaf {section = section} (fits.growth {x = x} {by = by} inside n h) = subst (Leaf section) (sym (outs-Grow x by)) tt

some_statement : {section : Section} {b l g : ℕ} {xs : List Stmt} → FitStatements section b l g xs → 1 ≤ length xs
some_statement (fits.one h) = omega arith
some_statement (fits.more h k) = omega arith

pub only_statement : {section : Section} {b l g : ℕ} {x : Stmt} → FitStatements section b l g (x ∷ []) → FitsStatement section b l g x
only_statement (fits.one h) = h
only_statement (fits.more h k) = absurd (omega (arith, some_statement k))
