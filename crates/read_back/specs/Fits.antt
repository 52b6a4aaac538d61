-- Expressions that can be written. `FitsIndex b e` says that the index expression e has a text where b brackets may still
-- be opened: its names and numbers are such as texts have, and brackets stand at least where the grammar needs them.
use Rattle.std.specs.Prelude.{ℕ, suc, ◌<◌, ◌^◌, pos}
use Rattle.c_tree.specs.declared.index.Index.{Index}
use Rattle.c_tree.specs.declared.index.Index.TheVariants as tree
use Rattle.c_tree.specs.declared.index.Subscripts.{Subscripts}
use Rattle.c_tree.specs.declared.index.Subscripts.TheVariants as at
use Rattle.c_tree.specs.declared.data.Expr.{Expr}
use Rattle.c_tree.specs.declared.data.Expr.TheVariants as expr
use Rattle.c_grammar.specs.Index.{IsConstant, IsDivisor, cell_of}
use Rattle.read_back.specs.Names.{Name, IsName}

mutual
  -- an optional `-`, a part, then parts after `+` or `-`
  pub data FitsIndex : ℕ → Index → Type 0 where
    first : {b : ℕ} {e : Index} → FitsPart b e → FitsIndex b e
    negated : {b : ℕ} {e : Index} → FitsPart b e → FitsIndex b (tree.Neg e)
    sum : {b : ℕ} {left right : Index} → FitsIndex b left → FitsPart b right → FitsIndex b (tree.Plus left right)
    difference : {b : ℕ} {left right : Index} → FitsIndex b left → FitsPart b right → FitsIndex b (tree.Minus left right)

  -- a factor, or a number `*` a factor
  pub data FitsPart : ℕ → Index → Type 0 where
    factor : {b : ℕ} {e : Index} → FitsFactor b e → FitsPart b e
    times : {b n : ℕ} {e : Index} → IsConstant n → FitsFactor b e → FitsPart b (tree.Times (pos n) e)

  -- a number, a name, a cell, an index in brackets, `min`, `max`, `floord` or `ceild`
  pub data FitsFactor : ℕ → Index → Type 0 where
    number : {b n : ℕ} → IsConstant n → FitsFactor b (tree.Const (pos n))
    name : {b : ℕ} {x : Name} → IsName x → FitsFactor b (tree.Var x)
    cell : {b : ℕ} {x : Name} {subscripts : Subscripts} → IsName x → FitSubscripts b subscripts → FitsFactor (suc b) (tree.At (cell_of x subscripts))
    group : {b : ℕ} {e : Index} → FitsIndex b e → FitsFactor (suc b) e
    min : {b : ℕ} {left right : Index} → FitsIndex b left → FitsIndex b right → FitsFactor (suc b) (tree.Min left right)
    max : {b : ℕ} {left right : Index} → FitsIndex b left → FitsIndex b right → FitsFactor (suc b) (tree.Max left right)
    floor : {b n : ℕ} {e : Index} → FitsIndex b e → IsDivisor n → FitsFactor (suc b) (tree.Floor e (pos n))
    ceil : {b n : ℕ} {e : Index} → FitsIndex b e → IsDivisor n → FitsFactor (suc b) (tree.Ceil e (pos n))

  -- one to three subscripts
  pub data FitSubscripts : ℕ → Subscripts → Type 0 where
    one : {b : ℕ} {i : Index} → FitsIndex b i → FitSubscripts b (at.One i)
    two : {b : ℕ} {i j : Index} → FitsIndex b i → FitsIndex b j → FitSubscripts b (at.Two i j)
    three : {b : ℕ} {i j k : Index} → FitsIndex b i → FitsIndex b j → FitsIndex b k → FitSubscripts b (at.Three i j k)

mutual
  -- parts joined by `+` and `-`
  pub data FitsData : ℕ → Expr → Type 0 where
    first : {b : ℕ} {e : Expr} → FitsDataPart b e → FitsData b e
    sum : {b : ℕ} {left right : Expr} → FitsData b left → FitsDataPart b right → FitsData b (expr.Plus left right)
    difference : {b : ℕ} {left right : Expr} → FitsData b left → FitsDataPart b right → FitsData b (expr.Minus left right)

  -- factors joined by `*`
  pub data FitsDataPart : ℕ → Expr → Type 0 where
    factor : {b : ℕ} {e : Expr} → FitsDataFactor b e → FitsDataPart b e
    product : {b : ℕ} {left right : Expr} → FitsDataPart b left → FitsDataFactor b right → FitsDataPart b (expr.Times left right)

  -- a number, a cell, or data in brackets
  pub data FitsDataFactor : ℕ → Expr → Type 0 where
    number : {b n : ℕ} → n < 2 ^ 64 → FitsDataFactor b (expr.Const n)
    cell : {b : ℕ} {x : Name} {subscripts : Subscripts} → IsName x → FitSubscripts b subscripts → FitsDataFactor (suc b) (expr.At (cell_of x subscripts))
    group : {b : ℕ} {e : Expr} → FitsData b e → FitsDataFactor (suc b) e
