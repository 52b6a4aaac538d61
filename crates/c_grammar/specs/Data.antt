-- The grammar of data expressions, and of the cells that they and the statements name.
use Rattle.std.specs.Prelude.{ℕ, suc, List, ◌∷◌}
use Rattle.c_tokens.specs.declared.token.Sign.TheVariants as s
use Rattle.c_tokens.specs.declared.token.Token.{Token}
use Rattle.c_tokens.specs.declared.token.Token.TheVariants as t
use Rattle.c_tree.specs.declared.data.Expr.{Expr}
use Rattle.c_tree.specs.declared.data.Expr.TheVariants as expr
use Rattle.c_tree.specs.declared.index.Subscripts.{Subscripts}
use Rattle.c_grammar.specs.Index.{Word, cell_of, AreSubscripts}

mutual
  -- parts joined by `+` and `-`
  pub data IsData : ℕ → List Token → Expr → List Token → Type 0 where
    first : {b : ℕ} {ts after : List Token} {e : Expr} → IsDataPart b ts e after → IsData b ts e after
    sum : {b : ℕ} {ts us after : List Token} {left right : Expr}
        → IsData b ts left (t.Sign s.Plus ∷ us) → IsDataPart b us right after → IsData b ts (expr.Plus left right) after
    difference : {b : ℕ} {ts us after : List Token} {left right : Expr}
        → IsData b ts left (t.Sign s.Minus ∷ us) → IsDataPart b us right after → IsData b ts (expr.Minus left right) after

  -- factors joined by `*`
  pub data IsDataPart : ℕ → List Token → Expr → List Token → Type 0 where
    factor : {b : ℕ} {ts after : List Token} {e : Expr} → IsDataFactor b ts e after → IsDataPart b ts e after
    product : {b : ℕ} {ts us after : List Token} {left right : Expr}
        → IsDataPart b ts left (t.Sign s.Star ∷ us) → IsDataFactor b us right after → IsDataPart b ts (expr.Times left right) after

  -- a number, a cell, or data in brackets
  pub data IsDataFactor : ℕ → List Token → Expr → List Token → Type 0 where
    number : {b n : ℕ} {after : List Token} → IsDataFactor b (t.Number n ∷ after) (expr.Const n) after
    cell : {b : ℕ} {x : Word} {ts after : List Token} {subscripts : Subscripts}
        → AreSubscripts b ts subscripts after → IsDataFactor (suc b) (t.Name x ∷ ts) (expr.At (cell_of x subscripts)) after
    group : {b : ℕ} {ts after : List Token} {e : Expr} → IsData b ts e (t.Sign s.Close ∷ after) → IsDataFactor (suc b) (t.Sign s.Open ∷ ts) e after
