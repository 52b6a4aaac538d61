-- The grammar of index expressions. `IsIndex b ts e after` says that the tokens ts begin with the text of the
-- expression e and go on with after. The number b says how many brackets may still be opened around a place.
use Rattle.std.specs.Prelude.{◌≡◌, ℕ, suc, ◌^◌, ◌≤◌, Bool, true, false, List, ◌∷◌, pos}
use Rattle.c_tokens.specs.declared.token.Sign.TheVariants as s
use Rattle.c_tokens.specs.declared.token.Token.{Token}
use Rattle.c_tokens.specs.declared.token.Token.TheVariants as t
use Rattle.c_tree.specs.declared.index.Index.{Index}
use Rattle.c_tree.specs.declared.index.Index.TheVariants as tree
use Rattle.c_tree.specs.declared.index.Cell.{Cell, roll-Cell}
use Rattle.c_tree.specs.declared.index.Subscripts.{Subscripts}
use Rattle.c_tree.specs.declared.index.Subscripts.TheVariants as at

-- a name of the program
abbrev pub Word : Type 0
Word = List ℕ

-- a number that an index expression may have
abbrev pub IsConstant : ℕ → Type 0
IsConstant n = n ≤ 2 ^ 62

-- a number that may divide
pub record IsDivisor (n : ℕ) : Type 0 where
  pub some : 1 ≤ n
  pub small : IsConstant n

abbrev pub begins_with_number : List Token → Bool
begins_with_number (t.Number n ∷ ts) = true
begins_with_number _ = false

-- a cell of an array
abbrev pub cell_of : Word → Subscripts → Cell
cell_of x subscripts = roll-Cell (record { array = x; at = subscripts })

mutual
  -- an optional `-`, a part, then parts after `+` or `-`
  pub data IsIndex : ℕ → List Token → Index → List Token → Type 0 where
    first : {b : ℕ} {ts after : List Token} {e : Index} → IsPart b ts e after → IsIndex b ts e after
    negated : {b : ℕ} {ts after : List Token} {e : Index} → IsPart b ts e after → IsIndex b (t.Sign s.Minus ∷ ts) (tree.Neg e) after
    sum : {b : ℕ} {ts us after : List Token} {left right : Index}
        → IsIndex b ts left (t.Sign s.Plus ∷ us) → IsPart b us right after → IsIndex b ts (tree.Plus left right) after
    difference : {b : ℕ} {ts us after : List Token} {left right : Index}
        → IsIndex b ts left (t.Sign s.Minus ∷ us) → IsPart b us right after → IsIndex b ts (tree.Minus left right) after

  -- a factor, or a number `*` a factor, or a factor that is no number `*` a number
  pub data IsPart : ℕ → List Token → Index → List Token → Type 0 where
    factor : {b : ℕ} {ts after : List Token} {e : Index} → IsFactor b ts e after → IsPart b ts e after
    times : {b n : ℕ} {ts after : List Token} {e : Index}
        → IsConstant n → IsFactor b ts e after → IsPart b (t.Number n ∷ t.Sign s.Star ∷ ts) (tree.Times (pos n) e) after
    times_right : {b n : ℕ} {ts after : List Token} {e : Index}
        → begins_with_number ts ≡ false → IsFactor b ts e (t.Sign s.Star ∷ t.Number n ∷ after) → IsConstant n → IsPart b ts (tree.Times (pos n) e) after

  -- a number, a name, a cell, an index in brackets, `min`, `max`, `floord` or `ceild`
  pub data IsFactor : ℕ → List Token → Index → List Token → Type 0 where
    number : {b n : ℕ} {after : List Token} → IsConstant n → IsFactor b (t.Number n ∷ after) (tree.Const (pos n)) after
    name : {b : ℕ} {x : Word} {after : List Token} → IsFactor b (t.Name x ∷ after) (tree.Var x) after
    cell : {b : ℕ} {x : Word} {ts after : List Token} {subscripts : Subscripts}
        → AreSubscripts b ts subscripts after → IsFactor (suc b) (t.Name x ∷ ts) (tree.At (cell_of x subscripts)) after
    group : {b : ℕ} {ts after : List Token} {e : Index} → IsIndex b ts e (t.Sign s.Close ∷ after) → IsFactor (suc b) (t.Sign s.Open ∷ ts) e after
    min : {b : ℕ} {ts us after : List Token} {left right : Index}
        → IsIndex b ts left (t.Sign s.Comma ∷ us) → IsIndex b us right (t.Sign s.Close ∷ after)
        → IsFactor (suc b) (t.Sign s.Min ∷ t.Sign s.Open ∷ ts) (tree.Min left right) after
    max : {b : ℕ} {ts us after : List Token} {left right : Index}
        → IsIndex b ts left (t.Sign s.Comma ∷ us) → IsIndex b us right (t.Sign s.Close ∷ after)
        → IsFactor (suc b) (t.Sign s.Max ∷ t.Sign s.Open ∷ ts) (tree.Max left right) after
    floor : {b n : ℕ} {ts after : List Token} {e : Index}
        → IsIndex b ts e (t.Sign s.Comma ∷ t.Number n ∷ t.Sign s.Close ∷ after) → IsDivisor n
        → IsFactor (suc b) (t.Sign s.Floord ∷ t.Sign s.Open ∷ ts) (tree.Floor e (pos n)) after
    ceil : {b n : ℕ} {ts after : List Token} {e : Index}
        → IsIndex b ts e (t.Sign s.Comma ∷ t.Number n ∷ t.Sign s.Close ∷ after) → IsDivisor n
        → IsFactor (suc b) (t.Sign s.Ceild ∷ t.Sign s.Open ∷ ts) (tree.Ceil e (pos n)) after

  -- one to three subscripts
  pub data AreSubscripts : ℕ → List Token → Subscripts → List Token → Type 0 where
    one : {b : ℕ} {ts after : List Token} {i : Index} → IsSubscript b ts i after → AreSubscripts b ts (at.One i) after
    two : {b : ℕ} {ts us after : List Token} {i j : Index}
        → IsSubscript b ts i us → IsSubscript b us j after → AreSubscripts b ts (at.Two i j) after
    three : {b : ℕ} {ts us vs after : List Token} {i j k : Index}
        → IsSubscript b ts i us → IsSubscript b us j vs → IsSubscript b vs k after → AreSubscripts b ts (at.Three i j k) after

  -- `[` index `]`
  pub data IsSubscript : ℕ → List Token → Index → List Token → Type 0 where
    subscript : {b : ℕ} {ts after : List Token} {e : Index}
        → IsIndex b ts e (t.Sign s.CloseSquare ∷ after) → IsSubscript b (t.Sign s.OpenSquare ∷ ts) e after
