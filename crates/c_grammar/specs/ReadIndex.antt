-- Index expressions, read from the left. A reader refuses at the first token with which no text goes on.
use Rattle.std.specs.Prelude.{ℕ, zero, suc, if◌then◌else◌, Option, Some, None, Ok, Err, ℤ}
use Rattle.c_tokens.specs.declared.token.Sign.TheVariants as s
use Rattle.c_tokens.specs.declared.token.Token.{Token}
use Rattle.c_tokens.specs.declared.token.Token.TheVariants as t
use Rattle.c_tree.specs.declared.index.Index.{Index}
use Rattle.c_tree.specs.declared.index.Index.TheVariants as tree
use Rattle.c_tree.specs.declared.index.Subscripts.{Subscripts}
use Rattle.c_tree.specs.declared.index.Subscripts.TheVariants as at
use Rattle.c_tokens.specs.Tokens.{is_sign, sees, expect}
use Rattle.c_grammar.specs.Index.{Word, cell_of}
use Rattle.c_grammar.specs.Reader.{Reader, ◌>>=◌, ◌>>◌, pure, refuse, peek, skip, many, constant, divisor}

-- `inside` reads an index expression in a bracket.
module _ (inside : Reader Index) where
  unfoldable pub subscript : Reader Index
  subscript = do
    expect s.OpenSquare
    e ← inside
    expect s.CloseSquare
    pure e

  unfoldable pub third_subscript : Index → Index → Reader Subscripts
  third_subscript i j = λ ts. if sees s.OpenSquare ts then (do k ← subscript; pure (at.Three i j k)) ts else Ok (at.Two i j, ts)

  unfoldable pub second_subscript : Index → Reader Subscripts
  second_subscript i = λ ts. if sees s.OpenSquare ts then (subscript >>= third_subscript i) ts else Ok (at.One i, ts)

  -- one to three subscripts
  unfoldable pub subscripts : Reader Subscripts
  subscripts = subscript >>= second_subscript

  unfoldable pub group : Reader Index
  group = do
    expect s.Open
    e ← inside
    expect s.Close
    pure e

  unfoldable pub arguments : Reader (Index × Index)
  arguments = do
    expect s.Open
    left ← inside
    expect s.Comma
    right ← inside
    expect s.Close
    pure (left, right)

  unfoldable pub division : Reader (Index × ℤ)
  division = do
    expect s.Open
    e ← inside
    expect s.Comma
    n ← divisor
    expect s.Close
    pure (e, n)

  -- what begins with a bracket, or with a word before one
  unfoldable pub bracketed : Reader Index
  bracketed = λ ts.
      if sees s.Open ts then group ts
      else (if sees s.Min ts then (do skip; p ← arguments; pure (tree.Min p.0 p.1)) ts
      else (if sees s.Max ts then (do skip; p ← arguments; pure (tree.Max p.0 p.1)) ts
      else (if sees s.Floord ts then (do skip; p ← division; pure (tree.Floor p.0 p.1)) ts
      else (if sees s.Ceild ts then (do skip; p ← division; pure (tree.Ceil p.0 p.1)) ts
      else Err ts))))

  unfoldable pub cell : Word → Reader Index
  cell x = do
    subscripts ← subscripts
    pure (tree.At (cell_of x subscripts))

-- what needs a bracket is refused where there may be none
abbrev pub in_room : (Reader Index → Reader Index) → Option (Reader Index) → Reader Index
in_room f None = refuse
in_room f (Some inside) = f inside

-- `room` reads an index expression in one more bracket, if there may be one.
module _ (room : Option (Reader Index)) where
  unfoldable pub named : Word → Reader Index
  named x = λ ts. if sees s.OpenSquare ts then in_room (λ inside. cell inside x) room ts else Ok (tree.Var x, ts)

  abbrev pub factor_by : Option Token → Reader Index
  factor_by (Some (t.Name x)) = skip >> named x
  factor_by (Some (t.Number n)) = constant >>= (λ n. pure (tree.Const n))
  factor_by None = refuse
  factor_by _ = in_room bracketed room

  unfoldable pub factor : Reader Index
  factor = peek >>= factor_by

  unfoldable pub after_number : ℤ → Reader Index
  after_number n = λ ts. if sees s.Star ts then (do skip; e ← factor; pure (tree.Times n e)) ts else Ok (tree.Const n, ts)

  unfoldable pub after_factor : Index → Reader Index
  after_factor e = λ ts. if sees s.Star ts then (do skip; n ← constant; pure (tree.Times n e)) ts else Ok (e, ts)

  abbrev pub part_by : Option Token → Reader Index
  part_by (Some (t.Number n)) = constant >>= after_number
  part_by _ = factor >>= after_factor

  unfoldable pub part : Reader Index
  part = peek >>= part_by

  -- one more part, behind `+` or `-`
  abbrev pub next_part : Index → Option Token → Option (Reader Index)
  next_part left token =
      if is_sign s.Plus token then Some (do skip; right ← part; pure (tree.Plus left right))
      else (if is_sign s.Minus token then Some (do skip; right ← part; pure (tree.Minus left right))
      else None)

  unfoldable pub first_part : Reader Index
  first_part = λ ts. if sees s.Minus ts then (do skip; e ← part; pure (tree.Neg e)) ts else part ts

  unfoldable pub sum : Reader Index
  sum = first_part >>= many next_part

-- the reader in one more bracket, where so many may still be opened
unfoldable pub room : ℕ → Option (Reader Index)
room zero = None
room (suc b) = Some (sum (room b))

-- the longest index expression at the front
abbrev pub index : ℕ → Reader Index
index b = sum (room b)
