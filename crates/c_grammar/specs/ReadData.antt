-- Data expressions, read from the left.
use Rattle.std.specs.Prelude.{ℕ, zero, suc, if◌then◌else◌, Option, Some, None}
use Rattle.c_tokens.specs.declared.token.Sign.TheVariants as s
use Rattle.c_tokens.specs.declared.token.Token.{Token}
use Rattle.c_tokens.specs.declared.token.Token.TheVariants as t
use Rattle.c_tree.specs.declared.data.Expr.{Expr}
use Rattle.c_tree.specs.declared.data.Expr.TheVariants as expr
use Rattle.c_tree.specs.declared.index.Index.{Index}
use Rattle.c_tokens.specs.Tokens.{is_sign, expect}
use Rattle.c_grammar.specs.Index.{Word, cell_of}
use Rattle.c_grammar.specs.Reader.{Reader, ◌>>=◌, ◌>>◌, pure, refuse, peek, skip, many}
use Rattle.c_grammar.specs.ReadIndex as index

-- Readers of what stands in a bracket: a subscript, and data.
pub record Room : Type 0 where
  pub subscript : Reader Index
  pub inner : Reader Expr

module _ (inside : Room) where
  unfoldable pub cell : Word → Reader Expr
  cell x = do
    subscripts ← index.subscripts inside.subscript
    pure (expr.At (cell_of x subscripts))

  unfoldable pub group : Reader Expr
  group = do
    expect s.Open
    e ← inside.inner
    expect s.Close
    pure e

-- what needs a bracket is refused where there may be none
abbrev pub in_room : (Room → Reader Expr) → Option Room → Reader Expr
in_room f None = refuse
in_room f (Some inside) = f inside

module _ (room : Option Room) where
  abbrev pub named : Word → Reader Expr
  named x = in_room (λ inside. skip >> cell inside x) room

  abbrev pub factor_by : Option Token → Reader Expr
  factor_by (Some (t.Name x)) = named x
  factor_by (Some (t.Number n)) = skip >> pure (expr.Const n)
  factor_by None = refuse
  factor_by _ = in_room group room

  unfoldable pub factor : Reader Expr
  factor = peek >>= factor_by

  -- one more factor, behind `*`
  abbrev pub next_factor : Expr → Option Token → Option (Reader Expr)
  next_factor left token = if is_sign s.Star token then Some (do skip; right ← factor; pure (expr.Times left right)) else None

  unfoldable pub part : Reader Expr
  part = factor >>= many next_factor

  -- one more part, behind `+` or `-`
  abbrev pub next_part : Expr → Option Token → Option (Reader Expr)
  next_part left token =
      if is_sign s.Plus token then Some (do skip; right ← part; pure (expr.Plus left right))
      else (if is_sign s.Minus token then Some (do skip; right ← part; pure (expr.Minus left right))
      else None)

  unfoldable pub sum : Reader Expr
  sum = part >>= many next_part

-- the readers in one more bracket, where so many may still be opened
unfoldable pub room : ℕ → Option Room
room zero = None
room (suc b) = Some (record { subscript = index.index b; inner = sum (room b) })

-- the longest data expression at the front
abbrev pub value : ℕ → Reader Expr
value b = sum (room b)
