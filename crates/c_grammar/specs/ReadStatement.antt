-- Statements, read from the left.
use Rattle.std.specs.Prelude.{ℕ, zero, suc, ◌==◌, ◌-◌, ◌||◌, ◌&&◌, if◌then◌else◌, List, [], ◌∷◌, ◌++◌, Option, Some, None, Ok, Err}
use Rattle.c_tokens.specs.declared.token.Sign.TheVariants as s
use Rattle.c_tokens.specs.declared.token.Token.{Token}
use Rattle.c_tree.specs.declared.index.Index.{Index}
use Rattle.c_tree.specs.declared.index.Subscripts.{Subscripts}
use Rattle.c_tree.specs.declared.statement.Cmp.{Cmp}
use Rattle.c_tree.specs.declared.statement.Cmp.TheVariants as cmp
use Rattle.c_tree.specs.declared.statement.How.{How}
use Rattle.c_tree.specs.declared.statement.How.TheVariants as how
use Rattle.c_tree.specs.declared.statement.Test.{Test}
use Rattle.c_tree.specs.declared.statement.Stmt.{Stmt}
use Rattle.c_tree.specs.declared.statement.Stmt.TheVariants as stmt
use Rattle.c_tokens.specs.Tokens.{is_sign, sees, expect, rest}
use Rattle.c_grammar.specs.declared.pieces.Section.{Section}
use Rattle.c_grammar.specs.declared.pieces.Range.{Range}
use Rattle.c_grammar.specs.Index.{Word, cell_of}
use Rattle.c_grammar.specs.Statement.{takes_index}
use Rattle.c_grammar.specs.Reader.{Reader, ◌>>=◌, ◌>>◌, pure, refuse, skip, many, name, word}
use Rattle.c_grammar.specs.ReadIndex as index
use Rattle.c_grammar.specs.ReadData as values

unfoldable pub comparison : Reader Cmp
comparison = λ ts.
    if sees s.Less ts then Ok (cmp.Less, rest ts)
    else (if sees s.AtMost ts then Ok (cmp.AtMost, rest ts)
    else (if sees s.More ts then Ok (cmp.More, rest ts)
    else (if sees s.AtLeast ts then Ok (cmp.AtLeast, rest ts)
    else (if sees s.Same ts then Ok (cmp.Same, rest ts)
    else Err ts))))

unfoldable pub assignment_sign : Reader How
assignment_sign = λ ts.
    if sees s.Assign ts then Ok (how.Write, rest ts)
    else (if sees s.AddAssign ts then Ok (how.Add, rest ts)
    else (if sees s.SubtractAssign ts then Ok (how.Subtract, rest ts)
    else Err ts))

unfoldable pub test : ℕ → Reader Test
test b = do
  left ← index.index b
  c ← comparison
  right ← index.index b
  pure (record { left = left; cmp = c; right = right })

-- one more test, behind `&&`
abbrev pub next_test : ℕ → List Test → Option Token → Option (Reader (List Test))
next_test b xs token = if is_sign s.And token then Some (do skip; x ← test b; pure (xs ++ x ∷ [])) else None

unfoldable pub tests : ℕ → Reader (List Test)
tests b = do
  x ← test b
  many (next_test b) (x ∷ [])

-- the upper bound of a loop, and the step
unfoldable pub upper : ℕ → Word → Index → Reader Range
upper b v low = do
  high ← index.index b
  expect s.Semicolon
  word v
  expect s.Increment
  expect s.Close
  pure (record { var = v; low = low; high = high })

-- the lower bound, and what follows
unfoldable pub lower : ℕ → Word → Reader Range
lower b v = do
  low ← index.index b
  expect s.Semicolon
  word v
  expect s.Less
  upper b v low

unfoldable pub range : ℕ → Reader Range
range b = do
  expect s.Open
  expect s.Int64
  v ← name
  expect s.Assign
  lower b v

unfoldable pub growth : ℕ → Reader Stmt
growth b = do
  expect s.Grow
  expect s.Open
  x ← name
  expect s.Comma
  by ← index.index b
  expect s.Close
  expect s.Semicolon
  pure (stmt.Grow x by)

unfoldable pub put : ℕ → Word → Subscripts → Reader Stmt
put b x subscripts = do
  value ← index.index b
  expect s.Semicolon
  pure (stmt.Put (cell_of x subscripts) value)

unfoldable pub assign : ℕ → Word → Subscripts → How → Reader Stmt
assign b x subscripts h = do
  value ← values.value b
  expect s.Semicolon
  pure (stmt.Assign (cell_of x subscripts) h value)

unfoldable pub assigned : Section → ℕ → Word → Subscripts → Reader Stmt
assigned section b x subscripts = do
  h ← assignment_sign
  if takes_index section x h then put b x subscripts else assign b x subscripts h

unfoldable pub assignment : Section → ℕ → Reader Stmt
assignment section b = do
  x ← name
  subscripts ← index.subscripts (index.index b)
  assigned section (suc b) x subscripts

-- `statement l g` reads a statement in a body, where so many loops and guards may still be opened. So many brackets
-- may be opened there.
module _ (section : Section) (b : ℕ) (statement : ℕ → ℕ → Reader Stmt) where
  -- one more statement, unless the bracket is closed
  abbrev pub next_statement : ℕ → ℕ → List Stmt → Option Token → Option (Reader (List Stmt))
  next_statement l g xs token = if is_sign s.CloseBrace token then None else Some (do x ← statement l g; pure (xs ++ x ∷ []))

  unfoldable pub statements_by : ℕ → ℕ → Reader (List Stmt)
  statements_by l g = do
    x ← statement l g
    many (next_statement l g) (x ∷ [])

  unfoldable pub body : ℕ → ℕ → Reader (List Stmt)
  body l g = λ ts.
      if sees s.OpenBrace ts then (do skip; xs ← statements_by l g; expect s.CloseBrace; pure xs) ts
      else (do x ← statement l g; pure (x ∷ [])) ts

  unfoldable pub repetition : ℕ → ℕ → Reader Stmt
  repetition l g = do
    expect s.For
    r ← range b
    xs ← body l g
    pure (stmt.For r.var r.low r.high xs)

  unfoldable pub guarded : ℕ → ℕ → Reader Stmt
  guarded l g = do
    expect s.If
    expect s.Open
    xs ← tests b
    expect s.Close
    ys ← body l g
    pure (stmt.If xs ys)

  -- A loop's or guard's body needs a bracket of its own.
  unfoldable pub statement_by : ℕ → ℕ → Reader Stmt
  statement_by l g = λ ts.
      if sees s.For ts then (if b == 0 || l == 0 then Err ts else repetition (l - 1) g ts)
      else (if sees s.If ts then (if b == 0 || g == 0 then Err ts else guarded l (g - 1) ts)
      else (if section.is_inspector && sees s.Grow ts then growth b ts
      else assignment section b ts))

-- a statement, where so many brackets, loops and guards may still be opened
unfoldable pub statement : Section → (b l g : ℕ) → Reader Stmt
statement section zero = λ l g. refuse
statement section (suc b) = statement_by section b (statement section b)

abbrev pub statements : Section → (b l g : ℕ) → Reader (List Stmt)
statements section b l g = statements_by section b (statement section b) l g
