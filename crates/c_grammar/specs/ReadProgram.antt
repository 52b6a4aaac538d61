-- Programs, read from the left.
use Rattle.std.specs.Prelude.{ℕ, zero, suc, Bool, true, false, ◌||◌, not, if◌then◌else◌, List, [], ◌∷◌, ◌++◌, Option, Some, None, Ok, codes}
use Rattle.c_tokens.specs.declared.token.Sign.TheVariants as s
use Rattle.c_tokens.specs.declared.token.Token.{Token}
use Rattle.c_tree.specs.declared.index.Index.{Index}
use Rattle.c_tree.specs.declared.statement.Stmt.{Stmt}
use Rattle.c_tree.specs.declared.statement.Stmt.TheVariants as stmt
use Rattle.c_tree.specs.declared.program.Kind.{Kind}
use Rattle.c_tree.specs.declared.program.Kind.TheVariants as kind
use Rattle.c_tree.specs.declared.program.Array.{Array}
use Rattle.c_tree.specs.declared.program.Matrix.{Matrix}
use Rattle.c_tree.specs.declared.program.Program.{Program}
use Rattle.c_tokens.specs.Tokens.{first, is_sign, sees, expect}
use Rattle.c_grammar.specs.declared.pieces.Signature.{Signature}
use Rattle.c_grammar.specs.Index.{Word}
use Rattle.c_grammar.specs.Program.{brackets, loops, guards, executor, inspector, with_declared}
use Rattle.c_grammar.specs.Reader.{Reader, ◌>>=◌, ◌>>◌, pure, skip, many, name, word}
use Rattle.c_grammar.specs.ReadIndex as index
use Rattle.c_grammar.specs.ReadStatement as statement

-- ---- matrices

unfoldable pub further_name : Reader Word
further_name = expect s.Comma >> name

-- the six names of a matrix
unfoldable pub names : Reader Matrix
names = do
  index ← name
  col ← further_name
  value ← further_name
  rows ← further_name
  cols ← further_name
  count ← further_name
  expect s.Close
  pure (record { index = index; col = col; value = value; rows = rows; cols = cols; count = count })

unfoldable pub matrix : Reader Matrix
matrix = do
  expect s.Pragma
  word (codes "sparse")
  word (codes "csr")
  expect s.Open
  names

abbrev pub next_matrix : List Matrix → Option Token → Option (Reader (List Matrix))
next_matrix xs token = if is_sign s.Pragma token then Some (do x ← matrix; pure (xs ++ x ∷ [])) else None

abbrev pub matrices : Reader (List Matrix)
matrices = many next_matrix []

-- ---- parameters

abbrev pub is_empty : List Array → Bool
is_empty [] = true
is_empty (x ∷ xs) = false

abbrev pub nothing_found : Signature
nothing_found = record { params = []; arrays = [] }

abbrev pub with_param : Signature → Word → Signature
with_param found x = record found { params = found.params ++ x ∷ [] }

abbrev pub with_array : Signature → Array → Signature
with_array found x = record found { arrays = found.arrays ++ x ∷ [] }

module _ (b : ℕ) where
  unfoldable pub third_extent : Index → Index → Reader (List Index)
  third_extent i j = λ ts. if sees s.OpenSquare ts then (do k ← index.subscript (index.index b); pure (i ∷ j ∷ k ∷ [])) ts else Ok (i ∷ j ∷ [], ts)

  unfoldable pub second_extent : Index → Reader (List Index)
  second_extent i = λ ts. if sees s.OpenSquare ts then (index.subscript (index.index b) >>= third_extent i) ts else Ok (i ∷ [], ts)

  -- one to three extents
  unfoldable pub extents : Reader (List Index)
  extents = index.subscript (index.index b) >>= second_extent

  unfoldable pub positions : Word → Signature → Reader Signature
  positions x found = do
    i ← index.subscript (index.index b)
    pure (with_array found (record { name = x; kind = kind.Position; extents = i ∷ [] }))

  -- Behind an array no plain parameter stands.
  unfoldable pub position : Word → Signature → Reader Signature
  position x found = λ ts.
      if sees s.OpenSquare ts || not (is_empty found.arrays) then positions x found ts
      else Ok (with_param found x, ts)

  unfoldable pub numbers : Word → Signature → Reader Signature
  numbers x found = do
    is ← extents
    pure (with_array found (record { name = x; kind = kind.Number; extents = is }))

  unfoldable pub parameter : Signature → Reader Signature
  parameter found = λ ts.
      if sees s.Int64 ts then (do skip; x ← name; position x found) ts
      else (do expect s.Uint64; x ← name; numbers x found) ts

  abbrev pub next_parameter : Signature → Option Token → Option (Reader Signature)
  next_parameter found token = if is_sign s.Comma token then Some (skip >> parameter found) else None

  unfoldable pub parameters : Reader Signature
  parameters = parameter nothing_found >>= many next_parameter

-- ---- sections

-- the kind of a declared array, and how many extents it names
abbrev pub declared : Option Token → Option (Kind × ℕ)
declared token =
    if is_sign s.Index1 token then Some (kind.Position, 0)
    else (if is_sign s.Index2 token then Some (kind.Position, 1)
    else (if is_sign s.Data1 token then Some (kind.Number, 0)
    else (if is_sign s.Data2 token then Some (kind.Number, 1)
    else (if is_sign s.Data3 token then Some (kind.Number, 2)
    else None))))

-- so many further extents
unfoldable pub inner : ℕ → ℕ → List Index → Reader (List Index)
inner b zero is = pure is
inner b (suc n) is = do
  expect s.Comma
  i ← index.index b
  inner b n (is ++ i ∷ [])

unfoldable pub declaration : ℕ → Kind → ℕ → List Word → Reader (Stmt × List Word)
declaration b k n names = do
  skip
  expect s.Open
  x ← name
  is ← inner b n []
  expect s.Close
  expect s.Semicolon
  pure (stmt.Declare x k is, with_declared k x names)

-- the statement, and the growable index arrays behind it
abbrev pub item_by : ℕ → List Word → Option (Kind × ℕ) → Reader (Stmt × List Word)
item_by b names (Some p) = declaration b p.0 p.1 names
item_by b names None = do
  x ← statement.statement (inspector names) (suc b) loops guards
  pure (x, names)

unfoldable pub item : ℕ → List Word → Reader (Stmt × List Word)
item b names = λ ts. item_by b names (declared (first ts)) ts

-- the items, and the growable index arrays behind them
abbrev pub Items : Type 0
Items = List Stmt × List Word

abbrev pub next_item : ℕ → Items → Option Token → Option (Reader Items)
next_item b found token =
    if is_sign s.Pragma token then None
    else Some (do p ← item b found.1; pure (found.0 ++ p.0 ∷ [], p.1))

unfoldable pub items : ℕ → Reader (List Stmt)
items b = do
  p ← item b []
  found ← many (next_item b) (p.0 ∷ [], p.1)
  pure found.0

-- the inspector, up to the executor's first statement
unfoldable pub inspected : ℕ → Reader (List Stmt)
inspected b = do
  expect s.Pragma
  word (codes "sparse")
  word (codes "inspector")
  xs ← items b
  expect s.Pragma
  word (codes "sparse")
  word (codes "executor")
  pure xs

unfoldable pub inspector_if_any : ℕ → Reader (List Stmt)
inspector_if_any b = λ ts. if sees s.Pragma ts then inspected b ts else Ok ([], ts)

unfoldable pub executed : ℕ → Reader (List Stmt)
executed b = statement.statements executor b loops guards

-- ---- programs

-- what follows the bracket behind a procedure's name
unfoldable pub procedure : List Matrix → Word → Reader Program
procedure matrices x = do
  found ← parameters brackets
  expect s.Close
  expect s.OpenBrace
  inspector ← inspector_if_any brackets
  executor ← executed (suc brackets)
  expect s.CloseBrace
  pure (record { name = x; matrices = matrices; params = found.params; arrays = found.arrays; inspector = inspector; executor = executor })

unfoldable pub program : Reader Program
program = do
  matrices ← matrices
  expect s.Void
  x ← name
  expect s.Open
  procedure matrices x
