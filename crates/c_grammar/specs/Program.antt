-- The grammar of programs.
use Rattle.std.specs.Prelude.{ℕ, suc, true, false, List, [], ◌∷◌, ◌++◌, codes}
use Rattle.c_tokens.specs.declared.token.Sign.TheVariants as s
use Rattle.c_tokens.specs.declared.token.Token.{Token}
use Rattle.c_tokens.specs.declared.token.Token.TheVariants as t
use Rattle.c_tree.specs.declared.index.Index.{Index}
use Rattle.c_tree.specs.declared.statement.Stmt.{Stmt}
use Rattle.c_tree.specs.declared.statement.Stmt.TheVariants as stmt
use Rattle.c_tree.specs.declared.program.Kind.{Kind}
use Rattle.c_tree.specs.declared.program.Kind.TheVariants as kind
use Rattle.c_tree.specs.declared.program.Array.{Array}
use Rattle.c_tree.specs.declared.program.Matrix.{Matrix}
use Rattle.c_tree.specs.declared.program.Program.{Program}
use Rattle.c_grammar.specs.declared.pieces.Section.{Section}
use Rattle.c_grammar.specs.Index.{Word, IsIndex, IsSubscript}
use Rattle.c_grammar.specs.Statement.{IsStatement, AreStatements}

-- how many loops and guards may stand around one place
abbrev pub loops : ℕ
loops = 8

abbrev pub guards : ℕ
guards = 16

-- Of the 256 brackets that may stand around one place, those of the parameters and an extent, or of the procedure and
-- a statement, are two. So many may be opened inside them.
abbrev pub brackets : ℕ
brackets = 254

-- ---- matrices

-- `#pragma sparse csr(index, col, value, rows, cols, count)`
pub data IsMatrix : List Token → Matrix → List Token → Type 0 where
  matrix : {index col value rows cols count : Word} {after : List Token}
      → IsMatrix
      (t.Sign s.Pragma ∷ t.Name (codes "sparse") ∷ t.Name (codes "csr") ∷ t.Sign s.Open ∷ t.Name index ∷ t.Sign s.Comma ∷ t.Name col ∷ t.Sign s.Comma
      ∷ t.Name value ∷ t.Sign s.Comma ∷ t.Name rows ∷ t.Sign s.Comma ∷ t.Name cols ∷ t.Sign s.Comma ∷ t.Name count ∷ t.Sign s.Close ∷ after)
      (record { index = index; col = col; value = value; rows = rows; cols = cols; count = count }) after

-- any number of matrices
pub data AreMatrices : List Token → List Matrix → List Token → Type 0 where
  none : {after : List Token} → AreMatrices after [] after
  more : {ts us after : List Token} {x : Matrix} {xs : List Matrix} → IsMatrix ts x us → AreMatrices us xs after → AreMatrices ts (x ∷ xs) after

-- ---- parameters

-- one to three extents
pub data AreExtents : ℕ → List Token → List Index → List Token → Type 0 where
  one : {b : ℕ} {ts after : List Token} {i : Index} → IsSubscript b ts i after → AreExtents b ts (i ∷ []) after
  two : {b : ℕ} {ts us after : List Token} {i j : Index} → IsSubscript b ts i us → IsSubscript b us j after → AreExtents b ts (i ∷ j ∷ []) after
  three : {b : ℕ} {ts us vs after : List Token} {i j k : Index}
      → IsSubscript b ts i us → IsSubscript b us j vs → IsSubscript b vs k after → AreExtents b ts (i ∷ j ∷ k ∷ []) after

-- `int64_t` name with one extent, or `uint64_t` name with one to three
pub data IsArray : ℕ → List Token → Array → List Token → Type 0 where
  positions : {b : ℕ} {x : Word} {ts after : List Token} {i : Index}
      → IsSubscript b ts i after → IsArray b (t.Sign s.Int64 ∷ t.Name x ∷ ts) (record { name = x; kind = kind.Position; extents = i ∷ [] }) after
  numbers : {b : ℕ} {x : Word} {ts after : List Token} {xs : List Index}
      → AreExtents b ts xs after → IsArray b (t.Sign s.Uint64 ∷ t.Name x ∷ ts) (record { name = x; kind = kind.Number; extents = xs }) after

pub data AreArrays : ℕ → List Token → List Array → List Token → Type 0 where
  one : {b : ℕ} {ts after : List Token} {x : Array} → IsArray b ts x after → AreArrays b ts (x ∷ []) after
  more : {b : ℕ} {ts us after : List Token} {x : Array} {xs : List Array}
      → IsArray b ts x (t.Sign s.Comma ∷ us) → AreArrays b us xs after → AreArrays b ts (x ∷ xs) after

-- one or more, with commas: first `int64_t` names, then arrays
pub data AreParameters : ℕ → List Token → List Word → List Array → List Token → Type 0 where
  last : {b : ℕ} {x : Word} {after : List Token} → AreParameters b (t.Sign s.Int64 ∷ t.Name x ∷ after) (x ∷ []) [] after
  more : {b : ℕ} {x : Word} {ts after : List Token} {xs : List Word} {arrays : List Array}
      → AreParameters b ts xs arrays after → AreParameters b (t.Sign s.Int64 ∷ t.Name x ∷ t.Sign s.Comma ∷ ts) (x ∷ xs) arrays after
  arrays : {b : ℕ} {ts after : List Token} {xs : List Array} → AreArrays b ts xs after → AreParameters b ts [] xs after

-- ---- sections

-- `INDEX1(x);` and its like. So many brackets may still be opened inside its own.
pub data IsDeclaration : ℕ → List Token → Word → Kind → List Index → List Token → Type 0 where
  index1 : {b : ℕ} {x : Word} {after : List Token}
      → IsDeclaration b (t.Sign s.Index1 ∷ t.Sign s.Open ∷ t.Name x ∷ t.Sign s.Close ∷ t.Sign s.Semicolon ∷ after) x kind.Position [] after
  index2 : {b : ℕ} {x : Word} {ts after : List Token} {i : Index}
      → IsIndex b ts i (t.Sign s.Close ∷ t.Sign s.Semicolon ∷ after)
      → IsDeclaration b (t.Sign s.Index2 ∷ t.Sign s.Open ∷ t.Name x ∷ t.Sign s.Comma ∷ ts) x kind.Position (i ∷ []) after
  data1 : {b : ℕ} {x : Word} {after : List Token}
      → IsDeclaration b (t.Sign s.Data1 ∷ t.Sign s.Open ∷ t.Name x ∷ t.Sign s.Close ∷ t.Sign s.Semicolon ∷ after) x kind.Number [] after
  data2 : {b : ℕ} {x : Word} {ts after : List Token} {i : Index}
      → IsIndex b ts i (t.Sign s.Close ∷ t.Sign s.Semicolon ∷ after)
      → IsDeclaration b (t.Sign s.Data2 ∷ t.Sign s.Open ∷ t.Name x ∷ t.Sign s.Comma ∷ ts) x kind.Number (i ∷ []) after
  data3 : {b : ℕ} {x : Word} {ts us after : List Token} {i j : Index}
      → IsIndex b ts i (t.Sign s.Comma ∷ us) → IsIndex b us j (t.Sign s.Close ∷ t.Sign s.Semicolon ∷ after)
      → IsDeclaration b (t.Sign s.Data3 ∷ t.Sign s.Open ∷ t.Name x ∷ t.Sign s.Comma ∷ ts) x kind.Number (i ∷ j ∷ []) after

abbrev pub executor : Section
executor = record { is_inspector = false; growable = [] }

-- an inspector in which these growable index arrays are declared
abbrev pub inspector : List Word → Section
inspector names = record { is_inspector = true; growable = names }

-- the growable index arrays behind a declaration
abbrev pub with_declared : Kind → Word → List Word → List Word
with_declared kind.Position x names = names ++ x ∷ []
with_declared kind.Number x names = names

-- A statement or a declaration, with the growable index arrays before and behind it. So many brackets may still be
-- opened inside one of its own.
pub data IsItem : ℕ → List Word → List Token → Stmt → List Word → List Token → Type 0 where
  statement : {b : ℕ} {names : List Word} {ts after : List Token} {x : Stmt}
      → IsStatement (inspector names) (suc b) loops guards ts x after → IsItem b names ts x names after
  declaration : {b : ℕ} {names : List Word} {ts after : List Token} {x : Word} {k : Kind} {inner : List Index}
      → IsDeclaration b ts x k inner after → IsItem b names ts (stmt.Declare x k inner) (with_declared k x names) after

-- one or more statements and declarations, with the growable index arrays before and behind them
pub data AreItems : ℕ → List Word → List Token → List Stmt → List Word → List Token → Type 0 where
  one : {b : ℕ} {names behind : List Word} {ts after : List Token} {x : Stmt} → IsItem b names ts x behind after → AreItems b names ts (x ∷ []) behind after
  more : {b : ℕ} {names between behind : List Word} {ts us after : List Token} {x : Stmt} {xs : List Stmt}
      → IsItem b names ts x between us → AreItems b between us xs behind after → AreItems b names ts (x ∷ xs) behind after

-- statements, or an inspector and an executor
pub data AreSections : ℕ → List Token → List Stmt → List Stmt → List Token → Type 0 where
  alone : {b : ℕ} {ts after : List Token} {xs : List Stmt} → AreStatements executor (suc b) loops guards ts xs after → AreSections b ts [] xs after
  both : {b : ℕ} {ts us after : List Token} {xs ys : List Stmt} {behind : List Word}
      → AreItems b [] ts xs behind (t.Sign s.Pragma ∷ t.Name (codes "sparse") ∷ t.Name (codes "executor") ∷ us)
      → AreStatements executor (suc b) loops guards us ys after
      → AreSections b (t.Sign s.Pragma ∷ t.Name (codes "sparse") ∷ t.Name (codes "inspector") ∷ ts) xs ys after

-- ---- programs

-- Matrices, `void` name `(` parameters `)` `{` sections `}`. The tokens are the whole text.
pub data IsProgram : List Token → Program → Type 0 where
  program : {x : Word} {ts us vs : List Token} {matrices : List Matrix} {params : List Word} {arrays : List Array} {inspector executor : List Stmt}
      → AreMatrices ts matrices (t.Sign s.Void ∷ t.Name x ∷ t.Sign s.Open ∷ us)
      → AreParameters brackets us params arrays (t.Sign s.Close ∷ t.Sign s.OpenBrace ∷ vs)
      → AreSections brackets vs inspector executor (t.Sign s.CloseBrace ∷ [])
      → IsProgram ts (record { name = x; matrices = matrices; params = params; arrays = arrays; inspector = inspector; executor = executor })
