-- Programs that can be written: such as have a text.
use Rattle.std.specs.Prelude.{◌≤◌, ◌+◌, ℕ, suc, List, [], ◌∷◌, length}
use Rattle.std.specs.List.{AllByRecursion}
use Rattle.c_tree.specs.declared.index.Index.{Index}
use Rattle.c_tree.specs.declared.statement.Stmt.{Stmt}
use Rattle.c_tree.specs.declared.statement.Stmt.TheVariants as stmt
use Rattle.c_tree.specs.declared.program.Kind.{Kind}
use Rattle.c_tree.specs.declared.program.Kind.TheVariants as kind
use Rattle.c_tree.specs.declared.program.Array.{Array}
use Rattle.c_tree.specs.declared.program.Matrix.{Matrix}
use Rattle.c_tree.specs.declared.program.Program.{Program}
use Rattle.c_grammar.specs.Program.{loops, guards, brackets, executor, inspector, with_declared}
use Rattle.read_back.specs.Names.{Name, IsName}
use Rattle.read_back.specs.Fits.{FitsIndex}
use Rattle.read_back.specs.FitStatements.{FitsStatement, FitStatements}

pub record FitsMatrix (m : Matrix) : Type 0 where
  pub index : IsName m.index
  pub col : IsName m.col
  pub value : IsName m.value
  pub rows : IsName m.rows
  pub cols : IsName m.cols
  pub count : IsName m.count

-- one to three extents
pub data FitExtents : ℕ → List Index → Type 0 where
  one : {b : ℕ} {i : Index} → FitsIndex b i → FitExtents b (i ∷ [])
  two : {b : ℕ} {i j : Index} → FitsIndex b i → FitsIndex b j → FitExtents b (i ∷ j ∷ [])
  three : {b : ℕ} {i j k : Index} → FitsIndex b i → FitsIndex b j → FitsIndex b k → FitExtents b (i ∷ j ∷ k ∷ [])

-- positions have one extent, numbers one to three
pub data FitsArray : ℕ → Array → Type 0 where
  positions : {b : ℕ} {x : Name} {i : Index} → IsName x → FitsIndex b i → FitsArray b (record { name = x; kind = kind.Position; extents = i ∷ [] })
  numbers : {b : ℕ} {x : Name} {xs : List Index} → IsName x → FitExtents b xs → FitsArray b (record { name = x; kind = kind.Number; extents = xs })

-- a growable array has an extent that isn't written, and positions one more at most, numbers two
pub data FitsDeclaration : ℕ → Name → Kind → List Index → Type 0 where
  index1 : {b : ℕ} {x : Name} → IsName x → FitsDeclaration b x kind.Position []
  index2 : {b : ℕ} {x : Name} {i : Index} → IsName x → FitsIndex b i → FitsDeclaration b x kind.Position (i ∷ [])
  data1 : {b : ℕ} {x : Name} → IsName x → FitsDeclaration b x kind.Number []
  data2 : {b : ℕ} {x : Name} {i : Index} → IsName x → FitsIndex b i → FitsDeclaration b x kind.Number (i ∷ [])
  data3 : {b : ℕ} {x : Name} {i j : Index} → IsName x → FitsIndex b i → FitsIndex b j → FitsDeclaration b x kind.Number (i ∷ j ∷ [])

-- a statement or a declaration, with the growable index arrays before and behind it
pub data FitsItem : ℕ → List Name → Stmt → List Name → Type 0 where
  statement : {b : ℕ} {names : List Name} {x : Stmt} → FitsStatement (inspector names) (suc b) loops guards x → FitsItem b names x names
  declaration : {b : ℕ} {names : List Name} {x : Name} {k : Kind} {inner : List Index}
      → FitsDeclaration b x k inner → FitsItem b names (stmt.Declare x k inner) (with_declared k x names)

-- one or more statements and declarations
pub data FitItems : ℕ → List Name → List Stmt → List Name → Type 0 where
  one : {b : ℕ} {names behind : List Name} {x : Stmt} → FitsItem b names x behind → FitItems b names (x ∷ []) behind
  more : {b : ℕ} {names between behind : List Name} {x : Stmt} {xs : List Stmt}
      → FitsItem b names x between → FitItems b between xs behind → FitItems b names (x ∷ xs) behind

-- statements, or an inspector and an executor
pub data FitSections : ℕ → List Stmt → List Stmt → Type 0 where
  alone : {b : ℕ} {xs : List Stmt} → FitStatements executor (suc b) loops guards xs → FitSections b [] xs
  both : {b : ℕ} {xs ys : List Stmt} {behind : List Name}
      → FitItems b [] xs behind → FitStatements executor (suc b) loops guards ys → FitSections b xs ys

-- a program that can be written
pub record FitsProgram (p : Program) : Type 0 where
  pub name : IsName p.name
  pub matrices : AllByRecursion FitsMatrix p.matrices
  pub params : AllByRecursion IsName p.params
  pub arrays : AllByRecursion (FitsArray brackets) p.arrays
  pub some : 1 ≤ length p.params + length p.arrays
  pub sections : FitSections brackets p.inspector p.executor
