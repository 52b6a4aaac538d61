-- Statements that can be written, where so many brackets, loops and guards may still be opened.
use Rattle.std.specs.Prelude.{◌≡◌, ℕ, suc, true, false, List, [], ◌∷◌}
use Rattle.c_tree.specs.declared.data.Expr.{Expr}
use Rattle.c_tree.specs.declared.index.Index.{Index}
use Rattle.c_tree.specs.declared.index.Subscripts.{Subscripts}
use Rattle.c_tree.specs.declared.statement.Cmp.{Cmp}
use Rattle.c_tree.specs.declared.statement.How.{How}
use Rattle.c_tree.specs.declared.statement.How.TheVariants as how
use Rattle.c_tree.specs.declared.statement.Test.{Test}
use Rattle.c_tree.specs.declared.statement.Stmt.{Stmt}
use Rattle.c_tree.specs.declared.statement.Stmt.TheVariants as stmt
use Rattle.c_grammar.specs.declared.pieces.Section.{Section}
use Rattle.c_grammar.specs.Index.{cell_of}
use Rattle.c_grammar.specs.Statement.{takes_index}
use Rattle.read_back.specs.Names.{Name, IsName}
use Rattle.read_back.specs.Fits.{FitsIndex, FitSubscripts, FitsData}

-- two index expressions
pub data FitsTest : ℕ → Test → Type 0 where
  test : {b : ℕ} {left right : Index} {c : Cmp} → FitsIndex b left → FitsIndex b right → FitsTest b (record { left = left; cmp = c; right = right })

-- one or more tests
pub data FitTests : ℕ → List Test → Type 0 where
  one : {b : ℕ} {x : Test} → FitsTest b x → FitTests b (x ∷ [])
  more : {b : ℕ} {x : Test} {xs : List Test} → FitsTest b x → FitTests b xs → FitTests b (x ∷ xs)

mutual
  -- one or more statements
  pub data FitStatements : Section → (b l g : ℕ) → List Stmt → Type 0 where
    one : {section : Section} {b l g : ℕ} {x : Stmt} → FitsStatement section b l g x → FitStatements section b l g (x ∷ [])
    more : {section : Section} {b l g : ℕ} {x : Stmt} {xs : List Stmt}
        → FitsStatement section b l g x → FitStatements section b l g xs → FitStatements section b l g (x ∷ xs)

  -- a loop, a guard, an assignment, and in an inspector a growth or an assignment of an index
  pub data FitsStatement : Section → (b l g : ℕ) → Stmt → Type 0 where
    loop : {section : Section} {b l g : ℕ} {v : Name} {low high : Index} {body : List Stmt}
        → IsName v → FitsIndex b low → FitsIndex b high → FitStatements section b l g body
        → FitsStatement section (suc b) (suc l) g (stmt.For v low high body)
    guard : {section : Section} {b l g : ℕ} {tests : List Test} {body : List Stmt}
        → FitTests b tests → FitStatements section b l g body → FitsStatement section (suc b) l (suc g) (stmt.If tests body)
    assignment : {section : Section} {b l g : ℕ} {x : Name} {subscripts : Subscripts} {h : How} {value : Expr}
        → IsName x → FitSubscripts b subscripts → takes_index section x h ≡ false → FitsData (suc b) value
        → FitsStatement section (suc b) l g (stmt.Assign (cell_of x subscripts) h value)
    index_assignment : {section : Section} {b l g : ℕ} {x : Name} {subscripts : Subscripts} {value : Index}
        → IsName x → FitSubscripts b subscripts → takes_index section x how.Write ≡ true → FitsIndex (suc b) value
        → FitsStatement section (suc b) l g (stmt.Put (cell_of x subscripts) value)
    growth : {section : Section} {b l g : ℕ} {x : Name} {by : Index}
        → section.is_inspector ≡ true → IsName x → FitsIndex b by → FitsStatement section (suc b) l g (stmt.Grow x by)
