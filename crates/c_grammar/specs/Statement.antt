-- The grammar of statements. The numbers b, l and g say how many brackets, loops and guards may still be opened
-- around a place.
use Rattle.std.specs.Prelude.{◌≡◌, ℕ, suc, Bool, true, false, ◌&&◌, List, [], ◌∷◌, bytes_eq}
use Rattle.std.specs.List.{list_any}
use Rattle.c_tokens.specs.declared.token.Sign.TheVariants as s
use Rattle.c_tokens.specs.declared.token.Token.{Token}
use Rattle.c_tokens.specs.declared.token.Token.TheVariants as t
use Rattle.c_tree.specs.declared.data.Expr.{Expr}
use Rattle.c_tree.specs.declared.index.Index.{Index}
use Rattle.c_tree.specs.declared.index.Subscripts.{Subscripts}
use Rattle.c_tree.specs.declared.statement.Cmp.{Cmp}
use Rattle.c_tree.specs.declared.statement.Cmp.TheVariants as cmp
use Rattle.c_tree.specs.declared.statement.How.{How}
use Rattle.c_tree.specs.declared.statement.How.TheVariants as how
use Rattle.c_tree.specs.declared.statement.Test.{Test}
use Rattle.c_tree.specs.declared.statement.Stmt.{Stmt}
use Rattle.c_tree.specs.declared.statement.Stmt.TheVariants as stmt
use Rattle.c_grammar.specs.declared.pieces.Section.{Section}
use Rattle.c_grammar.specs.Index.{Word, cell_of, IsIndex, AreSubscripts}
use Rattle.c_grammar.specs.Data.{IsData}

-- `<`, `<=`, `>`, `>=` or `==`
pub data IsComparison : List Token → Cmp → List Token → Type 0 where
  less : {after : List Token} → IsComparison (t.Sign s.Less ∷ after) cmp.Less after
  at_most : {after : List Token} → IsComparison (t.Sign s.AtMost ∷ after) cmp.AtMost after
  more : {after : List Token} → IsComparison (t.Sign s.More ∷ after) cmp.More after
  at_least : {after : List Token} → IsComparison (t.Sign s.AtLeast ∷ after) cmp.AtLeast after
  same : {after : List Token} → IsComparison (t.Sign s.Same ∷ after) cmp.Same after

-- an index, a comparison, an index
pub data IsTest : ℕ → List Token → Test → List Token → Type 0 where
  test : {b : ℕ} {ts us vs after : List Token} {left right : Index} {c : Cmp}
      → IsIndex b ts left us → IsComparison us c vs → IsIndex b vs right after
      → IsTest b ts (record { left = left; cmp = c; right = right }) after

-- a test, and further ones after `&&`
pub data AreTests : ℕ → List Token → List Test → List Token → Type 0 where
  one : {b : ℕ} {ts after : List Token} {x : Test} → IsTest b ts x after → AreTests b ts (x ∷ []) after
  more : {b : ℕ} {ts us after : List Token} {x : Test} {xs : List Test}
      → IsTest b ts x (t.Sign s.And ∷ us) → AreTests b us xs after → AreTests b ts (x ∷ xs) after

-- `=`, `+=` or `-=`
pub data IsHow : List Token → How → List Token → Type 0 where
  write : {after : List Token} → IsHow (t.Sign s.Assign ∷ after) how.Write after
  add : {after : List Token} → IsHow (t.Sign s.AddAssign ∷ after) how.Add after
  subtract : {after : List Token} → IsHow (t.Sign s.SubtractAssign ∷ after) how.Subtract after

-- the name is one of the list
abbrev pub is_among : List Word → Word → Bool
is_among names x = list_any (λ y. bytes_eq y x) names

-- a growable index array, declared before
abbrev pub is_growable : Section → Word → Bool
is_growable section x = is_among section.growable x

abbrev pub is_write : How → Bool
is_write how.Write = true
is_write _ = false

-- `=` gives a cell of a growable index array an index, and any other cell data
abbrev pub takes_index : Section → Word → How → Bool
takes_index section x h = is_growable section x && is_write h

mutual
  -- one or more statements
  pub data AreStatements : Section → (b l g : ℕ) → List Token → List Stmt → List Token → Type 0 where
    one : {section : Section} {b l g : ℕ} {ts after : List Token} {x : Stmt}
        → IsStatement section b l g ts x after → AreStatements section b l g ts (x ∷ []) after
    more : {section : Section} {b l g : ℕ} {ts us after : List Token} {x : Stmt} {xs : List Stmt}
        → IsStatement section b l g ts x us → AreStatements section b l g us xs after → AreStatements section b l g ts (x ∷ xs) after

  -- a loop, a guard, an assignment, and in an inspector a growth or an assignment of an index
  pub data IsStatement : Section → (b l g : ℕ) → List Token → Stmt → List Token → Type 0 where
    -- `for (int64_t v = low; v < high; v++) body`: the three names are one
    loop : {section : Section} {b l g : ℕ} {v : Word} {ts us vs after : List Token} {low high : Index} {body : List Stmt}
        → IsIndex b ts low (t.Sign s.Semicolon ∷ t.Name v ∷ t.Sign s.Less ∷ us)
        → IsIndex b us high (t.Sign s.Semicolon ∷ t.Name v ∷ t.Sign s.Increment ∷ t.Sign s.Close ∷ vs)
        → IsBody section b l g vs body after
        → IsStatement section (suc b) (suc l) g (t.Sign s.For ∷ t.Sign s.Open ∷ t.Sign s.Int64 ∷ t.Name v ∷ t.Sign s.Assign ∷ ts) (stmt.For v low high body) after
    guard : {section : Section} {b l g : ℕ} {ts us after : List Token} {tests : List Test} {body : List Stmt}
        → AreTests b ts tests (t.Sign s.Close ∷ us) → IsBody section b l g us body after
        → IsStatement section (suc b) l (suc g) (t.Sign s.If ∷ t.Sign s.Open ∷ ts) (stmt.If tests body) after
    assignment : {section : Section} {b l g : ℕ} {x : Word} {ts us vs after : List Token} {subscripts : Subscripts} {h : How} {value : Expr}
        → AreSubscripts b ts subscripts us → IsHow us h vs → takes_index section x h ≡ false → IsData (suc b) vs value (t.Sign s.Semicolon ∷ after)
        → IsStatement section (suc b) l g (t.Name x ∷ ts) (stmt.Assign (cell_of x subscripts) h value) after
    index_assignment : {section : Section} {b l g : ℕ} {x : Word} {ts us after : List Token} {subscripts : Subscripts} {value : Index}
        → AreSubscripts b ts subscripts (t.Sign s.Assign ∷ us) → takes_index section x how.Write ≡ true → IsIndex (suc b) us value (t.Sign s.Semicolon ∷ after)
        → IsStatement section (suc b) l g (t.Name x ∷ ts) (stmt.Put (cell_of x subscripts) value) after
    growth : {section : Section} {b l g : ℕ} {x : Word} {ts after : List Token} {by : Index}
        → section.is_inspector ≡ true → IsIndex b ts by (t.Sign s.Close ∷ t.Sign s.Semicolon ∷ after)
        → IsStatement section (suc b) l g (t.Sign s.Grow ∷ t.Sign s.Open ∷ t.Name x ∷ t.Sign s.Comma ∷ ts) (stmt.Grow x by) after

  -- `{` statements `}`, or one statement. Either counts as a bracket, which is open at b.
  pub data IsBody : Section → (b l g : ℕ) → List Token → List Stmt → List Token → Type 0 where
    braces : {section : Section} {b l g : ℕ} {ts after : List Token} {xs : List Stmt}
        → AreStatements section b l g ts xs (t.Sign s.CloseBrace ∷ after) → IsBody section b l g (t.Sign s.OpenBrace ∷ ts) xs after
    bare : {section : Section} {b l g : ℕ} {ts after : List Token} {x : Stmt}
        → IsStatement section b l g ts x after → IsBody section b l g ts (x ∷ []) after
