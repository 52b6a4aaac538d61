-- The statements of an executor, by the grammar.
use Rattle.std.proofs.Common.{◌≡◌, ℕ, arith, ◌≤◌, true, false, List, [], ◌∷◌, length, refl}
use Rattle.c_tokens.specs.declared.token.Token.{Token}
use Rattle.c_tree.specs.declared.program.Program.{Program}
use Rattle.c_tree.specs.declared.statement.Stmt.{Stmt}
use Rattle.c_grammar.specs.Statement.{AreStatements, IsStatement, IsBody}
use Rattle.c_grammar.specs.Statement as rule
use Rattle.c_grammar.specs.Program.{executor, loops, IsProgram, AreSections}
use Rattle.c_grammar.specs.Program as whole
use Rattle.source_limits.specs.Executor.{is_executed, are_executed, HasExecutor}
use Rattle.source_limits.proofs.Executing.{executed-For, executed-If, executed-Assign}

-- at least one, and all of them such
pub record Executed (l : ℕ) (xs : List Stmt) : Type 0 where
  pub all : are_executed l xs ≡ true
  pub some : 1 ≤ length xs

one : (l : ℕ) (x : Stmt) → is_executed x l ≡ true → Executed l (x ∷ [])
one l x e = record { all = rw e refl; some = omega arith }

more : (l : ℕ) (x : Stmt) (xs : List Stmt) → is_executed x l ≡ true → Executed l xs → Executed l (x ∷ xs)
more l x xs e h = record { all = rw e h.all; some = omega arith }

no_index : {A : Type 0} → false ≡ true → A
no_index e = absurd cc

mutual
  statement_executed : {b l g : ℕ} {ts after : List Token} {x : Stmt} → IsStatement executor b l g ts x after → is_executed x l ≡ true
  statement_executed (rule.loop {l = l} {v = v} {low = low} {high = high} {body = body} i j k) = let h = body_executed k in executed-For v low high body l h.all h.some
  statement_executed (rule.guard {l = l} {tests = tests} {body = body} h k) = let e = body_executed k in executed-If tests body l e.all e.some
  statement_executed (rule.assignment {l = l} {x = x} {subscripts = subscripts} {h = h} {value = value} p q other d) = executed-Assign _ h value l
  statement_executed (rule.index_assignment p grows i) = no_index grows
  statement_executed (rule.growth here i) = no_index here

  statements_executed : {b l g : ℕ} {ts after : List Token} {xs : List Stmt} → AreStatements executor b l g ts xs after → Executed l xs
  statements_executed (rule.one {l = l} {x = x} h) = one l x (statement_executed h)
  statements_executed (rule.more {l = l} {x = x} {xs = xs} h k) = more l x xs (statement_executed h) (statements_executed k)

  body_executed : {b l g : ℕ} {ts after : List Token} {xs : List Stmt} → IsBody executor b l g ts xs after → Executed l xs
  body_executed (rule.braces h) = statements_executed h
  body_executed (rule.bare {l = l} {x = x} h) = one l x (statement_executed h)

sections_executed : {b : ℕ} {ts after : List Token} {xs ys : List Stmt} → AreSections b ts xs ys after → Executed loops ys
sections_executed (whole.alone h) = statements_executed h
sections_executed (whole.both i h) = statements_executed h

-- a program of the grammar has an executor
pub program-executor : (ts : List Token) (p : Program) → IsProgram ts p → HasExecutor p
program-executor ts p (whole.program {executor = ys} m a s) =
    let h = sections_executed s in
    record { some = h.some; executed = h.all }
