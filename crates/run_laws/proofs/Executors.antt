-- Executors of the grammar have loops, guards and assignments alone, and take at most as many child positions as they have
-- assignments.
use Rattle.std.proofs.Common.{◌≡◌, ℕ, ◌+◌, ◌≤◌, Bool, true, false, ◌&&◌, List, [], ◌∷◌, map, refl, sym, ap, ◌∙◌, arith}
use Rattle.std.specs.List.{list_all}
use Rattle.c_tokens.specs.declared.token.Token.{Token}
use Rattle.c_tree.specs.declared.index.Index.{Index}
use Rattle.c_tree.specs.declared.statement.Stmt.{Stmt}
use Rattle.c_tree.specs.declared.statement.Stmt.TheVariants.{For, If, Assign}
use Rattle.c_tree.specs.declared.statement.Test.{Test}
use Rattle.c_grammar.specs.Index.{Word, cell_of}
use Rattle.c_grammar.specs.Statement.{AreStatements, IsStatement, IsBody}
use Rattle.c_grammar.specs.Statement as rule
use Rattle.c_grammar.specs.Program.{executor}
use Rattle.c_judge.specs.declared.limits.Counted.TheVariants.{Assignments}
use Rattle.c_judge.specs.Limits.{count_in, count_of}
use Rattle.c_judge.proofs.SizesAt.{count_for, count_if, count_assign}
use Rattle.c_meaning.specs.Run.{part, widths}
use Rattle.c_meaning.specs.Programs.{is_executor}
use Rattle.c_meaning.proofs.Parts.{executes-For, executes-If, executes-Assign}
use Rattle.c_walk.proofs.Statements.{width-For, width-If, width-Assign}
use Rattle.run_laws.proofs.Choices.{both}

pub record Executes (t : Stmt) : Type 0 where
  pub some : 1 ≤ (part t).width
  pub few : (part t).width ≤ count_in Assignments t
  pub simple : is_executor t ≡ true

pub record AllExecute (ts : List Stmt) : Type 0 where
  pub some : 1 ≤ widths (map part ts)
  pub few : widths (map part ts) ≤ count_of Assignments ts
  pub simple : list_all is_executor ts ≡ true

one : (t : Stmt) → Executes t → AllExecute (t ∷ [])
one t h = let s = h.some in let f = h.few in record { some = omega (arith, s); few = omega (arith, f); simple = both (is_executor t) true h.simple refl }

more : (t : Stmt) (ts : List Stmt) → Executes t → AllExecute ts → AllExecute (t ∷ ts)
more t ts h k =
    let s = h.some in let f = h.few in let g = k.few in
    record { some = omega (arith, s); few = omega (arith, f, g); simple = both (is_executor t) (list_all is_executor ts) h.simple k.simple }

all_in : (ts : List Stmt) → list_all (λ (b : Bool). b) (map is_executor ts) ≡ list_all is_executor ts
all_in [] = refl
all_in (t ∷ ts) = ap (λ (b : Bool). is_executor t && b) (all_in ts)

loop_executes : (x : Word) (low high : Index) (body : List Stmt) → AllExecute body → Executes (For x low high body)
loop_executes x low high body h =
    let w = width-For (For x low high body) x low high body refl in let n = count_for Assignments x low high body in let s = h.some in let f = h.few in
    record { some = omega (arith, w); few = omega (arith, w, n, s, f); simple = executes-For x low high body ∙ all_in body ∙ h.simple }

guard_executes : (tests : List Test) (body : List Stmt) → AllExecute body → Executes (If tests body)
guard_executes tests body h =
    let w = width-If (If tests body) tests body refl in let n = count_if Assignments tests body in let s = h.some in let f = h.few in
    record { some = omega (arith, w, s); few = omega (arith, w, n, f); simple = executes-If tests body ∙ all_in body ∙ h.simple }

no_index : {A : Type 0} → false ≡ true → A
no_index e = absurd cc

mutual
  statement_executes : {b l g : ℕ} {ts after : List Token} {x : Stmt} → IsStatement executor b l g ts x after → Executes x
  statement_executes (rule.loop {v = v} {low = low} {high = high} {body = body} i j k) = loop_executes v low high body (body_executes k)
  statement_executes (rule.guard {tests = tests} {body = body} h k) = guard_executes tests body (body_executes k)
  statement_executes (rule.assignment {x = x} {subscripts = s} {h = h} {value = value} p q other d) =
      let w = width-Assign (Assign (cell_of x s) h value) (cell_of x s) h value refl in let n = count_assign Assignments (cell_of x s) h value in
      record { some = omega (arith, w); few = omega (arith, w, n); simple = executes-Assign (cell_of x s) h value }
  statement_executes (rule.index_assignment p grows i) = no_index grows
  statement_executes (rule.growth here i) = no_index here

  pub statements_execute : {b l g : ℕ} {ts after : List Token} {xs : List Stmt} → AreStatements executor b l g ts xs after → AllExecute xs
  statements_execute (rule.one {x = x} h) = one x (statement_executes h)
  statements_execute (rule.more {x = x} {xs = xs} h k) = more x xs (statement_executes h) (statements_execute k)

  pub body_executes : {b l g : ℕ} {ts after : List Token} {xs : List Stmt} → IsBody executor b l g ts xs after → AllExecute xs
  body_executes (rule.braces h) = statements_execute h
  body_executes (rule.bare {x = x} h) = one x (statement_executes h)
