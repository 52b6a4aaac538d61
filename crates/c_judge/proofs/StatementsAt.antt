-- What is judged at each kind of statement.
use Rattle.std.specs.Prelude.{◌≡◌, ℕ, suc, ◌+◌, ◌<◌, List, map, length, drop, Ok, None}
use Rattle.std.specs.Option.{option_or}
use Rattle.std.proofs.Common.{ap, ◌∙◌, sym, get_or, add-one}
use Rattle.std.proofs.Math.Seq.{drop-cons}
use Rattle.c_tree.specs.declared.index.Index.{Index}
use Rattle.c_tree.specs.declared.index.Cell.{Cell}
use Rattle.c_tree.specs.declared.data.Expr.{Expr}
use Rattle.c_tree.specs.declared.program.Kind.{Kind}
use Rattle.c_tree.specs.declared.statement.How.{How}
use Rattle.c_tree.specs.declared.statement.Test.{Test}
use Rattle.c_tree.specs.declared.statement.Stmt.{Stmt, Stmt-F, fold_out-Stmt, map-Stmt, out-Stmt}
use Rattle.c_tree.specs.declared.statement.Stmt.TheVariants.{For, If, Assign, Put, Declare, Grow, outs-For, outs-If, outs-Assign, outs-Put, outs-Declare, outs-Grow}
use Rattle.c_judge.specs.declared.names.Part.{Part}
use Rattle.c_judge.specs.Names.{Name, Names}
use Rattle.c_judge.specs.Outcomes.{Judged, unless, and_then}
use Rattle.c_judge.specs.Statements.{judged, judged_layer, judged_all, loop_fault, tests_fault, assign_fault, put_statement_fault, declared, grow_statement_fault, loop_outcome}
use Rattle.c_judge.specs.Fixed.{Changes, changes, changes_layer, change, all_onto, bound_fault, fixed_fault}

module _ (p : Part) where
  judged_at : (s : Stmt) (d : Stmt-F Stmt) → out-Stmt s ≡ d → (names : Names) → judged p s names ≡ judged_layer p (map-Stmt Stmt Judged (judged p) d) names
  unfolding judged
  judged_at s d h names = ap (λ (j : Judged). j names) (fold_out-Stmt Judged (judged_layer p) s) ∙ ap (λ d. judged_layer p (map-Stmt Stmt Judged (judged p) d) names) h

  pub judged_for : (x : Name) (low high : Index) (body : List Stmt) (names : Names) → judged p (For x low high body) names ≡ unless (loop_fault names x low high) (loop_outcome p x body names)
  judged_for x low high body names = judged_at (For x low high body) _ (outs-For x low high body) names

  pub judged_if : (tests : List Test) (body : List Stmt) (names : Names) → judged p (If tests body) names ≡ unless (tests_fault names tests) (judged_all p body names)
  judged_if tests body names = judged_at (If tests body) _ (outs-If tests body) names

  pub judged_assign : (target : Cell) (how : How) (value : Expr) (names : Names) → judged p (Assign target how value) names ≡ unless (assign_fault names p target value) (Ok names)
  judged_assign target how value names = judged_at (Assign target how value) _ (outs-Assign target how value) names

  pub judged_put : (target : Cell) (value : Index) (names : Names) → judged p (Put target value) names ≡ unless (put_statement_fault names target value) (Ok names)
  judged_put target value names = judged_at (Put target value) _ (outs-Put target value) names

  pub judged_declare : (x : Name) (k : Kind) (inner : List Index) (names : Names) → judged p (Declare x k inner) names ≡ declared x k inner names
  judged_declare x k inner names = judged_at (Declare x k inner) _ (outs-Declare x k inner) names

  pub judged_grow : (x : Name) (by : Index) (names : Names) → judged p (Grow x by) names ≡ unless (grow_statement_fault names x by) (Ok names)
  judged_grow x by names = judged_at (Grow x by) _ (outs-Grow x by) names

  -- one statement more
  pub judges_more : (ss : List Stmt) (i : ℕ) (s : Stmt) (names : Names) → i < length ss → s ≡ get_or ss i s
      → judged_all p (drop i ss) names ≡ and_then (judged p s names) (judged_all p (drop (i + 1) ss))
  judges_more ss i s names below is =
      ap (λ (xs : List Stmt). judged_all p xs names) (drop-cons ss i s below)
      ∙ ap (λ (x : Stmt). and_then (judged p x names) (judged_all p (drop (suc i) ss))) (sym is)
      ∙ ap (λ (n : ℕ). and_then (judged p s names) (judged_all p (drop n ss))) (sym (add-one i))

module _ (scope : Names) (p : Part) where
  changes_at : (s : Stmt) (d : Stmt-F Stmt) → out-Stmt s ≡ d → changes scope p s ≡ changes_layer scope p (map-Stmt Stmt Changes (changes scope p) d)
  unfolding changes
  changes_at s d h = fold_out-Stmt Changes (changes_layer scope p) s ∙ ap (λ d. changes_layer scope p (map-Stmt Stmt Changes (changes scope p) d)) h

  pub changes_for : (x : Name) (low high : Index) (body : List Stmt) → changes scope p (For x low high body)
      ≡ record { onto = all_onto (map (changes scope p) body); fault = option_or (bound_fault p high (map (changes scope p) body)) (fixed_fault scope p body) }
  changes_for x low high body = changes_at (For x low high body) _ (outs-For x low high body)

  pub changes_if : (tests : List Test) (body : List Stmt) → changes scope p (If tests body) ≡ record { onto = all_onto (map (changes scope p) body); fault = fixed_fault scope p body }
  changes_if tests body = changes_at (If tests body) _ (outs-If tests body)

  pub changes_assign : (target : Cell) (how : How) (value : Expr) → changes scope p (Assign target how value) ≡ change scope p target.array
  changes_assign target how value = changes_at (Assign target how value) _ (outs-Assign target how value)

  pub changes_put : (target : Cell) (value : Index) → changes scope p (Put target value) ≡ change scope p target.array
  changes_put target value = changes_at (Put target value) _ (outs-Put target value)

  pub changes_declare : (x : Name) (k : Kind) (inner : List Index) → changes scope p (Declare x k inner) ≡ record { onto = λ changed. changed; fault = None }
  changes_declare x k inner = changes_at (Declare x k inner) _ (outs-Declare x k inner)

  pub changes_grow : (x : Name) (by : Index) → changes scope p (Grow x by) ≡ change scope p x
  changes_grow x by = changes_at (Grow x by) _ (outs-Grow x by)

  pub adds_more : (ss : List Stmt) (i : ℕ) (s : Stmt) (changed : Names) → i < length ss → s ≡ get_or ss i s
      → all_onto (map (changes scope p) (drop i ss)) changed ≡ all_onto (map (changes scope p) (drop (i + 1) ss)) ((changes scope p s).onto changed)
  adds_more ss i s changed below is =
      ap (λ (xs : List Stmt). all_onto (map (changes scope p) xs) changed) (drop-cons ss i s below)
      ∙ ap (λ (x : Stmt). all_onto (map (changes scope p) (drop (suc i) ss)) ((changes scope p x).onto changed)) (sym is)
      ∙ ap (λ (n : ℕ). all_onto (map (changes scope p) (drop n ss)) ((changes scope p s).onto changed)) (sym (add-one i))

  pub fixes_more : (ss : List Stmt) (i : ℕ) (s : Stmt) → i < length ss → s ≡ get_or ss i s
      → fixed_fault scope p (drop i ss) ≡ option_or (changes scope p s).fault (fixed_fault scope p (drop (i + 1) ss))
  fixes_more ss i s below is =
      ap (fixed_fault scope p) (drop-cons ss i s below)
      ∙ ap (λ (x : Stmt). option_or (changes scope p x).fault (fixed_fault scope p (drop (suc i) ss))) (sym is)
      ∙ ap (λ (n : ℕ). option_or (changes scope p s).fault (fixed_fault scope p (drop n ss))) (sym (add-one i))
