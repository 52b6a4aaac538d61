-- The lines of each kind of statement.
use Rattle.std.proofs.Common.{◌≡◌, List, ◌++◌, map, ap, ◌∙◌, refl, append_assoc}
use Rattle.std.specs.Prelude.{codes}
use Rattle.c_tree.specs.declared.data.Expr.{Expr}
use Rattle.c_tree.specs.declared.index.Cell.{Cell}
use Rattle.c_tree.specs.declared.index.Index.{Index}
use Rattle.c_tree.specs.declared.program.Kind.{Kind}
use Rattle.c_tree.specs.declared.statement.How.{How}
use Rattle.c_tree.specs.declared.statement.Test.{Test}
use Rattle.c_tree.specs.declared.statement.Stmt.{Stmt, Stmt-F, fold_out-Stmt, map-Stmt, out-Stmt}
use Rattle.c_tree.specs.declared.statement.Stmt.TheVariants.{For, If, Assign, Put, Declare, Grow, outs-For, outs-If, outs-Assign, outs-Put, outs-Declare, outs-Grow}
use Rattle.c_print.proofs.Pieces.{three}
use Rattle.c_print.specs.Printed.{Text}
use Rattle.c_print.specs.Statement.{index_text, Lines, block, loop_head, guard_head, assign_text, put_text, declaration, growth, statement_layer, statement_text}

pub statement_at : (s : Stmt) (d : Stmt-F Stmt) → out-Stmt s ≡ d → (indent : Text) → statement_text s indent ≡ statement_layer (map-Stmt Stmt Lines statement_text d) indent
unfolding statement_text
statement_at s d h indent =
    ap (λ f. f indent) (fold_out-Stmt Lines statement_layer s) ∙ ap (λ d. statement_layer (map-Stmt Stmt Lines statement_text d) indent) h

pub lines_for : (v : Text) (low high : Index) (body : List Stmt) (indent : Text) → statement_text (For v low high body) indent
    ≡ indent ++ loop_head v (index_text low) (index_text high) ++ block (map statement_text body) (indent ++ codes "  ") ++ (indent ++ codes "}\n")
lines_for v low high body indent = statement_at (For v low high body) _ (outs-For v low high body) indent

pub lines_if : (tests : List Test) (body : List Stmt) (indent : Text) → statement_text (If tests body) indent
    ≡ indent ++ guard_head tests ++ block (map statement_text body) (indent ++ codes "  ") ++ (indent ++ codes "}\n")
lines_if tests body indent = statement_at (If tests body) _ (outs-If tests body) indent

pub lines_assign : (target : Cell) (how : How) (value : Expr) (indent : Text) → statement_text (Assign target how value) indent ≡ indent ++ assign_text target how value
lines_assign target how value indent = statement_at (Assign target how value) _ (outs-Assign target how value) indent

pub lines_put : (target : Cell) (value : Index) (indent : Text) → statement_text (Put target value) indent ≡ indent ++ put_text target value
lines_put target value indent = statement_at (Put target value) _ (outs-Put target value) indent

pub lines_declare : (name : Text) (kind : Kind) (inner : List Index) (indent : Text) → statement_text (Declare name kind inner) indent ≡ indent ++ declaration name kind inner
lines_declare name kind inner indent = statement_at (Declare name kind inner) _ (outs-Declare name kind inner) indent

pub lines_grow : (name : Text) (by : Index) (indent : Text) → statement_text (Grow name by) indent ≡ indent ++ growth name by
lines_grow name by indent = statement_at (Grow name by) _ (outs-Grow name by) indent

-- a head, a body and a brace that were put before a text
nested_put : (indent head body : Text) (s : Stmt) (o0 : Text) {o1 o2 o3 : Text} → o1 ≡ body ++ (indent ++ codes "}\n") ++ o0 → o2 ≡ head ++ o1 → o3 ≡ indent ++ o2
    → statement_text s indent ≡ indent ++ head ++ body ++ (indent ++ codes "}\n") → o3 ≡ statement_text s indent ++ o0
nested_put indent head body s o0 h1 h2 h3 text =
    three indent head (body ++ (indent ++ codes "}\n")) o0 h1 h2 h3 (text ∙ append_assoc (indent ++ head) body (indent ++ codes "}\n")) refl

pub for_put : (s : Stmt) (v : Text) (low high : Index) (body slice : List Stmt) (indent o0 : Text) {o1 o2 o3 : Text} → s ≡ For v low high body → slice ≡ body
    → o1 ≡ block (map statement_text slice) (indent ++ codes "  ") ++ (indent ++ codes "}\n") ++ o0 → o2 ≡ loop_head v (index_text low) (index_text high) ++ o1
    → o3 ≡ indent ++ o2 → o3 ≡ statement_text s indent ++ o0
for_put s v low high body slice indent o0 is same h1 h2 h3 =
    nested_put indent (loop_head v (index_text low) (index_text high)) (block (map statement_text body) (indent ++ codes "  ")) s o0
    (h1 ∙ ap (λ b. block (map statement_text b) (indent ++ codes "  ") ++ (indent ++ codes "}\n") ++ o0) same) h2 h3
    (ap (λ s. statement_text s indent) is ∙ lines_for v low high body indent)

pub if_put : (s : Stmt) (tests slice_tests : List Test) (body slice : List Stmt) (indent o0 : Text) {o1 o2 o3 : Text} → s ≡ If tests body → slice_tests ≡ tests → slice ≡ body
    → o1 ≡ block (map statement_text slice) (indent ++ codes "  ") ++ (indent ++ codes "}\n") ++ o0 → o2 ≡ guard_head slice_tests ++ o1
    → o3 ≡ indent ++ o2 → o3 ≡ statement_text s indent ++ o0
if_put s tests slice_tests body slice indent o0 {o1 = o1} is same_tests same h1 h2 h3 =
    nested_put indent (guard_head tests) (block (map statement_text body) (indent ++ codes "  ")) s o0
    (h1 ∙ ap (λ b. block (map statement_text b) (indent ++ codes "  ") ++ (indent ++ codes "}\n") ++ o0) same) (h2 ∙ ap (λ ts. guard_head ts ++ o1) same_tests) h3
    (ap (λ s. statement_text s indent) is ∙ lines_if tests body indent)
