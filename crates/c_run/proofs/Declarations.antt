-- What statements declare.
use Rattle.std.proofs.Common.{◌≡◌, refl, sym, ap, ◌∙◌, List, Option, Some, None}
use Rattle.c_tree.specs.declared.index.Cell.{Cell}
use Rattle.c_tree.specs.declared.index.Index.{Index}
use Rattle.c_tree.specs.declared.program.Kind.{Kind}
use Rattle.c_tree.specs.declared.data.Expr.{Expr}
use Rattle.c_tree.specs.declared.statement.How.{How}
use Rattle.c_tree.specs.declared.statement.Test.{Test}
use Rattle.c_tree.specs.declared.statement.Stmt.{Stmt, Stmt-F, out-Stmt, map-Stmt, fold_out-Stmt}
use Rattle.c_tree.specs.declared.statement.Stmt.TheVariants.{For, If, Assign, Put, Declare, Grow, outs-For, outs-If, outs-Assign, outs-Put, outs-Declare, outs-Grow}
use Rattle.c_meaning.specs.Names.{Name}
use Rattle.c_meaning.proofs.Induction.{Cases, induct}
use Rattle.c_run.specs.Ready.{Declaration, declaration_layer, declaration_of}

declares_at : (t : Stmt) (d : Stmt-F Stmt) → out-Stmt t ≡ d → declaration_of t ≡ declaration_layer (map-Stmt Stmt (Option Declaration) declaration_of d)
unfolding declaration_of
declares_at t d h = fold_out-Stmt (Option Declaration) declaration_layer t ∙ ap (λ d. declaration_layer (map-Stmt Stmt (Option Declaration) declaration_of d)) h

pub none-For : (t : Stmt) (x : Name) (low high : Index) (body : List Stmt) → t ≡ For x low high body → declaration_of t ≡ None
none-For t x low high body h = ap declaration_of h ∙ declares_at (For x low high body) _ (outs-For x low high body)

pub none-If : (t : Stmt) (tests : List Test) (body : List Stmt) → t ≡ If tests body → declaration_of t ≡ None
none-If t tests body h = ap declaration_of h ∙ declares_at (If tests body) _ (outs-If tests body)

pub none-Assign : (t : Stmt) (target : Cell) (how : How) (value : Expr) → t ≡ Assign target how value → declaration_of t ≡ None
none-Assign t target how value h = ap declaration_of h ∙ declares_at (Assign target how value) _ (outs-Assign target how value)

pub none-Put : (t : Stmt) (target : Cell) (value : Index) → t ≡ Put target value → declaration_of t ≡ None
none-Put t target value h = ap declaration_of h ∙ declares_at (Put target value) _ (outs-Put target value)

pub some-Declare : (t : Stmt) (x : Name) (k : Kind) (inner : List Index) → t ≡ Declare x k inner → declaration_of t ≡ Some (record { name = x; kind = k; inner = inner })
some-Declare t x k inner h = ap declaration_of h ∙ declares_at (Declare x k inner) _ (outs-Declare x k inner)

pub none-Grow : (t : Stmt) (x : Name) (by : Index) → t ≡ Grow x by → declaration_of t ≡ None
none-Grow t x e h = ap declaration_of h ∙ declares_at (Grow x e) _ (outs-Grow x e)

-- a statement that declares an array is its declaration
abbrev IsDeclared : Stmt → Type 0
IsDeclared t = (d : Declaration) → declaration_of t ≡ Some d → t ≡ Declare d.name d.kind d.inner

declared_cases : Cases IsDeclared
declared_cases = record {
  loop = λ x low high body all d h. let e = none-For (For x low high body) x low high body refl in cc;
  guard = λ tests body all d h. let e = none-If (If tests body) tests body refl in cc;
  assignment = λ target how value d h. let e = none-Assign (Assign target how value) target how value refl in cc;
  index_assignment = λ target value d h. let e = none-Put (Put target value) target value refl in cc;
  declaration = λ x k inner d h. same x k inner d (sym (some-Declare (Declare x k inner) x k inner refl) ∙ h);
  growth = λ x e d h. let q = none-Grow (Grow x e) x e refl in cc;
}
  where
    same : (x : Name) (k : Kind) (inner : List Index) (d : Declaration) → Some (record { name = x; kind = k; inner = inner }) ≡ Some d → Declare x k inner ≡ Declare d.name d.kind d.inner
    same x k inner d h = let e : record { name = x; kind = k; inner = inner } ≡ d = cc in ap (λ (d : Declaration). Declare d.name d.kind d.inner) e

pub is_declared : (t : Stmt) → IsDeclared t
is_declared = induct IsDeclared declared_cases
