-- The definitions at each kind of expression.
use Rattle.std.proofs.Common.{◌≡◌, ℤ, List, [], ◌∷◌, ◌++◌, ap, ◌∙◌, refl}
use Rattle.c_tree.specs.declared.index.Index.{Index, Index-F, fold_out-Index, map-Index, out-Index}
use Rattle.c_tree.specs.declared.index.Index.TheVariants.{Const, Var, At, Neg, Plus, Minus, Times, Min, Max, Floor, Ceil, outs-Const, outs-Var, outs-At, outs-Neg, outs-Plus, outs-Minus, outs-Times, outs-Min, outs-Max, outs-Floor, outs-Ceil}
use Rattle.c_tree.specs.declared.index.Subscripts.{Subscripts, Subscripts-F, map-Subscripts, fold_out-Subscripts, out-Subscripts}
use Rattle.c_tree.specs.declared.index.Subscripts.TheVariants.{One, Two, Three, outs-One, outs-Two, outs-Three}
use Rattle.c_tree.specs.declared.index.Cell.{Cell, fold_out-Cell}
use Rattle.c_tree.specs.declared.data.Expr.{Expr, Expr-F, fold_out-Expr, map-Expr, out-Expr}
use Rattle.c_tree.specs.declared.data.Expr.TheVariants as expr
use Rattle.c_meaning.specs.Names.{Name}
use Rattle.nest_tree.specs.declared.body.Body.{Body}
use Rattle.nest_tree.specs.declared.body.Body.TheVariants as body
use Rattle.acceptance.specs.Expressions.{Expression, index_layer, subscripts_layer, cell_layer, plain, plains, plain_cell, cell_of, number, name, negated, plus, minus, times, lesser, greater, floor, ceil}
pub use Rattle.source_limits.proofs.Celled.{cells_at, cells-At, cells-Times}
use Rattle.acceptance.specs.Brackets.{Bracketed, bracketed_layer, bracketed}
use Rattle.acceptance.specs.Forms.{Vars}
use Rattle.acceptance.specs.Rows.{body_layer, body_of, access_of}

pub plain_at : (e : Index) (d : Index-F Index Subscripts Cell) → out-Index e ≡ d → plain e ≡ index_layer (map-Index Index Subscripts Cell Expression (List Expression) Expression plain plains plain_cell d)
unfolding plain plains plain_cell
plain_at e d h =
    fold_out-Index Expression (List Expression) Expression index_layer subscripts_layer cell_layer e
    ∙ ap (λ d. index_layer (map-Index Index Subscripts Cell Expression (List Expression) Expression plain plains plain_cell d)) h

pub plains_at : (e : Subscripts) (d : Subscripts-F Index Subscripts Cell) → out-Subscripts e ≡ d → plains e ≡ subscripts_layer (map-Subscripts Index Subscripts Cell Expression (List Expression) Expression plain plains plain_cell d)
unfolding plain plains plain_cell
plains_at e d h =
    fold_out-Subscripts Expression (List Expression) Expression index_layer subscripts_layer cell_layer e
    ∙ ap (λ d. subscripts_layer (map-Subscripts Index Subscripts Cell Expression (List Expression) Expression plain plains plain_cell d)) h

pub plain_cell_is : (c : Cell) → plain_cell c ≡ cell_of c.array (plains c.at)
unfolding plain plains plain_cell
plain_cell_is c = fold_out-Cell Expression (List Expression) Expression index_layer subscripts_layer cell_layer c

pub plain-Const : (n : ℤ) → plain (Const n) ≡ number n
plain-Const n = plain_at (Const n) _ (outs-Const n)

pub plain-Var : (x : Name) → plain (Var x) ≡ name x
plain-Var x = plain_at (Var x) _ (outs-Var x)

pub plain-At : (c : Cell) → plain (At c) ≡ cell_of c.array (plains c.at)
plain-At c = plain_at (At c) _ (outs-At c) ∙ plain_cell_is c

pub plain-Neg : (a : Index) → plain (Neg a) ≡ negated (plain a)
plain-Neg a = plain_at (Neg a) _ (outs-Neg a)

pub plain-Plus : (a b : Index) → plain (Plus a b) ≡ plus (plain a) (plain b)
plain-Plus a b = plain_at (Plus a b) _ (outs-Plus a b)

pub plain-Minus : (a b : Index) → plain (Minus a b) ≡ minus (plain a) (plain b)
plain-Minus a b = plain_at (Minus a b) _ (outs-Minus a b)

pub plain-Times : (n : ℤ) (a : Index) → plain (Times n a) ≡ times n (plain a)
plain-Times n a = plain_at (Times n a) _ (outs-Times n a)

pub plain-Min : (a b : Index) → plain (Min a b) ≡ lesser (plain a) (plain b)
plain-Min a b = plain_at (Min a b) _ (outs-Min a b)

pub plain-Max : (a b : Index) → plain (Max a b) ≡ greater (plain a) (plain b)
plain-Max a b = plain_at (Max a b) _ (outs-Max a b)

pub plain-Floor : (a : Index) (d : ℤ) → plain (Floor a d) ≡ floor (plain a) d
plain-Floor a d = plain_at (Floor a d) _ (outs-Floor a d)

pub plain-Ceil : (a : Index) (d : ℤ) → plain (Ceil a d) ≡ ceil (plain a) d
plain-Ceil a d = plain_at (Ceil a d) _ (outs-Ceil a d)

pub plains-One : (a : Index) → plains (One a) ≡ plain a ∷ []
plains-One a = plains_at (One a) _ (outs-One a)

pub plains-Two : (a b : Index) → plains (Two a b) ≡ plain a ∷ plain b ∷ []
plains-Two a b = plains_at (Two a b) _ (outs-Two a b)

pub plains-Three : (a b c : Index) → plains (Three a b c) ≡ plain a ∷ plain b ∷ plain c ∷ []
plains-Three a b c = plains_at (Three a b c) _ (outs-Three a b c)

pub bracketed_at : (e : Expr) (d : Expr-F Expr) → out-Expr e ≡ d → bracketed e ≡ bracketed_layer (map-Expr Expr Bracketed bracketed d)
unfolding bracketed
bracketed_at e d h = fold_out-Expr Bracketed bracketed_layer e ∙ ap (λ d. bracketed_layer (map-Expr Expr Bracketed bracketed d)) h

pub bracketed-At : (c : Cell) → bracketed (expr.At c) ≡ bracketed_layer (map-Expr Expr Bracketed bracketed (out-Expr (expr.At c)))
bracketed-At c = bracketed_at (expr.At c) _ refl

pub body_at : (v : Vars) (e : Expr) (d : Expr-F Expr) → out-Expr e ≡ d → body_of v e ≡ body_layer v (map-Expr Expr Body (body_of v) d)
unfolding body_of
body_at v e d h = fold_out-Expr Body (body_layer v) e ∙ ap (λ d. body_layer v (map-Expr Expr Body (body_of v) d)) h

pub body-At : (v : Vars) (c : Cell) → body_of v (expr.At c) ≡ body.At (access_of v c)
body-At v c = body_at v (expr.At c) _ (expr.outs-At c)

pub body-Times : (v : Vars) (a b : Expr) → body_of v (expr.Times a b) ≡ body.Times (body_of v a) (body_of v b)
body-Times v a b = body_at v (expr.Times a b) _ (expr.outs-Times a b)
