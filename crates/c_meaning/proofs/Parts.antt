-- The definitions of runs at each kind of statement and of data expression.
use Rattle.std.proofs.Common.{ℕ, ◌≡◌, Bool, List, map, ap, ◌∙◌, Ok}
use Rattle.c_tree.specs.declared.index.Cell.{Cell}
use Rattle.c_tree.specs.declared.index.Index.{Index}
use Rattle.c_tree.specs.declared.program.Kind.{Kind}
use Rattle.c_tree.specs.declared.statement.How.{How}
use Rattle.c_tree.specs.declared.statement.Test.{Test}
use Rattle.c_tree.specs.declared.data.Expr.{Expr, Expr-F, fold_out-Expr, map-Expr, out-Expr}
use Rattle.c_tree.specs.declared.data.Expr.TheVariants.{Const, At, Plus, Minus, Times, outs-Const, outs-At, outs-Plus, outs-Minus, outs-Times}
use Rattle.c_tree.specs.declared.statement.Stmt.{Stmt, Stmt-F, fold_out-Stmt, map-Stmt, out-Stmt}
use Rattle.c_tree.specs.declared.statement.Stmt.TheVariants.{For, If, Assign, Put, Declare, Grow, outs-For, outs-If, outs-Assign, outs-Put, outs-Declare, outs-Grow}
use Rattle.c_tree.specs.declared.statement.Stmt.TheOpen as layer
use Rattle.c_meaning.specs.Names.{Name}
use Rattle.c_meaning.specs.Value.{Answer, ◌>>=◌}
use Rattle.c_meaning.specs.Ground.{Ground, number, load, sum, difference, product}
use Rattle.c_meaning.specs.Listing as listing
use Rattle.c_meaning.specs.Listing.{Scene, spot, ground, ground_layer, on_grounds}
use Rattle.c_meaning.specs.Run as run
use Rattle.c_meaning.specs.Programs.{is_executor, executor_layer}

pub ground_at : (e : Expr) (d : Expr-F Expr) → out-Expr e ≡ d → (c : Scene) → ground e c ≡ ground_layer (map-Expr Expr (Scene → Answer Ground) ground d) c
unfolding ground
ground_at e d h c =
    ap (λ f. f c) (fold_out-Expr (Scene → Answer Ground) ground_layer e) ∙ ap (λ d. ground_layer (map-Expr Expr (Scene → Answer Ground) ground d) c) h

pub ground-Const : (n : ℕ) (c : Scene) → ground (Const n) c ≡ Ok (number n)
ground-Const n c = ground_at (Const n) _ (outs-Const n) c

pub ground-At : (e : Cell) (c : Scene) → ground (At e) c ≡ (spot e c >>= (λ x. Ok (load x)))
ground-At e c = ground_at (At e) _ (outs-At e) c

pub ground-Plus : (a b : Expr) (c : Scene) → ground (Plus a b) c ≡ on_grounds sum (ground a c) (ground b c)
ground-Plus a b c = ground_at (Plus a b) _ (outs-Plus a b) c

pub ground-Minus : (a b : Expr) (c : Scene) → ground (Minus a b) c ≡ on_grounds difference (ground a c) (ground b c)
ground-Minus a b c = ground_at (Minus a b) _ (outs-Minus a b) c

pub ground-Times : (a b : Expr) (c : Scene) → ground (Times a b) c ≡ on_grounds product (ground a c) (ground b c)
ground-Times a b c = ground_at (Times a b) _ (outs-Times a b) c

pub ruleset grounds = (ground-Const, ground-At, ground-Plus, ground-Minus, ground-Times)

pub listed_at : (t : Stmt) (d : Stmt-F Stmt) → out-Stmt t ≡ d → listing.part t ≡ listing.stmt_layer (map-Stmt Stmt listing.Part listing.part d)
unfolding listing.part
listed_at t d h = fold_out-Stmt listing.Part listing.stmt_layer t ∙ ap (λ d. listing.stmt_layer (map-Stmt Stmt listing.Part listing.part d)) h

pub listed-For : (x : Name) (low high : Index) (body : List Stmt) → listing.part (For x low high body) ≡ listing.stmt_layer (layer.For x low high (map listing.part body))
listed-For x low high body = listed_at (For x low high body) _ (outs-For x low high body)

pub listed-If : (tests : List Test) (body : List Stmt) → listing.part (If tests body) ≡ listing.stmt_layer (layer.If tests (map listing.part body))
listed-If tests body = listed_at (If tests body) _ (outs-If tests body)

pub listed-Assign : (target : Cell) (how : How) (value : Expr) → listing.part (Assign target how value) ≡ listing.stmt_layer (layer.Assign target how value)
listed-Assign target how value = listed_at (Assign target how value) _ (outs-Assign target how value)

pub listed-Put : (target : Cell) (value : Index) → listing.part (Put target value) ≡ listing.stmt_layer (layer.Put target value)
listed-Put target value = listed_at (Put target value) _ (outs-Put target value)

pub listed-Declare : (name : Name) (kind : Kind) (inner : List Index) → listing.part (Declare name kind inner) ≡ listing.stmt_layer (layer.Declare name kind inner)
listed-Declare name kind inner = listed_at (Declare name kind inner) _ (outs-Declare name kind inner)

pub listed-Grow : (name : Name) (by : Index) → listing.part (Grow name by) ≡ listing.stmt_layer (layer.Grow name by)
listed-Grow name by = listed_at (Grow name by) _ (outs-Grow name by)

pub ruleset listings = (listed-For, listed-If, listed-Assign, listed-Put, listed-Declare, listed-Grow)

pub ran_at : (t : Stmt) (d : Stmt-F Stmt) → out-Stmt t ≡ d → run.part t ≡ run.stmt_layer (map-Stmt Stmt run.Part run.part d)
unfolding run.part
ran_at t d h = fold_out-Stmt run.Part run.stmt_layer t ∙ ap (λ d. run.stmt_layer (map-Stmt Stmt run.Part run.part d)) h

pub ran-For : (x : Name) (low high : Index) (body : List Stmt) → run.part (For x low high body) ≡ run.stmt_layer (layer.For x low high (map run.part body))
ran-For x low high body = ran_at (For x low high body) _ (outs-For x low high body)

pub ran-If : (tests : List Test) (body : List Stmt) → run.part (If tests body) ≡ run.stmt_layer (layer.If tests (map run.part body))
ran-If tests body = ran_at (If tests body) _ (outs-If tests body)

pub ran-Assign : (target : Cell) (how : How) (value : Expr) → run.part (Assign target how value) ≡ run.stmt_layer (layer.Assign target how value)
ran-Assign target how value = ran_at (Assign target how value) _ (outs-Assign target how value)

pub ran-Put : (target : Cell) (value : Index) → run.part (Put target value) ≡ run.stmt_layer (layer.Put target value)
ran-Put target value = ran_at (Put target value) _ (outs-Put target value)

pub ran-Declare : (name : Name) (kind : Kind) (inner : List Index) → run.part (Declare name kind inner) ≡ run.stmt_layer (layer.Declare name kind inner)
ran-Declare name kind inner = ran_at (Declare name kind inner) _ (outs-Declare name kind inner)

pub ran-Grow : (name : Name) (by : Index) → run.part (Grow name by) ≡ run.stmt_layer (layer.Grow name by)
ran-Grow name by = ran_at (Grow name by) _ (outs-Grow name by)

pub ruleset runs = (ran-For, ran-If, ran-Assign, ran-Put, ran-Declare, ran-Grow)

pub executes_at : (t : Stmt) (d : Stmt-F Stmt) → out-Stmt t ≡ d → is_executor t ≡ executor_layer (map-Stmt Stmt Bool is_executor d)
unfolding is_executor
executes_at t d h = fold_out-Stmt Bool executor_layer t ∙ ap (λ d. executor_layer (map-Stmt Stmt Bool is_executor d)) h

pub executes-For : (x : Name) (low high : Index) (body : List Stmt) → is_executor (For x low high body) ≡ executor_layer (layer.For x low high (map is_executor body))
executes-For x low high body = executes_at (For x low high body) _ (outs-For x low high body)

pub executes-If : (tests : List Test) (body : List Stmt) → is_executor (If tests body) ≡ executor_layer (layer.If tests (map is_executor body))
executes-If tests body = executes_at (If tests body) _ (outs-If tests body)

pub executes-Assign : (target : Cell) (how : How) (value : Expr) → is_executor (Assign target how value) ≡ executor_layer (layer.Assign target how value)
executes-Assign target how value = executes_at (Assign target how value) _ (outs-Assign target how value)

pub executes-Put : (target : Cell) (value : Index) → is_executor (Put target value) ≡ executor_layer (layer.Put target value)
executes-Put target value = executes_at (Put target value) _ (outs-Put target value)

pub executes-Declare : (name : Name) (kind : Kind) (inner : List Index) → is_executor (Declare name kind inner) ≡ executor_layer (layer.Declare name kind inner)
executes-Declare name kind inner = executes_at (Declare name kind inner) _ (outs-Declare name kind inner)

pub executes-Grow : (name : Name) (by : Index) → is_executor (Grow name by) ≡ executor_layer (layer.Grow name by)
executes-Grow name by = executes_at (Grow name by) _ (outs-Grow name by)

pub ruleset executors = (executes-For, executes-If, executes-Assign, executes-Put, executes-Declare, executes-Grow)
