-- The plain data of each kind of statement.
use Rattle.std.proofs.Common.{◌≡◌, List, map, ap, ◌∙◌}
use Rattle.c_tree.specs.declared.index.Cell.{Cell}
use Rattle.c_tree.specs.declared.index.Index.{Index}
use Rattle.c_tree.specs.declared.data.Expr.{Expr}
use Rattle.c_tree.specs.declared.statement.How.{How}
use Rattle.c_tree.specs.declared.statement.Test.{Test}
use Rattle.c_tree.specs.declared.statement.Stmt.{Stmt, Stmt-F, fold_out-Stmt, map-Stmt, out-Stmt}
use Rattle.c_tree.specs.declared.statement.Stmt.TheVariants.{For, If, Assign, outs-For, outs-If, outs-Assign}
use Rattle.c_meaning.specs.Names.{Name}
use Rattle.executors.specs.Executors.{Executor, done, assign, loop, guard, InFront, layer, in_front, joined}

pub front_at : (t : Stmt) (d : Stmt-F Stmt) → out-Stmt t ≡ d → in_front t ≡ layer (map-Stmt Stmt InFront in_front d)
unfolding in_front
front_at t d h = fold_out-Stmt InFront layer t ∙ ap (λ d. layer (map-Stmt Stmt InFront in_front d)) h

pub front-For : (x : Name) (low high : Index) (b : List Stmt) (rest : Executor) → in_front (For x low high b) rest ≡ loop x low high (joined (map in_front b) done) rest
front-For x low high b rest = ap (λ (f : InFront). f rest) (front_at (For x low high b) _ (outs-For x low high b))

pub front-If : (tests : List Test) (b : List Stmt) (rest : Executor) → in_front (If tests b) rest ≡ guard tests (joined (map in_front b) done) rest
front-If tests b rest = ap (λ (f : InFront). f rest) (front_at (If tests b) _ (outs-If tests b))

pub front-Assign : (c : Cell) (how : How) (e : Expr) (rest : Executor) → in_front (Assign c how e) rest ≡ assign c how e rest
front-Assign c how e rest = ap (λ (f : InFront). f rest) (front_at (Assign c how e) _ (outs-Assign c how e))
