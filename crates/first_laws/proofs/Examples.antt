-- The worked case, computed.
use Rattle.std.proofs.Common.{◌≡◌, Some}
use Rattle.c_tree.specs.declared.index.Index.TheVariants.{outs-Const, outs-Var}
use Rattle.c_tree.specs.declared.index.Subscripts.TheVariants.{outs-One}
use Rattle.c_tree.specs.declared.data.Expr.TheVariants.{outs-At}
use Rattle.c_tree.specs.declared.statement.Stmt.TheVariants.{outs-For, outs-Assign}
use Rattle.c_meaning.specs.Examples.{i}
use Rattle.first_form.specs.Nests.{outer_name}
use Rattle.first_form.specs.Written.{written}
use Rattle.first_laws.specs.Examples.{copying}

pub copies : written (copying i) ≡ Some (copying outer_name)
copies = simp (outs-For, outs-Const, outs-Var, outs-Assign, outs-At, outs-One)
