use Rattle.std.proofs.Common.{rules, pos, get_or}
use Rattle.std.proofs.lemmas.Int.{to_z-of_z}
use mir.Val.{SFits}
use mir.Syntax.{w128}
use Rattle.int_sets.specs.Views.{row_of}
use Rattle.int_sets.proofs.Calls.{row-coef_small}
use Rattle.int_sets.proofs.system.System.coef.Goals as goal

pub returns-clause-small : goal.returns-clause-small
returns-clause-small c =
    let a : SFits w128 (get_or c.row.result.form.coefs.now c.args.var (pos 0)) = search rules in
    simp to_z-of_z (row-coef_small c.self.inside.list c.self.invariant c.args.row (row_of c.row.result) c.row.ensures.row c.args.var)
