use Rattle.std.proofs.Common.{rules}
use Rattle.std.proofs.lemmas.Int.{to_z-of_z}
use mir.Val.{SFits}
use mir.Syntax.{w128}
use Rattle.int_sets.specs.Views.{row_of}
use Rattle.int_sets.proofs.Calls.{row-constant_small}
use Rattle.int_sets.proofs.system.System.constant.Goals as goal

pub returns-clause-small : goal.returns-clause-small
returns-clause-small c =
    let a : SFits w128 (c.row.result.form.constant) = search rules in
    simp to_z-of_z (row-constant_small c.self.inside.list c.self.invariant c.args.row (row_of c.row.result) c.row.ensures.row)
