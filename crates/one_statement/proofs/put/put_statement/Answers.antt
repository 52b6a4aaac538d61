use Rattle.std.proofs.Common.{ap, ◌∙◌, List}
use Rattle.nest_tree.specs.declared.kernel.Nest.{Nest}
use Rattle.nest_core.specs.Order.{numbered}
use Rattle.one_statement.specs.Put.{with_one}
use Rattle.one_statement.proofs.Putting.{entered-shaped}
use Rattle.one_statement.proofs.put.put_statement.Goals as goal

pub returns-clause-shaped : goal.returns-clause-shaped
returns-clause-shaped c =
    let made = c.in_ok-nests.ensures ∙ ap (λ (ns : List Nest). numbered (with_one ns c.args.statement c.args.nest)) c.as_slice.ensures in
    entered-shaped c.enter.result c.args.kernel.now _ c.args.statement c.args.nest c.in_ok-nests.nests c.args.made c.args.lines c.requires.shaped c.requires.statement c.requires.nest made c.enter.ensures.entered
