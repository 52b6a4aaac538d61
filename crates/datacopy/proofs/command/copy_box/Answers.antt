use Rattle.std.proofs.Common.{length, ap, sym, ◌∙◌}
use Rattle.datacopy.proofs.Entered.{is-copied}
use Rattle.datacopy.proofs.command.copy_box.Goals as goal

pub returns-in-Ok-clause-copied : goal.returns-in-Ok-clause-copied
returns-in-Ok-clause-copied c =
    is-copied c.put.result c.args.kernel.now _ c.args.statement c.args.level c.args.array c.args.copy c.args.found.extents c.in-Ok.nests _ c.requires.extents
    (c.requires.dims ∙ ap length (sym c.as_slice.ensures.value)) c.in-Ok.ensures.copied c.in-Ok.ensures.counted c.put.ensures.entered
