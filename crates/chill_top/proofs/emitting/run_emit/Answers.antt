use Rattle.chill_top.proofs.Reading.{not_emitted}
use Rattle.chill_top.proofs.emitting.run_emit.Goals as goal

pub returns-in-Err-read_whole-clause-does : goal.returns-in-Err-read_whole-clause-does
returns-in-Err-read_whole-clause-does g c =
    not_emitted c.args.recipe.now c.args.source.now _ c.as_slice.result.now c.in-Ok-commands_of.commands (g.F.Files.state c.args.files.now) (g.F.Files.state c.read_whole.new.files) (g.F.Files.state c.read_whole-2.new.files)
    (g.O.Sink.state c.args.out.now) c.in-Err-read_whole.why c.unread-in-Err-read_whole.result c.in-Ok.ensures c.as_slice.ensures c.in-Ok-commands_of.ensures.ok c.in-Err-read_whole.ensures c.unread-in-Err-read_whole.ensures
