use Rattle.run_jobs.proofs.Reading.{not_read}
use Rattle.run_jobs.proofs.running.run_run.Goals as goal

pub returns-in-Err-read_whole-clause-does : goal.returns-in-Err-read_whole-clause-does
returns-in-Err-read_whole-clause-does g c =
    not_read c.args.program.now c.args.input.now _ c.as_slice.result.now c.in-Ok-read.tree (g.F.Files.state c.args.files.now) (g.F.Files.state c.read_whole.new.files) (g.F.Files.state c.read_whole-2.new.files)
    (g.O.Sink.state c.args.out.now) c.in-Err-read_whole.why c.unread-in-Err-read_whole.result c.in-Ok.ensures c.as_slice.ensures c.in-Ok-read.ensures.ok c.in-Err-read_whole.ensures c.unread-in-Err-read_whole.ensures
