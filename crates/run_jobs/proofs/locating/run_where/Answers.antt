use Rattle.run_jobs.proofs.Unwritten.{not_written}
use Rattle.run_jobs.proofs.locating.run_where.Goals as goal

pub returns-clause-does : goal.returns-clause-does
returns-clause-does g c =
    not_written c.args.text.now _ c.as_slice.result.now c.in-Ok-place_line.line c.as_slice-2.result.now c.args.token (g.F.Files.state c.args.files.now) (g.F.Files.state c.read_whole.new.files)
    (g.O.Sink.state c.args.out.now) (g.O.Sink.state c.write_all.new.sink) c.in-Err-write_all.field-0 c.in-Ok.ensures c.as_slice.ensures c.in-Ok-place_line.ensures.ok c.as_slice-2.ensures c.in-Err-write_all.ensures
