use Rattle.std.proofs.Common.{Ok, Err, sym, ap, ◌∙◌, subst}
use Rattle.c_loops.specs.Programs.{program_of}
use Rattle.outcomes.specs.declared.outcome.Outcome.{Outcome}
use Rattle.run_jobs.specs.Counts.{Traces}
use Rattle.run_jobs.proofs.Tracing.{not_traced, both_traced}
use Rattle.run_jobs.proofs.running.run_trace.Goals as goal

pub returns-in-Err-read_whole-clause-does : goal.returns-in-Err-read_whole-clause-does
returns-in-Err-read_whole-clause-does g c =
    not_traced c.args.program.now c.args.input.now _ c.as_slice.result.now c.in-Ok-read.tree (g.F.Files.state c.args.files.now) (g.F.Files.state c.read_whole.new.files) (g.F.Files.state c.read_whole-2.new.files)
    (g.O.Sink.state c.args.out.now) c.in-Err-read_whole.why c.unread-in-Err-read_whole.result c.in-Ok.ensures c.as_slice.ensures c.in-Ok-read.ensures.ok c.in-Err-read_whole.ensures c.unread-in-Err-read_whole.ensures

pub returns-in-Ok-trace_by-clause-does : goal.returns-in-Ok-trace_by-clause-does
returns-in-Ok-trace_by-clause-does g c = both_traced c.args.program.now c.args.input.now _ _ _ _ c.in-Ok-read.tree (g.F.Files.state c.args.files.now) (g.F.Files.state c.read_whole.new.files) (g.F.Files.state c.read_whole-2.new.files) (g.O.Sink.state c.args.out.now) (g.O.Sink.state c.trace_by.new.sink) (Ok tt) c.in-Ok.ensures c.as_slice-2.ensures (ap program_of (c.as_slice-2.ensures ∙ sym c.as_slice.ensures) ∙ c.in-Ok-read.ensures.ok) c.in-Ok-read_whole.ensures c.as_slice-3.ensures c.in-Ok-trace_by.ensures.tells c.in-Ok-trace_by.ensures.later c.in-Ok-trace_by.ensures.quiet

pub returns-clause-does : goal.returns-clause-does
returns-clause-does g c =
    subst (λ (r : Outcome). Traces c.args.program.now c.args.input.now (g.F.Files.state c.args.files.now) (g.F.Files.state c.read_whole-2.new.files) (g.O.Sink.state c.args.out.now) (g.O.Sink.state c.trace_by.new.sink) r)
    (sym c.run_stopped.ensures)
    (both_traced c.args.program.now c.args.input.now _ _ _ _ c.in-Ok-read.tree (g.F.Files.state c.args.files.now) (g.F.Files.state c.read_whole.new.files) (g.F.Files.state c.read_whole-2.new.files) (g.O.Sink.state c.args.out.now) (g.O.Sink.state c.trace_by.new.sink) (Err c.in-Err-trace_by.stop) c.in-Ok.ensures c.as_slice-2.ensures (ap program_of (c.as_slice-2.ensures ∙ sym c.as_slice.ensures) ∙ c.in-Ok-read.ensures.ok) c.in-Ok-read_whole.ensures c.as_slice-3.ensures c.in-Err-trace_by.ensures.tells c.in-Err-trace_by.ensures.later c.in-Err-trace_by.ensures.quiet)
