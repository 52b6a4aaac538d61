use Rattle.std.proofs.Common.{rules}
use Rattle.text_runs.proofs.Traces.{answers_source, answers_refused}
use Rattle.text_runs.proofs.tracing.trace_program.Goals as goal

pub returns-in-Ok-clause-tells : goal.returns-in-Ok-clause-tells
returns-in-Ok-clause-tells g c =
    answers_source c.args.source.now c.args.input.now (g.S.Sink.state c.args.sink.now) (g.S.Sink.state c.trace_by.new.sink) c.trace_by.result c.trace_by.ensures.tells

pub returns-in-Err-Refused-clause-tells : goal.returns-in-Err-Refused-clause-tells
returns-in-Err-Refused-clause-tells g c =
    answers_refused c.args.source.now c.args.input.now (g.S.Sink.state c.args.sink.now) c.in-Err-Refused.field-0 _ (search rules) c.in-Err-Refused.ensures.refused
