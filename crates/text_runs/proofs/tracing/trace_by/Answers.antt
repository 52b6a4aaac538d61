use Rattle.std.proofs.Common.{rules}
use Rattle.text_runs.proofs.Traces.{tells_source, tells_refused}
use Rattle.text_runs.proofs.tracing.trace_by.Goals as goal

pub returns-in-Ok-clause-tells : goal.returns-in-Ok-clause-tells
returns-in-Ok-clause-tells g c =
    tells_source c.args.source.now c.args.input.now (g.S.Sink.state c.args.sink.now) (g.S.Sink.state c.trace_on.new.sink) c.args.program.now c.requires.is c.trace_on.result c.trace_on.ensures.tells

pub returns-in-Err-Refused-clause-tells : goal.returns-in-Err-Refused-clause-tells
returns-in-Err-Refused-clause-tells g c =
    tells_refused c.args.source.now c.args.input.now (g.S.Sink.state c.args.sink.now) c.args.program.now c.in-Err-Refused.field-0 _ c.requires.is (search rules) c.in-Err-Refused.ensures.refused c.in-Err-Refused.ensures.untraced
