use Rattle.c_tokens.specs.Pieces.{tokens_of}
use Rattle.csr_data.specs.Wanted.{given_of}
use Rattle.text_runs.proofs.Laws.{can_run}
use Rattle.text_runs.proofs.Traces.{tells_done, tells_fault, tells_cut}
use Rattle.text_runs.proofs.tracing.trace_on.Goals as goal

pub trace-requires-clause-ready : goal.trace-requires-clause-ready
trace-requires-clause-ready g c = can_run (tokens_of c.args._source.now) c.args.program.now c.args._input.now c.args.values c.requires.grammar c.requires.rules c.requires.gives

pub returns-in-Ok-clause-tells : goal.returns-in-Ok-clause-tells
returns-in-Ok-clause-tells g c = tells_done c.args.program.now c.args._input.now (given_of c.args.values) c.requires.gives.says (g.S.Sink.state c.args.sink.now) (g.S.Sink.state c.trace.new.sink) tt tt c.in-Ok.ensures.ends

pub returns-in-Err-Refused-clause-tells : goal.returns-in-Err-Refused-clause-tells
returns-in-Err-Refused-clause-tells g c = tells_fault c.args.program.now c.args._input.now (given_of c.args.values) c.requires.gives.says (g.S.Sink.state c.args.sink.now) (g.S.Sink.state c.trace.new.sink) c.in-Err-Refused.field-0 c.in-Err-Refused.fault c.in-Err-Refused.field-0-is c.in-Err-Refused.ensures.ends

pub returns-in-Err-WriteFault-clause-tells : goal.returns-in-Err-WriteFault-clause-tells
returns-in-Err-WriteFault-clause-tells g c = tells_cut c.args.program.now c.args._input.now (given_of c.args.values) c.requires.gives.says (g.S.Sink.state c.args.sink.now) (g.S.Sink.state c.trace.new.sink) c.in-Err-WriteFault.field-0 c.in-Err-WriteFault.field-0-is c.in-Err-WriteFault.ensures.ends
