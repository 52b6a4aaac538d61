use Rattle.std.proofs.Common.{subst}
use Rattle.chill_base.specs.Outside.{WritesAll}
use Rattle.c_trace.proofs.Steps.{line_is}
use Rattle.c_walk.proofs.listener.AnyListener.hear.Goals as goal

pub returns : goal.returns
returns g c = λ inside t is.
    subst (λ text. WritesAll (g.S.Sink.state c.args.self.now) text (g.S.Sink.state c.print_assignment.new.sink) c.print_assignment.result)
    (line_is (g.V.View.scope c.args.view.now) (record { sight = g.V.View.sight c.args.view.now; inside = inside }) c.args.target.now c.args.how c.args.value.now c.args.place.now t c.requires.target c.requires.value is) c.print_assignment.ensures
