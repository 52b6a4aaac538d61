use Rattle.std.proofs.Common.{◌≡◌, sym, ap, ◌∙◌, take, is_ok}
use Rattle.chill_base.specs.Outside.{Wrote, WritesAll}
use Rattle.c_meaning.specs.Scope.{data_cell_fits}
use Rattle.c_meaning.specs.Value.{subscripts_of}
use Rattle.c_meaning.proofs.Fitting.{and_left}
use Rattle.c_trace.specs.Lines.{count_of, shown, brackets}
use Rattle.c_trace.proofs.Writes.{cut_short, onward}
use Rattle.c_trace.proofs.cell.print_cell.Goals as goal

pub eval_subscripts-requires : goal.eval_subscripts-requires
eval_subscripts-requires g c = (_, and_left (data_cell_fits c.args.cell.now (g.V.View.scope c.args.view.now)) (is_ok (subscripts_of c.args.cell.now.at (g.V.View.sight c.args.view.now))) c.requires)

pub returns-in_err-write_all : goal.returns-in_err-write_all
returns-in_err-write_all g c =
    cut_short _ _ c.args.cell.now.array (shown (count_of c.args.cell.now.at) (subscripts_of c.args.cell.now.at (g.V.View.sight c.args.view.now))) _ _ c.from_residual.ensures.0 (rw (sym c.bytes.ensures.bytes) c.in_err-write_all.ensures)

pub returns : goal.returns
returns g c =
    let e : shown (count_of c.args.cell.now.at) (subscripts_of c.args.cell.now.at (g.V.View.sight c.args.view.now)) ≡ brackets (take c.count.result c.in-Ok.at) = ap (shown (count_of c.args.cell.now.at)) (sym c.eval_subscripts.ensures ∙ c.in-Ok.is) ∙ ap (λ n. brackets (take n c.in-Ok.at)) (sym c.count.ensures.count) in
    let w : Wrote (g.S.Sink.state c.args.sink.now) c.args.cell.now.array (g.S.Sink.state c.write_all.new.sink) = rw c.bytes.ensures.bytes at c.in_ok-write_all.ensures.all in
    let v : WritesAll (g.S.Sink.state c.write_all.new.sink) (shown (count_of c.args.cell.now.at) (subscripts_of c.args.cell.now.at (g.V.View.sight c.args.view.now))) (g.S.Sink.state c.print_subscripts.new.sink) c.print_subscripts.result = rw e c.print_subscripts.ensures in
    onward _ _ _ c.args.cell.now.array (shown (count_of c.args.cell.now.at) (subscripts_of c.args.cell.now.at (g.V.View.sight c.args.view.now))) _ w v
