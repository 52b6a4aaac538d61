use Rattle.std.proofs.Common.{◌≡◌, ◌∷◌, sym, ap, drop, get_or, pos}
use Rattle.std.specs.Fmt.{signed_decimal}
use Rattle.chill_base.specs.Outside.{Wrote, WritesAll}
use Rattle.c_trace.specs.Lines.{place_line, numbers_behind}
use Rattle.c_trace.proofs.Writes.{cut_short, onward}
use Rattle.c_trace.proofs.Places.{first_and_others, all_others}
use Rattle.c_trace.proofs.line.print_place.Goals as goal

pub returns-in_err-print_number-in-len1-up : goal.returns-in_err-print_number-in-len1-up
returns-in_err-print_number-in-len1-up g c =
    let e : place_line c.args.place.now ≡ place_line (get_or c.args.place.now 0 (pos 0) ∷ drop 1 c.args.place.now) = ap place_line (first_and_others c.args.place.now (rw c.numbers.ensures.numbers at c.in-len1-up.len_at_least)) in
    rw e (cut_short _ _ (signed_decimal (get_or c.args.place.now 0 (pos 0))) (numbers_behind (drop 1 c.args.place.now)) _ _ c.from_residual.ensures.0 (rw (sym c.numbers.ensures.numbers) c.in_err-print_number-in-len1-up.ensures))

pub returns-in_ok-print_number-in-len1-up : goal.returns-in_ok-print_number-in-len1-up
returns-in_ok-print_number-in-len1-up g c =
    let e : place_line c.args.place.now ≡ place_line (get_or c.args.place.now 0 (pos 0) ∷ drop 1 c.args.place.now) = ap place_line (first_and_others c.args.place.now (rw c.numbers.ensures.numbers at c.in-len1-up.len_at_least)) in
    let w : Wrote (g.S.Sink.state c.args.sink.now) (signed_decimal (get_or c.args.place.now 0 (pos 0))) (g.S.Sink.state c.print_number.new.sink) = rw c.numbers.ensures.numbers at c.in_ok-print_number-in-len1-up.ensures.all in
    let v : WritesAll (g.S.Sink.state c.print_number.new.sink) (numbers_behind (drop 1 c.args.place.now)) (g.S.Sink.state c.print_numbers.new.sink) c.print_numbers.result = rw all_others at (rw c.numbers.ensures.numbers at c.print_numbers.ensures) in
    rw e (onward _ _ _ (signed_decimal (get_or c.args.place.now 0 (pos 0))) (numbers_behind (drop 1 c.args.place.now)) _ w v)
