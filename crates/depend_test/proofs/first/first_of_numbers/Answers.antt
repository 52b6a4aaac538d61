use Rattle.std.proofs.Common.{◌<◌, ◌≤◌, length, refl, inl, inr, arith}
use Rattle.std.proofs.lemmas.Option.{slice_get_read}
use Rattle.depend_test.proofs.Carrying.{pieces-answer, pieces-lacking}
use Rattle.depend_test.proofs.first.first_of_numbers.Goals as goal

pub returns : goal.returns
returns c =
    let l = rw c.as_slice-firsts.ensures at c.index-firsts-i.is in
    let m = rw c.as_slice-seconds.ensures at c.index-seconds-j.is in
    let p : c.args.i < length c.args.a.now.accesses = rw (← c.as_slice-firsts.ensures) (omega arith) in
    let q : c.args.j < length c.args.b.now.accesses = rw (← c.as_slice-seconds.ensures) (omega arith) in
    pieces-answer c.args.kernel.now c.args.orders.now c.args.a.now c.args.b.now c.args.i c.args.j c.index-firsts-i.result c.index-seconds-j.result _
    (slice_get_read _ _ _ _ refl p l) (slice_get_read _ _ _ _ refl q m) c.first_of_pieces.ensures

pub returns-then-i-firsts : goal.returns-then-i-firsts
returns-then-i-firsts c =
    let p : length c.args.a.now.accesses ≤ c.args.i = rw (← c.as_slice-firsts.ensures) (omega arith) in
    pieces-lacking c.args.kernel.now c.args.orders.now c.args.a.now c.args.b.now c.args.i c.args.j (inl p)

pub returns-then-j-seconds : goal.returns-then-j-seconds
returns-then-j-seconds c =
    let p : length c.args.b.now.accesses ≤ c.args.j = rw (← c.as_slice-seconds.ensures) (omega arith) in
    pieces-lacking c.args.kernel.now c.args.orders.now c.args.a.now c.args.b.now c.args.i c.args.j (inr p)
