use Rattle.std.proofs.Common.{◌+◌, arith}
use Rattle.std.proofs.lemmas.Nat.{one_shl}
use Rattle.raw_store.proofs.Spans.{span_up}
use Rattle.raw_store.proofs.store.block_len.Goals as goal

pub returns : goal.returns
returns c =
    let e = one_shl (c.args.block + 5) 64 (omega arith) in
    let up = span_up (c.args.block + 1) 55 (omega arith) in
    (e, omega (arith, e, up, span_up c.args.block 54 (omega arith)))
