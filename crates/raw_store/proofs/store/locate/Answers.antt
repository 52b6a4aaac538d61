use Rattle.std.proofs.Common.{◌+◌, arith}
use Rattle.raw_store.proofs.Spans.{top_least, top_most, span_top}
use Rattle.raw_store.proofs.store.locate.Goals as goal

pub overflow_sub-block : goal.overflow_sub-block
overflow_sub-block c = top_least (c.args.at + 32) c.ilog2.result c.ilog2.ensures.power_le c.ilog2.ensures.next_power_gt (omega arith) c.requires

pub block_len-requires : goal.block_len-requires
block_len-requires c = let below = top_most (c.args.at + 32) c.ilog2.result c.ilog2.ensures.power_le c.ilog2.ensures.next_power_gt (omega arith) c.requires in omega arith

pub overflow_sub-result : goal.overflow_sub-result
overflow_sub-result c =
    let is = span_top (c.args.at + 32) c.ilog2.result c.ilog2.ensures.power_le c.ilog2.ensures.next_power_gt (omega arith) c.requires in
    let len = c.block_len.ensures.0 in let low = c.ilog2.ensures.power_le in omega arith

pub returns : goal.returns
returns c =
    let low = c.ilog2.ensures.power_le in let high = c.ilog2.ensures.next_power_gt in
    let is = span_top (c.args.at + 32) c.ilog2.result low high (omega arith) c.requires in
    let below = top_most (c.args.at + 32) c.ilog2.result low high (omega arith) c.requires in
    let len = c.block_len.ensures.0 in
    record { block = omega arith; inside = omega arith; same = omega arith }
