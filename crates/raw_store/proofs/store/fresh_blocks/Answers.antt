use Rattle.std.proofs.Common.{◌-◌, ◌∷◌, [], ◌++◌, replicate, reverse, sym, ap, ◌∙◌, arith}
use Rattle.raw_store.specs.Directory.{zero_blocks}
use Rattle.raw_store.proofs.Blocks.{one_block_more}
use Rattle.raw_store.proofs.store.fresh_blocks.Goals as goal

pub loop-next-preserved : goal.loop-next-preserved
loop-next-preserved c =
    let test = c.loop-next-test.true in
    let high = c.loop-next.invariant.high in
    let more = one_block_more c.loop-next.next c.args.to (omega arith) high in
    record {
      low = omega arith;
      high = omega arith;
      made = c.in_ok-push.ensures.items ∙ ap (λ l. l ++ c.in_ok-zeroed.field-0 ∷ []) c.loop-next.invariant.made
          ∙ ap (λ b. reverse (zero_blocks c.loop-next.next (c.args.to - c.loop-next.next)) ++ b ∷ []) (c.in_ok-zeroed.ensures ∙ ap (λ n. replicate n 0) c.block_len.ensures.0) ∙ sym more;
    }
