use Rattle.std.proofs.Common.{◌≡◌, ◌≤◌, ◌+◌, ◌++◌, reverse, vec_len, vec_capacity}
use Rattle.raw_store.proofs.store.add_blocks.Given as goal

abbrev pub invariant-loop-block : goal.invariant-loop-block
invariant-loop-block l = record {
  moved : l.blocks.items ++ reverse l.fresh.items ≡ l.initial.blocks.items ++ reverse l.initial.fresh.items;
  room : vec_len l.blocks + vec_len l.fresh ≤ vec_capacity l.blocks;
}

abbrev pub decreases-loop-block : goal.decreases-loop-block
decreases-loop-block l = vec_len l.fresh
