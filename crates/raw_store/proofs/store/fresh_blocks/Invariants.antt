use Rattle.std.proofs.Common.{◌≡◌, ◌≤◌, ◌-◌, reverse}
use Rattle.raw_store.specs.Directory.{zero_blocks}
use Rattle.raw_store.proofs.store.fresh_blocks.Given as goal

abbrev pub invariant-loop-next : goal.invariant-loop-next
invariant-loop-next l = record {
  low : l.from ≤ l.next;
  high : l.next ≤ l.to;
  made : l.blocks.items ≡ reverse (zero_blocks l.next (l.to - l.next));
}

abbrev pub decreases-loop-next : goal.decreases-loop-next
decreases-loop-next l = l.next
