use Rattle.std.proofs.Common.{◌≡◌, take, replicate}
use Rattle.core.specs.Mem.Slots.{slots_items, slots_filled, SamePlaces}
use Rattle.core.specs.Mem.Slots.Ownership.{Filled}
use Rattle.raw_store.proofs.block.clear.Given as goal

abbrev pub invariant-loop-at : goal.invariant-loop-at
invariant-loop-at l = record {
  zeros : take l.at (slots_items l.places) ≡ replicate l.at 0;
  filled : Filled (slots_filled l.places) 0 l.at;
  same : SamePlaces l.initial.places l.places;
}
