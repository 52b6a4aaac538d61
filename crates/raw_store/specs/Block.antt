-- When a block holds its cells and the right to give them back.
use Rattle.std.specs.Prelude.{◌≡◌}
use Rattle.core.specs.Mem.Slots.{slots_ptr, slots_len, IsFull}
use Rattle.raw_store.specs.declared.block.Block.TheInside.{Inside}

-- each cell holds a number, and the deed is the one for these cells
pub record IsWhole (b : Inside) : Type 0 where
  pub full : IsFull b.cells
  pub at : b.deed.at ≡ slots_ptr b.cells
  pub len : b.deed.len ≡ slots_len b.cells
  pub alloc : b.deed.alloc ≡ b.alloc
