-- An executor's run by its listing.
use Rattle.std.specs.Prelude.{◌≡◌, List, [], ◌∷◌}
use Rattle.c_meaning.specs.Memory.{Memory, Cells}
use Rattle.c_meaning.specs.Ground.{Step, effect}
use Rattle.c_meaning.specs.Listing.{Item, Listing, steps}
use Rattle.c_meaning.specs.Run.{Deed, assign, Outcome}

-- assignments as the steps of a run
abbrev pub deeds : List (Item Step) → List (Item Deed)
deeds [] = []
deeds (i ∷ is) = record { place = i.place; step = assign i.step } ∷ deeds is

abbrev pub with_cells : Cells → Memory → Memory
with_cells s m = record m { cells = s }

-- from the memory, the outcome is what the listing says: its assignments with their places, their effect, its fault
pub record Performs (l : Listing) (m : Memory) (o : Outcome) : Type 0 where
  pub items : o.items ≡ deeds l.items
  pub last : o.last ≡ with_cells (effect (steps l.items) m.cells) m
  pub trouble : o.trouble ≡ l.trouble
