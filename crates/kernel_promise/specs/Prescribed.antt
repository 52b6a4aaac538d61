-- The list that a recipe prescribes: the source's own list, moved by each command in turn.
use Rattle.std.specs.Prelude.{◌≡◌, List, [], ◌∷◌, map, Ok}
use Rattle.c_tree.specs.declared.program.Program.{Program}
use Rattle.c_meaning.specs.Ground.{Step}
use Rattle.c_meaning.specs.Inputs as inputs
use Rattle.c_meaning.specs.Programs.{list_of}
use Rattle.nest_tree.specs.declared.kernel.Kernel.{Kernel}
use Rattle.nest_tree.specs.Places.{Item}
use Rattle.nest_tree.specs.Moving.{Move, IsMovedList}
use Rattle.nest_core.specs.Pieces.{kernel_made}
use Rattle.nest_laws.specs.Acts.{act}
use Rattle.acceptance.specs.Accepted.{accepted}
use Rattle.kernel_promise.specs.Seen.{seen}
use Rattle.kernel_promise.specs.Motions.{Motion, still, moving, none, Command}
use Rattle.kernel_promise.specs.Moved.{moves_made}

abbrev pub Items : Type 0
Items = List (Item Step)

-- One command takes a kernel and a list to the kernel of its pieces and to the moved list: in it stands, sorted by place, what
-- each item of the list becomes by the pieces of its statement.
abbrev pub IsMovedBy : inputs.Input → Motion → Kernel → Items → Kernel → Items → Type 0
IsMovedBy i still k xs new ys = (new ≡ k) × (ys ≡ xs)
IsMovedBy i (moving m) k xs new ys = (moves : List Move) × (moves_made k m ≡ Ok moves) × (kernel_made k m ≡ Ok new) × IsMovedList act (seen k i) moves xs ys
IsMovedBy i none k xs new ys = ⊥

-- and so one command after another
abbrev pub IsMovedThrough : inputs.Input → List Command → Kernel → Items → Kernel → Items → Type 0
IsMovedThrough i [] k xs new ys = (new ≡ k) × (ys ≡ xs)
IsMovedThrough i (c ∷ cs) k xs new ys = (next : Kernel) × (zs : Items) × IsMovedBy i (c k) k xs next zs × IsMovedThrough i cs next zs new ys

-- a program's own list: its assignments with their places
abbrev pub items_of : Program → inputs.Input → Items
items_of p i = map (λ x. record { place = x.place; step = x.step }) (list_of p i)

-- Without commands the prescribed list is the source's own. With commands the source's kernel tells which statement each item
-- is of.
abbrev pub IsPrescribed : Program → List Command → inputs.Input → Items → Type 0
IsPrescribed p [] i ys = ys ≡ items_of p i
IsPrescribed p (c ∷ cs) i ys = (first last : Kernel) × (accepted p ≡ Ok first) × IsMovedThrough i (c ∷ cs) first (items_of p i) last ys
