-- Laws of the prescribed list: there is one at most, and without commands, or with commands that move nothing, it is the source's.
use Rattle.std.specs.Prelude.{◌≡◌, List, [], ◌∷◌, Ok}
use Rattle.c_tree.specs.declared.program.Program.{Program}
use Rattle.c_meaning.specs.Inputs.{Input}
use Rattle.c_meaning.specs.Programs.{list_of}
use Rattle.nest_tree.specs.declared.kernel.Kernel.{Kernel}
use Rattle.nest_laws.specs.RunLaws.{as_items}
use Rattle.acceptance.specs.Accepted.{accepted}
use Rattle.kernel_promise.specs.Motions.{still, Command}
use Rattle.kernel_promise.specs.Prescribed.{Items, IsMovedThrough, items_of, IsPrescribed}

-- commands lead from a kernel and a list to one kernel and one list at most
abbrev pub OneMovedList : Type 0
OneMovedList =
    (i : Input) (cs : List Command) (k : Kernel) (xs : Items) (a b : Kernel) (ys zs : Items) → IsMovedThrough i cs k xs a ys → IsMovedThrough i cs k xs b zs → (a ≡ b) × (ys ≡ zs)

-- a recipe prescribes one list at most
abbrev pub OnePrescribedList : Type 0
OnePrescribedList = (p : Program) (cs : List Command) (i : Input) (ys zs : Items) → IsPrescribed p cs i ys → IsPrescribed p cs i zs → ys ≡ zs

-- the list is the source's
abbrev pub IsOwnList : Program → Input → Items → Type 0
IsOwnList p i ys = as_items ys ≡ list_of p i

-- the empty recipe prescribes the source's list
abbrev pub EmptyRecipePrescribesSource : Type 0
EmptyRecipePrescribesSource = (p : Program) (i : Input) → IsPrescribed p [] i (items_of p i) × ((ys : Items) → IsPrescribed p [] i ys → IsOwnList p i ys)

-- each command moves nothing in the kernel
abbrev pub AreStill : Kernel → List Command → Type 0
AreStill k [] = Unit
AreStill k (c ∷ cs) = (c k ≡ still) × AreStill k cs

-- and so does a recipe of commands that move nothing
abbrev pub StillRecipePrescribesSource : Type 0
StillRecipePrescribesSource =
    (p : Program) (k : Kernel) (cs : List Command) (i : Input) → accepted p ≡ Ok k → AreStill k cs
    → IsPrescribed p cs i (items_of p i) × ((ys : Items) → IsPrescribed p cs i ys → IsOwnList p i ys)
