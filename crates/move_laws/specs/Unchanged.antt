-- Moves that change the order of no two conflicting assignments.
use Rattle.std.specs.Prelude.{◌≡◌, List, map, ℤ}
use Rattle.nest_tree.specs.declared.kernel.Nest.{Nest}
use Rattle.nest_tree.specs.declared.body.Access.{Access}
use Rattle.c_meaning.specs.Memory.{Cells}
use Rattle.c_meaning.specs.Ground.{Step}
use Rattle.nest_tree.specs.Lists.{IsIn}
use Rattle.nest_tree.specs.Places.{Item, Precedes}
use Rattle.nest_tree.specs.Effects.{KeepsOrder}
use Rattle.nest_tree.specs.Forms.{value}
use Rattle.nest_tree.specs.Carriers.{Carrier, IsCarried}
use Rattle.nest_tree.specs.Terms.{Input}
use Rattle.nest_tree.specs.Kernels.{point, IsPointOf, IsKernelList, AreDistinct}
use Rattle.nest_tree.specs.Moving.{Move, Goes, Gives, StandsFor, IsMade, ArePieces}
use Rattle.nest_tree.specs.Systems.{Clash, SubscriptsFit}
use Rattle.nest_laws.specs.Acts.{act}
use Rattle.nest_laws.specs.ListLaws.{AreInConflict, effect_of}

-- no two instances name one cell by conflicting accesses and change their order
abbrev pub NoneChanges : Input → List Move → Type 0
NoneChanges i moves =
    (m k : Move) (a b : Access) (vs ws us zs : List ℤ) (c d : Carrier) → IsIn m moves → IsIn k moves → Clash m.new k.new a b
    → IsPointOf i m.new ws → IsPointOf i k.new zs → Gives i m vs ws → Gives i k us zs
    → map (value (point i m.new ws)) a.at ≡ map (value (point i k.new zs)) b.at
    → IsCarried c (m.old).positions vs (k.old).positions us → IsCarried d (k.piece).positions zs (m.piece).positions ws → ⊥

-- pieces that make the new statements, and change the order of none of these
pub record IsUnchanged (i : Input) (moves : List Move) (nests new : List Nest) : Type 0 where
  pub made : IsMade moves nests new
  pub stands : (m : Move) → IsIn m moves → StandsFor act i m
  pub pieces : ArePieces i moves nests
  pub distinct : AreDistinct nests
  pub subscripts : SubscriptsFit moves
  pub none : NoneChanges i moves

-- such moves keep the order of conflicting assignments, and so the effect on all cells
abbrev pub UnchangedKeepsEffect : Type 0
UnchangedKeepsEffect =
    (i : Input) (moves : List Move) (nests new : List Nest) → IsUnchanged i moves nests new
    → (xs ys : List (Item Step)) → IsKernelList act i nests xs → IsKernelList act i new ys
    → KeepsOrder (Goes act i moves) AreInConflict Precedes Precedes xs ys × ((s : Cells) → effect_of ys s ≡ effect_of xs s)
