-- `skew` changes the order of no two instances, so it needs no test.
use Rattle.std.specs.Prelude.{◌≡◌, ℕ, List, length, ℤ, Some, Ok}
use Rattle.nest_tree.specs.declared.kernel.Kernel.{Kernel}
use Rattle.nest_tree.specs.declared.moves.Moves.{Moves}
use Rattle.nest_tree.specs.Carriers.{Carrier, IsCarried}
use Rattle.nest_tree.specs.Lists.{IsIn}
use Rattle.nest_tree.specs.Moving.{Move, Gives}
use Rattle.nest_tree.specs.Terms.{Input}
use Rattle.nest_core.specs.Shapes.{IsShaped}
use Rattle.affine_moves.specs.Moves.{skew_moves}
use Rattle.move_laws.specs.Moves.{moves_of_all}

-- no two instances, whether they are in conflict or not, change their order
abbrev pub AllStay : Input → List Move → Type 0
AllStay i moves =
    (x y : Move) (vs ws us zs : List ℤ) (c d : Carrier) → IsIn x moves → IsIn y moves → Gives i x vs ws → Gives i y us zs
    → IsCarried c (x.old).positions vs (y.old).positions us → IsCarried d (y.piece).positions zs (x.piece).positions ws → ⊥

abbrev pub SkewChangesNone : Type 0
SkewChangesNone =
    (k : Kernel) (m : Moves) (i : Input) (moves : List Move) (s level : ℕ) (coefs : List ℤ) → length i.params ≡ length k.head.params → IsShaped k → skew_moves k s level coefs ≡ Ok (Some m)
    → moves_of_all (length k.head.params) k.nests m.pieces ≡ Ok moves → AllStay i moves
