-- The reads that expressions name, and what the limits keep.
use Rattle.std.specs.Prelude.{◌≡◌, ◌≤◌, ◌^◌, ℕ, true, List, None}
use Rattle.std.specs.List.{list_all, AllByRecursion}
use Rattle.c_tree.specs.declared.program.Matrix.{Matrix}
use Rattle.c_meaning.specs.Names.{Name}
use Rattle.nest_tree.specs.Lists.{IsIn}
use Rattle.acceptance.specs.Affine.{Mention, mentions, is_affine}
use Rattle.acceptance.specs.Expressions.{Expression}
use Rattle.acceptance.specs.Forms.{reads_of, read_of, is_among}
use Rattle.acceptance.specs.Limits.{Scene, bound, side}
use Rattle.acceptance.specs.Sizes.{Size, weight}
use Rattle.acceptance_laws.specs.Formed.{AreApart}

-- each term that one of the expressions names is among the reads, of which no two are the same
abbrev pub MentionsAreListed : Type 0
MentionsAreListed =
    (ms : List Matrix) (names : List Name) (es : List Expression)
    → AreApart (reads_of ms names es) × ((e : Expression) (m : Mention) → IsIn e es → IsIn m (mentions ms e) → is_among (reads_of ms names es) (read_of names m) ≡ true)

-- a size of at most 2^62
abbrev pub IsSmall : List Size → Expression → Type 0
IsSmall sizes e = weight sizes e ≤ 2 ^ 62

abbrev pub HasSmallAt : List Size → Mention → Type 0
HasSmallAt sizes m = weight sizes m.at ≤ 2 ^ 62

-- the terms of a bound or of a side of a test have small subscripts, its operands are affine, and those of a bound are small
abbrev pub LimitsKeep : Type 0
LimitsKeep =
    (s : Scene) (own : ℕ) (e : Expression) (operands : List Expression)
    → (bound s own e operands ≡ None → AllByRecursion (HasSmallAt s.sizes) (mentions s.head.matrices e) × (list_all (is_affine s.head.matrices) operands ≡ true) × AllByRecursion (IsSmall s.sizes) operands)
    × (side s e ≡ None → AllByRecursion (HasSmallAt s.sizes) (mentions s.head.matrices e) × (is_affine s.head.matrices e ≡ true))
