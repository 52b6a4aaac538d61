-- What is judged before the names.
use Rattle.std.specs.Prelude.{◌≡◌, ℕ, ◌≤◌, Bool, cond, not, ◌&&◌, nat_le, List, [], ◌∷◌, length, Option, Some, None, Result, Ok, Err, slice_get}
use Rattle.std.specs.Prelude.{is_some}
use Rattle.nest_tree.specs.declared.fault.ShapeWhy.{ShapeWhy}
use Rattle.nest_tree.specs.declared.fault.ShapeWhy.TheVariants.{NoStatement, NoLoop, NotTraversal, NotAlone}
use Rattle.nest_tree.specs.declared.kernel.Kernel.{Kernel}
use Rattle.nest_tree.specs.declared.kernel.Nest.{Nest}
use Rattle.one_statement.specs.Alone.{any_shares}
use Rattle.compact.specs.Matching.{target_of}
use Rattle.compact.specs.declared.matching.Target.{Target}

-- the first of these shapes that holds
abbrev pub lowest : List (Bool × ShapeWhy) → Option ShapeWhy
lowest [] = None
lowest (s ∷ shapes) = cond s.0 (Some s.1) (lowest shapes)

-- the first shape of a statement that exists
abbrev pub nest_shape : ℕ → ℕ → List Nest → Nest → Option ShapeWhy
nest_shape s level nests n = lowest
    ((not (nat_le 1 level && nat_le level (length n.levels)), NoLoop)
    ∷ (not (is_some (target_of level n)), NotTraversal)
    ∷ (any_shares 0 s 1 n nests, NotAlone)
    ∷ [])

abbrev pub first_shape_at : ℕ → ℕ → List Nest → Option Nest → Option ShapeWhy
first_shape_at s level nests None = Some NoStatement
first_shape_at s level nests (Some n) = nest_shape s level nests n

-- there is no such statement or loop, the level is none that can be compacted, or another statement shares the outermost loop
abbrev pub first_shape : Kernel → ℕ → ℕ → Option ShapeWhy
first_shape k s level = first_shape_at s level k.nests (slice_get k.nests s)

-- the shape comes where there is one, and where there is none, what comes is Ok
abbrev pub Judges : {A : Type 0} → Option ShapeWhy → Result A ShapeWhy → Type 0
Judges shape (Ok x) = shape ≡ None
Judges shape (Err why) = shape ≡ Some why

-- the first shape, and then another
abbrev pub or_else : Option ShapeWhy → Option ShapeWhy → Option ShapeWhy
or_else (Some why) further = Some why
or_else None further = further

-- what is compacted of a statement
pub record IsTarget (k : Kernel) (s level : ℕ) (t : Target) : Type 0 where
  pub nest : Nest
  pub found : slice_get k.nests s ≡ Some nest
  pub low : 1 ≤ level
  pub high : level ≤ length nest.levels
  pub target : target_of level nest ≡ Some t
  pub whole : nest.whole ≡ Some t.matrix
