-- Where a visit stands in a program.
use Rattle.std.specs.Prelude.{◌≡◌, ℕ, List, [], ◌∷◌, ◌++◌, None}
use Rattle.std.specs.List.{AllByRecursion}
use Rattle.c_tree.specs.declared.program.Program.{Program}
use Rattle.c_meaning.specs.Names.{Name}
use Rattle.acceptance.specs.Expressions.{plain}
use Rattle.acceptance.specs.Visits.{Passed, looped, tested, Asked, bounds, test, assignment, Visit}
use Rattle.acceptance.specs.Around.{loop_names, sizes_in, own_expressions}
use Rattle.acceptance.specs.Limits.{Scene, asked_limits}
use Rattle.acceptance_laws.specs.Formed.{AreApart}
use Rattle.acceptance_laws.specs.Scopes.{IsScoped}
use Rattle.acceptance_laws.specs.Seen.{IsInScope}

-- what is judged behind what is passed
abbrev pub scene_behind : Program → ℕ → List Passed → Scene
scene_behind p n before = record { head = p; number = n; names = p.params ++ loop_names before; sizes = sizes_in [] before }

-- each thing that is passed keeps its limits, behind those passed before
abbrev pub PassedKeepLimits : Program → List Passed → List Passed → Type 0
PassedKeepLimits p before [] = Unit
PassedKeepLimits p before (looped x low high ∷ ps) = ((n : ℕ) × (asked_limits (scene_behind p n before) (bounds x low high) ≡ None)) × PassedKeepLimits p (before ++ looped x low high ∷ []) ps
PassedKeepLimits p before (tested t ∷ ps) = ((n : ℕ) × (asked_limits (scene_behind p n before) (test t) ≡ None)) × PassedKeepLimits p (before ++ tested t ∷ []) ps

-- a visit whose names are in scope and apart, behind things that keep their limits
pub record IsPlaced (p : Program) (v : Visit) : Type 0 where
  pub scoped : IsScoped p.params v.around
  pub apart : AreApart (p.params ++ (loop_names v.around ++ v.inner))
  pub asked : AllByRecursion (IsInScope (p.params ++ loop_names v.around)) (own_expressions v.asked)
  pub passed : PassedKeepLimits p [] v.around
