-- The statements of a loop.
use Rattle.std.specs.Prelude.{ℕ, ◌≤◌, ◌<◌, List, length, slice_get, IfSome}
use Rattle.nest_tree.specs.declared.kernel.Nest.{Nest}
use Rattle.loop_scan.specs.declared.group.Group.{Group}

-- the statement has the level
abbrev pub HasLevel : List Nest → ℕ → ℕ → Type 0
HasLevel ns level s = IfSome (slice_get ns s) (λ n. level ≤ length n.levels)

-- each of these statements has the level
abbrev pub HaveLevel : List Nest → ℕ → ℕ → ℕ → Type 0
HaveLevel ns level from to = (s : ℕ) → from ≤ s → s < to → HasLevel ns level s

-- a loop at a level around some of the statements, all of which have the level
pub record IsGroup (ns : List Nest) (g : Group) : Type 0 where
  pub some : g.from < g.to
  pub within : g.to ≤ length ns
  pub low : 1 ≤ g.level
  pub high : g.level ≤ 8
  pub deep : HaveLevel ns g.level g.from g.to
