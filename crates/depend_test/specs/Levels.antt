-- The candidates for a dependence at a level that is compacted.
use Rattle.std.specs.Prelude.{ℕ, Bool, cond, List, [], ◌∷◌}
use Rattle.c_tree.specs.declared.statement.How.{How}
use Rattle.nest_tree.specs.declared.body.Access.{Access}
use Rattle.nest_tree.specs.declared.fault.Dependence.{Dependence}
use Rattle.nest_tree.specs.declared.kernel.Kernel.{Kernel}
use Rattle.depend_test.specs.Candidates.{at_each}
use Rattle.depend_test.specs.Conflicts.{conflict}
use Rattle.depend_test.specs.Systems.{SameCell, cell_system, with_old, Decides}
use Rattle.depend_test.specs.declared.side.Side.{Side}

-- two accesses of a statement
pub record AccessPair : Type 0 where
  pub first : Access
  pub second : Access

-- two accesses are decided by the exclusion of a system of two instances that differ first at the level
pub record IsDecidedAt (k : Kernel) (s : Side) (level : ℕ) (c : AccessPair) (b : Bool) : Type 0 where
  pub cell : SameCell k s s c.first c.second
  pub decided : Decides (with_old (cell_system cell) cell.pair level level) b

abbrev pub first_access : AccessPair → Access
first_access c = c.first

-- one access with another, if they conflict
abbrev pub with_conflict : How → ℕ → Access → ℕ → Access → List AccessPair
with_conflict how i cell j x = cond (conflict how cell i how x j) (record { first = cell; second = x } ∷ []) []

-- the accesses of a statement that conflict with one of them
unfoldable pub with_access : Side → How → ℕ → Access → List AccessPair
with_access s how i cell = at_each (with_conflict how i cell) 0 s.accesses

-- each two accesses of a statement that conflict
unfoldable pub access_pairs : Side → How → List AccessPair
access_pairs s how = at_each (with_access s how) 0 s.accesses

-- the dependence of a statement on itself at a level
abbrev pub level_dependence : ℕ → ℕ → AccessPair → Dependence
level_dependence statement level c = record {
  from = statement;
  to = statement;
  array = c.first.array;
  old_level = level;
  new_level = level;
}
