-- The terms of a statement that are variables of a system.
use Rattle.std.specs.Prelude.{◌≡◌, ℕ, ◌+◌, ◌<◌, ◌^◌, Bool, nat_lt, length, IsTrue}
use Rattle.std.specs.List.{list_all}
use Rattle.nest_core.specs.Shapes.{is_below}
use Rattle.nest_systems.specs.declared.choose.Chosen.{Chosen}

abbrev pub is_within : ℕ → ℕ → Bool
is_within count t = nat_lt t count

-- of so many terms, the first of which is that variable of the forms, those that are variables, and those that stand for others
pub record IsChosen (first count : ℕ) (c : Chosen) : Type 0 where
  pub place : c.first ≡ first
  pub order : IsTrue (list_all (is_within count) c.order)
  pub ends : IsTrue (list_all (is_within count) c.ends)
  pub same : length c.same ≡ count
  pub stands : IsTrue (list_all (is_below count) c.same)
  pub room : first + count < 2 ^ 64
