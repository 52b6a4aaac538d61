-- What a statement gives to a system, and where its variables stand in it.
use Rattle.std.specs.Prelude.{ℕ, ◌+◌, ◌≤◌, length, IsTrue}
use Rattle.std.specs.List.{list_all}
use Rattle.nest_core.specs.Shapes.{is_term_over}
use Rattle.nest_systems.specs.declared.instance.Instance.{Instance}
use Rattle.nest_systems.specs.declared.seats.Places.{Places}
use Rattle.nest_systems.specs.Chosen.{IsChosen}

-- so many parameters; the terms that ranges need stand behind the statement's own
pub record IsInstance (params : ℕ) (i : Instance) : Type 0 where
  pub levels : i.levels ≤ 8
  pub terms : IsTrue (list_all (is_term_over (params + i.levels + length i.terms)) i.terms)
  pub chosen : IsChosen (params + i.levels) (length i.terms) i.chosen

-- the places of a statement's variables are among those of the system
pub record HasRoom (p : Places) (i : Instance) (ends : ℕ) : Type 0 where
  pub level_places : p.first_level + i.levels ≤ p.vars
  pub own_places : p.params + i.levels ≤ p.vars
  pub term_places : p.first_term + length i.chosen.order ≤ p.vars
  pub end_places : p.first_end + ends ≤ p.vars
