-- What a statement gives to a system.
use Rattle.std.specs.Prelude.{◌≡◌, ℕ, ◌+◌, List, length}
use Rattle.c_tree.specs.declared.program.Program.{Program}
use Rattle.int_rows.specs.declared.row.Aff.{Aff}
use Rattle.int_rows.specs.declared.row.Row.{Row}
use Rattle.nest_tree.specs.declared.kernel.KernelRow.{KernelRow}
use Rattle.nest_tree.specs.declared.kernel.Term.{Term}
use Rattle.nest_tree.specs.declared.made.Made.{Made}
use Rattle.nest_systems.specs.declared.instance.Instance.{Instance}
use Rattle.nest_systems.specs.declared.choose.Chosen.{Chosen}
use Rattle.nest_systems.specs.Ranges.{Names}
use Rattle.nest_systems.specs.Parts.{extended_terms, value_rows}
use Rattle.nest_systems.specs.Choosing.{chosen_of, missing_of, with_counts}

-- a row of a statement without its own level
abbrev pub plain_row : KernelRow → Row
plain_row r = r.row

-- the part of a statement with these levels, terms and rows, of which further forms speak: the terms that rows and forms hold are variables; further reads count[0] that value ranges need stand behind its terms; of its own the last so many are such reads
pub record IsPart (head : Program) (made : List Made) (levels : ℕ) (terms : List Term) (extras : ℕ) (rows : List Row) (forms : List Aff) (i : Instance) : Type 0 where
  pub held : Chosen
  pub further : Names
  pub is_held : held ≡ chosen_of (length head.params + levels) terms extras rows forms
  pub are_further : further ≡ missing_of head made terms held
  pub own_levels : i.levels ≡ levels
  pub own_terms : i.terms ≡ extended_terms (length head.params + levels + length terms + length further) terms further
  pub own_chosen : i.chosen ≡ with_counts head made terms held
  pub own_rows : i.rows ≡ rows
  pub ranges : i.ranges ≡ value_rows head made (length head.params + levels) i.terms i.chosen.order
