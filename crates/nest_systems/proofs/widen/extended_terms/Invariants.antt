use Rattle.std.proofs.Common.{◌≡◌, ◌+◌, ◌++◌, length, map, take}
use Rattle.std.specs.Prelude.{IsTrue}
use Rattle.std.specs.List.{list_all}
use Rattle.nest_core.specs.Shapes.{is_term_over}
use Rattle.nest_systems.specs.Parts.{widened_term, first_cell}
use Rattle.nest_systems.proofs.widen.extended_terms.Given as goal

abbrev pub invariant-loop-term : goal.invariant-loop-term
invariant-loop-term l = record { value : l.all ≡ map (widened_term l.vars) (take l.term-index l.terms); count : length l.all ≡ l.term-index; terms : IsTrue (list_all (is_term_over l.vars) l.all) }

abbrev pub invariant-loop-array : goal.invariant-loop-array
invariant-loop-array l = record { value : l.all ≡ map (widened_term l.vars) l.terms ++ map (first_cell l.vars) (take l.array-index l.arrays); count : length l.all ≡ length l.terms + l.array-index; terms : IsTrue (list_all (is_term_over l.vars) l.all) }
