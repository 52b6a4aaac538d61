use Rattle.std.proofs.Common.{◌≡◌, ◌+◌, length}
use Rattle.std.specs.Prelude.{IsTrue}
use Rattle.std.specs.List.{list_all}
use Rattle.nest_core.specs.Shapes.{is_term_over}
use Rattle.source_check.proofs.nest.terms_of.Given as goal

abbrev pub invariant-loop-read : goal.invariant-loop-read
invariant-loop-read l = record {
  terms : IsTrue (list_all (is_term_over (length l.names + length l.reads)) l.terms);
  count : length l.terms ≡ l.read-index;
}
