use Rattle.std.proofs.Common.{◌≡◌, ◌≤◌, length}
use Rattle.std.specs.Prelude.{IsTrue, nat_lt}
use Rattle.std.specs.List.{list_all}
use Rattle.datacopy.specs.Narrow.{needed_terms}
use Rattle.datacopy.proofs.narrow.needed_terms.Given as goal

abbrev pub invariant-loop-term : goal.invariant-loop-term
invariant-loop-term l = record {
  needed : l.needed ≡ needed_terms (length l.head.params) l.nest l.place l.sides l.term;
  terms : IsTrue (list_all (λ t. nat_lt t (length l.nest.terms)) l.needed);
  few : length l.needed ≤ l.term;
}
