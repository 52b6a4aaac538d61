use Rattle.std.proofs.Common.{IsTrue}
use Rattle.std.specs.List.{list_all}
use Rattle.scan_forms.specs.Reads.{term_has_places}
use Rattle.loop_scan.proofs.project.terms_from.Given as goal

abbrev pub invariant-loop-at : goal.invariant-loop-at
invariant-loop-at l = IsTrue (list_all term_has_places l.further)
