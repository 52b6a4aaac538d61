use Rattle.std.proofs.Common.{◌≡◌, map, take}
use Rattle.loop_scan.specs.Safety.{is_kept}
use Rattle.loop_scan.proofs.project.kept_terms.Given as goal

abbrev pub invariant-loop-term : goal.invariant-loop-term
invariant-loop-term l = l.kept ≡ map (is_kept l.several l.safe) (take l.term-index l.terms)
