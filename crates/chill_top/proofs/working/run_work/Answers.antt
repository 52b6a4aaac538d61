use Rattle.std.proofs.Common.{ℕ, List, subst}
use Rattle.chill_base.specs.Outside.{IsProperFront}
use Rattle.chill_top.proofs.working.run_work.Goals as goal

-- a front of the summary was written
pub returns-clause-answer : goal.returns-clause-answer
returns-clause-answer g c =
    let failed = c.in-Err-write_all.ensures.failed in
    (c.in-Ok.text, failed.0, c.in-Ok.ensures.ok, subst (λ (t : List ℕ). IsProperFront failed.0 t) c.as_slice.ensures failed.1, failed.2)
