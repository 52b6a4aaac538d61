use Rattle.loop_scan.proofs.Nesting.{nested-last}
use Rattle.loop_scan.proofs.head.nested.Goals as goal

pub returns-in-Some : goal.returns-in-Some
returns-in-Some c = rw (c.in-Some.ensures, nested-last c.args.greatest c.pop.new.self c.in-Some.last) c.nested_before.ensures
