use Rattle.loop_scan.specs.Groups.{HaveLevel}
use Rattle.loop_scan.proofs.group.group_end.Given as goal

abbrev pub invariant-loop-next : goal.invariant-loop-next
invariant-loop-next l = HaveLevel l.nests l.level l.at l.next
