use Rattle.std.proofs.Common.{◌+◌, ◌*◌, ◌-◌}
use Rattle.loop_scan.proofs.loops.+scan.Given as goal

abbrev pub decreases-scan_loop : goal.decreases-scan_loop
decreases-scan_loop l = 2 * (9 - l.group.level)

abbrev pub decreases-scan_range : goal.decreases-scan_range
decreases-scan_range l = 2 * (8 - l.group.level) + 1

abbrev pub decreases-scan_range-loop-at : goal.decreases-scan_range-loop-at
decreases-scan_range-loop-at l = l.group.to - l.at
