use Rattle.std.proofs.Common.{◌+◌, ◌*◌}
use Rattle.scan_forms.proofs.write.+writing.Given as goal

abbrev pub decreases-write_multiple : goal.decreases-write_multiple
decreases-write_multiple l = 8 * l.read + 8

abbrev pub decreases-write_ordered : goal.decreases-write_ordered
decreases-write_ordered l = 8 * l.below + 1

abbrev pub decreases-write_others : goal.decreases-write_others
decreases-write_others l = 8 * l.below + 1

abbrev pub decreases-write_sum : goal.decreases-write_sum
decreases-write_sum l = 8 * l.below + 2

abbrev pub decreases-write_below : goal.decreases-write_below
decreases-write_below l = 8 * l.below + 3

abbrev pub decreases-subscripts_below : goal.decreases-subscripts_below
decreases-subscripts_below l = 8 * l.below + 4

abbrev pub decreases-write_read : goal.decreases-write_read
decreases-write_read l = 8 * l.read + 5
