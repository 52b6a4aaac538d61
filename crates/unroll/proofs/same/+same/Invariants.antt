use Rattle.std.proofs.Common.{◌+◌, ◌*◌}
use Rattle.unroll.proofs.same.+same.Given as goal

abbrev pub decreases-is_same : goal.decreases-is_same
decreases-is_same l = 5 * l.deep + 3

abbrev pub decreases-covers : goal.decreases-covers
decreases-covers l = 5 * l.deep + 2

abbrev pub decreases-has_term : goal.decreases-has_term
decreases-has_term l = 5 * l.deep + 1

abbrev pub decreases-is_same_term : goal.decreases-is_same_term
decreases-is_same_term l = 5 * l.deep

abbrev pub decreases-are_same : goal.decreases-are_same
decreases-are_same l = 5 * l.deep + 4
