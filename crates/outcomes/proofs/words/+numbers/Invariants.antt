use Rattle.std.proofs.Common.{length, ◌+◌, ◌*◌}
use Rattle.outcomes.proofs.words.+numbers.Given as goal

abbrev pub decreases-write_behind : goal.decreases-write_behind
decreases-write_behind g l = 2 * length l.numbers.now

abbrev pub decreases-write_numbers : goal.decreases-write_numbers
decreases-write_numbers g l = 2 * length l.rest.now + 1
