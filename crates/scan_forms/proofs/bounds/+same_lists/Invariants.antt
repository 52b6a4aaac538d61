use Rattle.std.proofs.Common.{length}
use Rattle.scan_forms.proofs.bounds.+same_lists.Given as goal

abbrev pub decreases-same_lists : goal.decreases-same_lists
decreases-same_lists l = length l.a.now
