use Rattle.std.proofs.Common.{length}
use Rattle.scan_forms.proofs.reads.+same_forms.Given as goal

abbrev pub decreases-same_forms : goal.decreases-same_forms
decreases-same_forms l = length l.a.now
