use Rattle.std.proofs.Common.{length}
use Rattle.loop_scan.proofs.project.+stays.Given as goal

abbrev pub decreases-stays : goal.decreases-stays
decreases-stays l = length l.places.now
