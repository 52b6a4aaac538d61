use Rattle.std.proofs.Common.{length}
use Rattle.outcomes.proofs.words.+write_words.Given as goal

abbrev pub decreases-write_words : goal.decreases-write_words
decreases-write_words g l = length l.words.now
