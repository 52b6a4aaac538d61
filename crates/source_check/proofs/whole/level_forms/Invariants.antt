use Rattle.std.proofs.Common.{◌≡◌, length}
use Rattle.source_check.proofs.whole.level_forms.Given as goal

abbrev pub invariant-loop-level : goal.invariant-loop-level
invariant-loop-level l = length l.forms ≡ l.level
