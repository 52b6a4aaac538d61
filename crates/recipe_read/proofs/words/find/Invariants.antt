use Rattle.std.proofs.Common.{◌≡◌, length, map}
use Rattle.recipe_read.specs.Words.{find}
use Rattle.recipe_read.proofs.words.find.Given as goal

abbrev pub invariant-loop-table : goal.invariant-loop-table
invariant-loop-table g l = find (map (λ entry. (entry.0.now, entry.1)) l.table) l.word ≡ find (map (λ entry. (entry.0.now, entry.1)) l.initial.table) l.word

abbrev pub decreases-loop-table : goal.decreases-loop-table
decreases-loop-table g l = length l.table
