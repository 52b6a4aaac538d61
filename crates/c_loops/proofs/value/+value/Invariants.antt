use Rattle.std.proofs.Common.{◌≡◌, ◌+◌, ◌*◌, length}
use Rattle.c_grammar.specs.ReadData as spec
use Rattle.c_grammar.specs.Reader.{many}
use Rattle.c_loops.proofs.value.+value.Given as goal

-- Brackets count first; a rule stands above those that it calls in the same bracket.
abbrev pub decreases-value : goal.decreases-value
decreases-value l = 4 * l.brackets + 3

abbrev pub decreases-part : goal.decreases-part
decreases-part l = 4 * l.brackets + 2

abbrev pub decreases-factor : goal.decreases-factor
decreases-factor l = 4 * l.brackets + 1

abbrev pub decreases-group : goal.decreases-group
decreases-group l = 4 * l.brackets

-- what is left to read gives what the whole gives
abbrev pub invariant-part-factors : goal.invariant-part-factors
invariant-part-factors l = spec.part (spec.room l.brackets) l.fn.tokens ≡ many (spec.next_factor (spec.room l.brackets)) l.left l.tokens

abbrev pub decreases-part-factors : goal.decreases-part-factors
decreases-part-factors l = length l.tokens

abbrev pub invariant-value-parts : goal.invariant-value-parts
invariant-value-parts l = spec.value l.brackets l.fn.tokens ≡ many (spec.next_part (spec.room l.brackets)) l.left l.tokens

abbrev pub decreases-value-parts : goal.decreases-value-parts
decreases-value-parts l = length l.tokens
