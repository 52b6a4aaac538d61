use Rattle.std.proofs.Common.{◌≡◌, ◌+◌, ◌*◌, length}
use Rattle.c_grammar.specs.ReadIndex as spec
use Rattle.c_grammar.specs.Reader.{many}
use Rattle.c_loops.proofs.index.+index.Given as goal

-- Brackets count first; a rule stands above those that it calls in the same bracket.
abbrev pub decreases-index : goal.decreases-index
decreases-index l = 20 * l.brackets + 10

abbrev pub decreases-first_part : goal.decreases-first_part
decreases-first_part l = 20 * l.brackets + 9

abbrev pub decreases-further_parts : goal.decreases-further_parts
decreases-further_parts l = 20 * l.brackets + 9

abbrev pub decreases-part : goal.decreases-part
decreases-part l = 20 * l.brackets + 8

abbrev pub decreases-factor : goal.decreases-factor
decreases-factor l = 20 * l.brackets + 7

abbrev pub decreases-named : goal.decreases-named
decreases-named l = 20 * l.brackets + 6

abbrev pub decreases-bracketed : goal.decreases-bracketed
decreases-bracketed l = 20 * l.brackets + 6

abbrev pub decreases-by_word : goal.decreases-by_word
decreases-by_word l = 20 * l.inside + 15

abbrev pub decreases-subscripts : goal.decreases-subscripts
decreases-subscripts l = 20 * l.inside + 13

abbrev pub decreases-subscript : goal.decreases-subscript
decreases-subscript l = 20 * l.inside + 12

abbrev pub decreases-group : goal.decreases-group
decreases-group l = 20 * l.inside + 12

abbrev pub decreases-arguments : goal.decreases-arguments
decreases-arguments l = 20 * l.inside + 12

abbrev pub decreases-division : goal.decreases-division
decreases-division l = 20 * l.inside + 12

-- what is left to read gives what the whole gives
abbrev pub invariant-further_parts-parts : goal.invariant-further_parts-parts
invariant-further_parts-parts l = many (spec.next_part (spec.room l.brackets)) l.fn.first l.fn.tokens ≡ many (spec.next_part (spec.room l.brackets)) l.left l.tokens

abbrev pub decreases-further_parts-parts : goal.decreases-further_parts-parts
decreases-further_parts-parts l = length l.tokens
