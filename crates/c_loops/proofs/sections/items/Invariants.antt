use Rattle.std.proofs.Common.{◌≡◌, true, length}
use Rattle.c_grammar.specs.ReadProgram as spec
use Rattle.c_grammar.specs.Reader.{and_then, pure, many}
use Rattle.c_loops.proofs.sections.items.Given as goal

-- what is left to read gives what the whole gives
abbrev pub invariant-items : goal.invariant-items
invariant-items l = (spec.items l.brackets l.fn.tokens ≡ and_then (many (spec.next_item l.brackets) (l.found, l.section.growable) l.tokens) (λ found. pure found.0))
    × (l.section.is_inspector ≡ true)

abbrev pub decreases-items : goal.decreases-items
decreases-items l = length l.tokens
