use Rattle.std.proofs.Common.{◌≡◌, ◌-◌, []}
use Rattle.c_grammar.specs.ReadProgram as spec
use Rattle.c_loops.proofs.sections.inner.Given as goal

-- what is left to read gives what the whole gives
abbrev pub invariant-loop-turn : goal.invariant-loop-turn
invariant-loop-turn l = spec.inner l.brackets l.count [] l.fn.tokens ≡ spec.inner l.brackets (l.count - l._turn) l.found l.tokens
