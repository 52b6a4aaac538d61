use Rattle.std.proofs.Common.{◌≡◌, ◌≤◌, drop}
use Rattle.nest_core.specs.Pieces.{last_held}
use Rattle.pad_layouts.proofs.kept.last_held.Given as goal

abbrev pub invariant-loop-q : goal.invariant-loop-q
invariant-loop-q l = record { rest : last_held l.q l.found (drop l.q l.numbers) ≡ last_held 0 0 l.numbers; within : l.found ≤ l.q }
