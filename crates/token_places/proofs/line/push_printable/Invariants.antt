use Rattle.std.proofs.Common.{◌≡◌, ◌++◌, take, map}
use Rattle.token_places.specs.Lines.{printable}
use Rattle.token_places.proofs.line.push_printable.Given as goal

abbrev pub invariant-loop-b : goal.invariant-loop-b
invariant-loop-b l = l.text.items ≡ l.initial.text.items ++ map printable (take l.b-index l.bytes)
