use Rattle.std.proofs.Common.{◌≡◌, ◌+◌, ◌≤◌, take}
use Rattle.token_places.specs.Carets.{caret_of}
use Rattle.token_places.proofs.caret.caret_behind.Given as goal

abbrev pub invariant-loop-b : goal.invariant-loop-b
invariant-loop-b l = record {
  reached : l.caret ≡ caret_of (take l.b-index l.before);
  line : l.caret.line ≤ l.b-index + 1;
  column : l.caret.column ≤ l.b-index + 1;
}
