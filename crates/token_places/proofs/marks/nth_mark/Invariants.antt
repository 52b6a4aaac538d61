use Rattle.std.proofs.Common.{◌≡◌, ◌+◌, ◌-◌, ◌≤◌, ◌<◌, length, drop}
use Rattle.token_places.specs.Marks.{marks_from}
use Rattle.c_tokens.specs.declared.pieces.Margin.TheVariants.{Start}
use Rattle.token_places.proofs.marks.nth_mark.Given as goal

abbrev pub invariant-pieces : goal.invariant-pieces
invariant-pieces l = record {
  left : drop l.seen (marks_from 0 0 Start l.text) ≡ marks_from l.at 0 l.margin (drop l.at l.text);
  counted : l.seen + length (marks_from l.at 0 l.margin (drop l.at l.text)) ≡ length (marks_from 0 0 Start l.text);
  within : l.at ≤ length l.text;
  few : l.seen ≤ l.at;
  before : l.seen < l.number;
}

abbrev pub decreases-pieces : goal.decreases-pieces
decreases-pieces l = length l.text - l.at
