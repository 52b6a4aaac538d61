use Rattle.std.proofs.Common.{length, ◌-◌, ◌≡◌, ◌≤◌}
use Rattle.chill_base.proofs.Reading.{Reading}
use Rattle.chill_base.proofs.whole.read_whole.Given as goal

abbrev pub invariant-loop-len : goal.invariant-loop-len
invariant-loop-len g l = record {
  len : l.len ≡ length l.text.items;
  short : l.len ≤ 67108864;
  so_far : Reading (g.F.Files.state l.fn.files) l.name l.text.items (g.F.Files.state l.files);
}

abbrev pub decreases-loop-len : goal.decreases-loop-len
decreases-loop-len g l = 67108864 - l.len
