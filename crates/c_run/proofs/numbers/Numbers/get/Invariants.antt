use Rattle.std.proofs.Common.{◌≡◌, ◌≤◌, take, length, reverse}
use Rattle.std.specs.Prelude.{IsTrue}
use Rattle.c_run.specs.Numbers.{is_number, value_in}
use Rattle.c_run.proofs.numbers.Numbers.get.Given as goal

abbrev pub invariant-loop-at : goal.invariant-loop-at
invariant-loop-at l = record {
  value : value_in (reverse (take l.at l.self.loops.items)) l.self.params.items l.name ≡ value_in (reverse l.self.loops.items) l.self.params.items l.name;
  there : IsTrue (is_number (reverse (take l.at l.self.loops.items)) l.self.params.items l.name);
  within : l.at ≤ length l.self.loops.items;
}

abbrev pub decreases-loop-at : goal.decreases-loop-at
decreases-loop-at l = l.at
