use Rattle.std.proofs.Common.{◌≡◌, ◌++◌, drop, map}
use Rattle.datacopy.specs.Boxes.{coefs_of}
use Rattle.datacopy.proofs.boxes.joined_each.Given as goal

abbrev pub invariant-loop-i : goal.invariant-loop-i
invariant-loop-i l = map coefs_of l.new.items ++ map coefs_of (drop l.i l.sides) ≡ map coefs_of l.sides
