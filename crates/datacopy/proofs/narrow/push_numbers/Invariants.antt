use Rattle.std.proofs.Common.{◌≡◌, ◌++◌, drop, map}
use Rattle.datacopy.specs.Narrow.{number_of}
use Rattle.datacopy.proofs.narrow.push_numbers.Given as goal

abbrev pub invariant-loop-place : goal.invariant-loop-place
invariant-loop-place l = l.coefs.items ++ map (number_of l.numbers) (drop l.place-index l.places) ≡ l.initial.coefs.items ++ map (number_of l.numbers) l.places
