use Rattle.std.proofs.Common.{◌≡◌, fold, drop, unsigned_abs}
use Rattle.int_rows.specs.Gcd.{gcd, gcd_of}
use Rattle.int_sets.proofs.numbers.gcd_all.Given as goal

abbrev pub invariant-loop-z : goal.invariant-loop-z
invariant-loop-z l = fold (λ g z. gcd g (unsigned_abs z)) l.found (drop l.z-index l.numbers) ≡ gcd_of l.numbers
