use Rattle.std.proofs.Common.{◌≡◌, drop}
use Rattle.datacopy.specs.Extents.{among_arrays, among_made}
use Rattle.datacopy.proofs.extents.extent_at.Given as goal

abbrev pub invariant-loop-known : goal.invariant-loop-known
invariant-loop-known l = among_arrays l.head l.made l.array l.dim (drop l.known-index l.head.arrays) ≡ among_arrays l.head l.made l.array l.dim l.head.arrays

abbrev pub invariant-loop-known-2 : goal.invariant-loop-known-2
invariant-loop-known-2 l = among_made l.head l.array l.dim (drop l.known-index l.made) ≡ among_arrays l.head l.made l.array l.dim l.head.arrays
