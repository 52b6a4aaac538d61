use Rattle.std.proofs.Common.{◌≡◌, drop, length}
use Rattle.unroll.specs.Moves.{roles_of}
use Rattle.unroll.proofs.Pairing.{with_all}
use Rattle.unroll.proofs.roles.roles_of.Given as goal

abbrev pub invariant-loop-other : goal.invariant-loop-other
invariant-loop-other l =
    with_all l.roles (roles_of (length l.head.params) l.level l.nest (drop l.other-index l.nests)) ≡ roles_of (length l.head.params) l.level l.nest l.nests
