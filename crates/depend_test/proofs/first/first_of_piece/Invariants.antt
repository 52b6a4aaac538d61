use Rattle.std.proofs.Common.{drop}
use Rattle.std.specs.List.{flat_map}
use Rattle.depend_test.specs.Candidates.{IsDecided, carried_of, of_piece, of_pieces, orders_between}
use Rattle.depend_test.specs.declared.side.Side.{Side}
use Rattle.depend_test.proofs.Firsts.{Passed}
use Rattle.depend_test.proofs.first.first_of_piece.Given as goal

abbrev pub invariant-loop-other : goal.invariant-loop-other
invariant-loop-other l = Passed (IsDecided l.kernel) carried_of (of_piece l.a l.b l.i l.j l.one) (flat_map (λ (other : Side). of_pieces (orders_between l.a l.b l.one other) l.i l.j l.one other) (drop l.other-index l.b.sides))
