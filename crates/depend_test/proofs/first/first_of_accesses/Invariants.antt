use Rattle.std.proofs.Common.{drop}
use Rattle.std.specs.List.{flat_map}
use Rattle.depend_test.specs.Candidates.{IsDecided, carried_of, of_numbers, of_piece}
use Rattle.depend_test.proofs.Firsts.{Passed}
use Rattle.depend_test.proofs.first.first_of_accesses.Given as goal

abbrev pub invariant-loop-one : goal.invariant-loop-one
invariant-loop-one l = Passed (IsDecided l.kernel) carried_of (of_numbers l.a l.b l.i l.j) (flat_map (of_piece l.a l.b l.i l.j) (drop l.one-index l.a.sides))
