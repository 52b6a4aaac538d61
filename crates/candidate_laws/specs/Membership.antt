-- The candidates of a dependence test, told by membership and not by the loops that list them.
use Rattle.std.specs.Prelude.{◌≡◌, ◌↔◌, ℕ, true, ◌||◌, List}
use Rattle.nest_tree.specs.declared.body.Access.{Access}
use Rattle.nest_tree.specs.Lists.{IsIn, IsAt}
use Rattle.depend_test.specs.Candidates.{Between, orders_between, candidates}
use Rattle.depend_test.specs.Conflicts.{conflict}
use Rattle.depend_test.specs.Orders.{carriers}
use Rattle.depend_test.specs.declared.side.Moved.{Moved}

-- two statements and an access of each, by their numbers
pub record Pairing (all : List Moved) (b : Between) : Type 0 where
  pub first : Moved
  pub second : Moved
  pub from : IsAt b.from first all
  pub to : IsAt b.to second all
  pub number : ℕ
  pub other_number : ℕ
  pub other : Access
  pub access : IsAt number b.access first.accesses
  pub other_access : IsAt other_number other second.accesses

-- the six conditions of a candidate: the command applies to one of the two statements; the accesses conflict; the pieces are of these statements; each has the access with the same number; the old carrier is one of the old positions; the new one is one of the pieces' positions, the other way round
pub record IsCandidate (all : List Moved) (b : Between) : Type 0 where
  pub pairing : Pairing all b
  pub applies : ((pairing.first).applies || (pairing.second).applies) ≡ true
  pub conflicts : conflict (pairing.first).how b.access pairing.number (pairing.second).how pairing.other pairing.other_number ≡ true
  pub pieces : IsIn (b.candidate).one (pairing.first).sides × IsIn (b.candidate).other (pairing.second).sides
  pub accesses : IsAt pairing.number (b.candidate).first ((b.candidate).one).accesses × IsAt pairing.other_number (b.candidate).second ((b.candidate).other).accesses
  pub orders : (b.candidate).orders ≡ orders_between pairing.first pairing.second (b.candidate).one (b.candidate).other
  pub old : IsIn ((b.candidate).carried).old (carriers (pairing.first).positions (pairing.second).positions)
  pub new : IsIn ((b.candidate).carried).new (carriers ((b.candidate).other).positions ((b.candidate).one).positions)

-- these are the candidates
abbrev pub CandidatesByMembership : Type 0
CandidatesByMembership = (all : List Moved) (b : Between) → IsIn b (candidates all) ↔ IsCandidate all b
