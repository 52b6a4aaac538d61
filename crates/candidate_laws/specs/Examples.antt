-- Worked candidates: y[i] = 1 for i from 0 to below n, shifted, as the test has it.
use Rattle.std.specs.Prelude.{◌≡◌, [], ◌∷◌, pos, negsuc}
use Rattle.kernel_laws.specs.Examples.{form}
use Rattle.depend_test.specs.Candidates.{Between, candidates}
use Rattle.pair_laws.specs.Shifted.{moved, side}
use Rattle.candidate_laws.specs.Membership.{IsCandidate}

-- the target with itself, where the loop carries the old order and the new one
abbrev pub only : Between
only = record {
  from = 0;
  to = 0;
  access = record { array = 121 ∷ []; at = form (pos 0) (pos 1) (pos 0) ∷ [] };
  candidate = record {
    one = side;
    other = side;
    first = record { array = 121 ∷ []; at = form (pos 0) (pos 1) (negsuc 4) ∷ [] };
    second = record { array = 121 ∷ []; at = form (pos 0) (pos 1) (negsuc 4) ∷ [] };
    orders = record { old_shared = 1; old = 1 ∷ []; new_shared = 1; new = 1 ∷ [] };
    carried = record { old = 1; new = 1 };
  };
}

-- it is the one candidate, and meets the conditions
abbrev pub WorkedCandidates : Type 0
WorkedCandidates = (candidates (moved ∷ []) ≡ only ∷ []) × IsCandidate (moved ∷ []) only
