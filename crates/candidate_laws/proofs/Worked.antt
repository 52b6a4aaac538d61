-- The worked candidate is listed, and so its conditions hold.
use Rattle.std.proofs.Common.{◌≡◌, inl, [], ◌∷◌, refl, sym, subst}
use Rattle.nest_tree.specs.Lists.{IsIn}
use Rattle.depend_test.specs.Candidates.{of_pieces, of_piece, of_numbers, of_access, of_statements, of_statement, candidates}
use Rattle.pair_laws.specs.Shifted.{moved}
use Rattle.candidate_laws.specs.Examples.{only, WorkedCandidates}
use Rattle.candidate_laws.proofs.Membership.{by_membership}

listed : candidates (moved ∷ []) ≡ only ∷ []
unfolding candidates of_statement of_statements of_access of_numbers of_piece of_pieces
listed = refl

pub worked : WorkedCandidates
worked = (listed, (by_membership (moved ∷ []) only).0 (subst (IsIn only) (sym listed) (inl refl)))
