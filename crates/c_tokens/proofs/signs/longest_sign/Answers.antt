use Rattle.c_tokens.specs.Signs.{sign_at}
use Rattle.c_tokens.proofs.Longest.{longest, no_sign, sign_fits}
use Rattle.c_tokens.proofs.signs.longest_sign.Goals as goal

pub returns-clause-found : goal.returns-clause-found
unfolding sign_at
returns-clause-found c = longest _ _ c.first_of.ensures

pub returns-clause-none : goal.returns-clause-none
unfolding sign_at
returns-clause-none c = no_sign _ _ c.first_of.ensures

pub returns-clause-within : goal.returns-clause-within
unfolding sign_at
returns-clause-within c = sign_fits _ _ c.first_of.ensures
