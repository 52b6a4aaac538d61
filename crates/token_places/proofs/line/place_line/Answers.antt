use Rattle.std.proofs.Common.{◌∙◌}
use Rattle.token_places.proofs.Tokens.{as_many}
use Rattle.token_places.proofs.line.place_line.Goals as goal

pub returns-in-Err-clause-past : goal.returns-in-Err-clause-past
returns-in-Err-clause-past c = record { count = c.in-Err.ensures.past.0 ∙ as_many c.args.text.now; fewer = c.in-Err.ensures.past.1 }
