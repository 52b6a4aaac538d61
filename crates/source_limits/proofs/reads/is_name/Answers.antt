use Rattle.std.proofs.Common.{◌∙◌}
use Rattle.c_judge.proofs.NameEq.{name_eq_is}
use Rattle.source_limits.proofs.reads.is_name.Goals as goal

pub returns : goal.returns
returns c = c.eq.ensures ∙ name_eq_is c.args.a c.args.b
