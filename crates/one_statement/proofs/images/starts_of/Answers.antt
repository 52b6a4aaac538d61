use Rattle.std.proofs.Common.{◌∙◌}
use Rattle.one_statement.proofs.Replaced.{lifted_at}
use Rattle.one_statement.proofs.images.starts_of.Goals as goal

pub returns : goal.returns
returns c = c.from_vec.ensures ∙ (c.in_ok-push_zeros.ensures ∙ rw (c.in_ok-extend_from_slice.ensures.items, c.new-new.ensures.items) (lifted_at c.args.images.now c.args.coefs.now c.requires.width))
