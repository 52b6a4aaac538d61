use Rattle.std.proofs.Common.{length, ap, sym, refl, ◌∙◌}
use Rattle.one_statement.proofs.Naming.{named, written}
use Rattle.one_statement.proofs.made.made_name.Goals as goal

pub returns : goal.returns
returns c =
    named c.new.result _ c.args.prefix c.args.suffix.now c.new.ensures.name (λ h g. c.new.ensures.some h g) (written _ _ c.args.prefix c.args.suffix.now _ _ _ _ (c.copy_from_slice.ensures.after ∙ c.bytes-front.ensures.bytes) c.copy_from_slice-2.ensures.after (ap length (sym c.bytes-front.ensures.bytes)) refl) c.bytes-front.ensures.length.0 c.bytes-front.ensures.length.1 (rw c.bytes-front.ensures.bytes at c.if-suffix-front.false)
