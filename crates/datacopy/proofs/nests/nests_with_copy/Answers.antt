use Rattle.std.proofs.Common.{List, ap, ◌∙◌}
use Rattle.nest_tree.specs.declared.kernel.Nest.{Nest}
use Rattle.nest_core.specs.Order.{numbered}
use Rattle.datacopy.specs.Copied.{with_both}
use Rattle.datacopy.proofs.nests.nests_with_copy.Goals as goal

pub returns-clause-copied : goal.returns-clause-copied
returns-clause-copied c = record {
  copying = c.in_ok-copying.copying;
  value = c.in_ok-reading.reading.value;
  copies = c.in_ok-copying.ensures.copies;
  are = c.in_ok-new.ensures.are
      ∙ ap (λ (ns : List Nest). numbered (with_both ns c.args.statement c.in_ok-copying.copying c.in_ok-reading.reading)) c.as_slice-nests.ensures
      ∙ ap (λ (n : Nest). numbered (with_both c.args.kernel.now.nests c.args.statement c.in_ok-copying.copying n)) c.in_ok-reading.ensures.same;
}
