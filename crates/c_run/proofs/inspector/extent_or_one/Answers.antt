use Rattle.std.proofs.Common.{sym, ap, ◌∙◌}
use Rattle.c_meaning.specs.Value.{value_of}
use Rattle.c_run.specs.Store.{sight_of_store}
use Rattle.c_run.proofs.Extents.{extent_at, extent_missing}
use Rattle.c_run.proofs.inspector.extent_or_one.Goals as goal

pub returns-then-at-inner : goal.returns-then-at-inner
returns-then-at-inner c = c.eval_index.ensures ∙ ap (λ e. value_of e (sight_of_store c.args.store.now)) c.index-inner-at.is ∙ sym (extent_at c.args.inner.now c.args.at (sight_of_store c.args.store.now) c.index-inner-at.result c.if-at-inner.true)

pub returns-else-at-inner : goal.returns-else-at-inner
returns-else-at-inner c = sym (extent_missing c.args.inner.now c.args.at (sight_of_store c.args.store.now) c.if-at-inner.false)
