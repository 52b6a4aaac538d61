use Rattle.std.proofs.Common.{◌≡◌, true, refl, sym, ◌∙◌}
use Rattle.int_rows.specs.Elimination.{stays, holds_not}
use Rattle.int_sets.specs.Views.{row_of}
use Rattle.int_sets.proofs.Progress.{stays-made, one-kept}
use Rattle.int_sets.proofs.gather.keep_substituted.Goals as goal

pub returns-then-holds_not-clause-kept : goal.returns-then-holds_not-clause-kept
returns-then-holds_not-clause-kept c =
    let r = row_of c.args.row.now in
    let e : holds_not c.args.var r ≡ true = sym c.holds_not.ensures ∙ c.if-holds_not.true in
    rw e (one-kept (stays r) r _ _ _ _ (stays-made r r refl) c.in_ok-keep.ensures.kept)
