use Rattle.std.proofs.Common.{ℕ, length, ap, subst, ◌∙◌}
use Rattle.std.specs.Prelude.{IsTrue}
use Rattle.std.specs.List.{list_all}
use Rattle.nest_core.specs.Shapes.{is_row_over}
use Rattle.nest_core.proofs.Kept.{each_made-length}
use Rattle.compact.proofs.statement.make_parts.Goals as goal

pub returns-clause-parts : goal.returns-clause-parts
returns-clause-parts c =
    let F : ℕ → Type 0 = λ d. IsTrue (list_all (is_row_over c.args.images.now.vars d) c.in_ok-rows.rows) in
    record {
      rows = subst F c.len.ensures c.in_ok-rows.ensures.over;
      terms = c.in_ok-terms.ensures.over;
      count = each_made-length _ _ _ c.in_ok-terms.ensures.gives ∙ ap length c.as_slice-2.ensures;
      target = c.in_ok-target.ensures.over;
      value = c.in_ok-value.ensures.over;
    }
