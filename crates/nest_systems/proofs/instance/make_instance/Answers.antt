use Rattle.std.proofs.Common.{rules, ap, length, ◌∙◌, refl}
use Rattle.nest_systems.proofs.Making.{instance-made}
use Rattle.nest_systems.proofs.instance.make_instance.Goals as goal

pub returns-clause-instance : goal.returns-clause-instance
returns-clause-instance c = instance-made _ _ c.in_ok-all.all (length c.as_slice.result.now) _ _ _ _ c.all.view_is c.requires.levels (ap length c.as_slice.ensures) c.in_ok-all.ensures.count c.in_ok-all.ensures.terms (search rules) (search rules) c.in_ok-missing.ensures.kept

pub returns-clause-part : goal.returns-clause-part
returns-clause-part c =
    let p = c.as_slice.ensures in
    let further = c.in_ok-missing.missing in
    record {
      held = c.in_ok-chosen.chosen;
      further = further;
      is_held = rw p at c.in_ok-chosen.ensures.value;
      are_further = c.in_ok-missing.ensures.missing;
      own_levels = refl;
      own_terms = c.all.view_is ∙ rw (c.as_slice-3.ensures, p) at c.in_ok-all.ensures.value;
      own_chosen = c.in_ok-missing.ensures.value;
      own_rows = c.in_ok-copy_rows.ensures;
      ranges = rw c.all.view_is (rw (c.as_slice-4.ensures, c.as_slice-order.ensures, p) at c.in_ok-ranges.ensures);
    }
