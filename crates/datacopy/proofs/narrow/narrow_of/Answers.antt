use Rattle.std.proofs.Common.{arith, rules, ◌≤◌, ℕ, List, ap, length}
use Rattle.std.specs.Prelude.{Option, Some, None}
use Rattle.datacopy.specs.Narrow.{further}
use Rattle.datacopy.proofs.narrow.narrow_of.Goals as goal

further-le : (o : Option (List ℕ)) → further o ≤ 1
further-le (Some n) = omega arith
further-le None = omega arith

pub returns-clause-narrow : goal.returns-clause-narrow
returns-clause-narrow c = record {
  outer = search rules;
  depth = search rules;
  room = omega (arith, further-le c.args.count, c.in_ok-needed_terms.ensures.few, ap length c.as_slice-2.ensures);
  terms = search rules;
}
