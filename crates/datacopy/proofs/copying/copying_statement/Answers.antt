use Rattle.std.proofs.Common.{◌≡◌, suc, length, arith, rules, ap, ◌∙◌, take}
use Rattle.datacopy.specs.Copied.{copying_positions}
use Rattle.datacopy.specs.Narrow.{depth_of}
use Rattle.datacopy.proofs.Shaping.{copying-shaped, length-positions}
use Rattle.datacopy.proofs.copying.copying_statement.Goals as goal

pub returns-clause-shaped : goal.returns-clause-shaped
returns-clause-shaped c =
    let f = c.in_ok-narrow.ensures.fields in
    let p : c.in_ok-positions.positions ≡ copying_positions (take c.args.place c.args.nest.now.positions) (length c.args.kernel.now.nests) (length c.args.sides.now) = search rules in
    let long : length c.in_ok-positions.positions ≡ suc (depth_of c.in_ok-narrow.narrow) =
    omega (arith, length-positions c.args.place _ _ _ _ _ p c.requires.shaped.positions c.requires.place, f.outer, f.dims) in
    copying-shaped c.args.kernel.now.head c.in_ok-narrow.narrow _ _ _ _ c.in_ok-positions.positions _ c.in_ok-narrow.ensures.narrow f.params c.in_ok-rows.ensures c.in_ok-terms.ensures.count
    c.in_ok-terms.ensures.terms c.in_ok-cells.ensures.target c.in_ok-cells.ensures.value long c.in_ok-copying.ensures

pub returns-clause-copies : goal.returns-clause-copies
returns-clause-copies c =
    let f = c.in_ok-narrow.ensures.fields in
    let n = c.in_ok-copying.ensures in
    let p : c.in_ok-positions.positions ≡ copying_positions (take c.args.place c.args.nest.now.positions) (length c.args.kernel.now.nests) (length c.args.sides.now) = search rules in
    record {
      levels = omega (arith, n.levels, f.outer, f.dims);
      positions = n.positions ∙ p;
      target = ap (λ a. a.array) n.target ∙ c.in_ok-cells.ensures.copy;
      how = n.how;
      cell = c.in_ok-cells.cells.1;
      value = n.value;
      source = c.in_ok-cells.ensures.array;
    }
