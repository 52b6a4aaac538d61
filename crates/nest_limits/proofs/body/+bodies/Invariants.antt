use Rattle.std.proofs.Common.{◌≡◌, ◌≤◌, ◌+◌, ◌*◌, length}
use Rattle.std.specs.Prelude.{IsTrue}
use Rattle.nest_tree.specs.declared.body.Body.{size-Body}
use Rattle.nest_core.specs.Shapes.{is_body_over}
use Rattle.nest_limits.specs.Brackets.{printed}
use Rattle.nest_limits.proofs.body.+bodies.Given as goal

abbrev pub decreases-body_fits : goal.decreases-body_fits
decreases-body_fits l = 3 * size-Body l.body.now

abbrev pub decreases-summand_fits : goal.decreases-summand_fits
decreases-summand_fits l = 3 * size-Body l.body.now + 2

abbrev pub decreases-factor_fits : goal.decreases-factor_fits
decreases-factor_fits l = 3 * size-Body l.body.now + 2

abbrev pub decreases-part_fits : goal.decreases-part_fits
decreases-part_fits l = 3 * size-Body l.body.now + 1

abbrev pub invariant-body_fits-loop-rest : goal.invariant-body_fits-loop-rest
invariant-body_fits-loop-rest l = record {
  size : size-Body l.rest ≤ size-Body l.body;
  over : IsTrue (is_body_over (l.first + length l.terms) l.rest);
  same : (printed l.first l.terms l.rest).fits l.inside ≡ (printed l.first l.terms l.body).fits l.room;
}
