use Rattle.std.proofs.Common.{◌∙◌, ap, Ok}
use Rattle.c_walk.specs.Data.{on_numbers, applied, operated}
use Rattle.c_walk.proofs.Worths.{on_both, no_tail}
use Rattle.c_walk.proofs.data.gather_right.Goals as goal

pub returns-in-Ok : goal.returns-in-Ok
returns-in-Ok c = λ left. ap (on_numbers applied (on_numbers (operated c.args.operator) left (Ok c.args.y))) c.in-Ok.is ∙ on_both (operated c.args.operator) left c.args.y _ _ c.gather.ensures

pub returns-in-Err : goal.returns-in-Err
returns-in-Err c = λ left. ap (on_numbers applied (on_numbers (operated c.args.operator) left (Ok c.args.y))) c.in-Err.is ∙ no_tail (operated c.args.operator) left c.args.y c.in-Err.fault
