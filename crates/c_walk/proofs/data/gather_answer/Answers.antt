use Rattle.std.proofs.Common.{◌∙◌, ap}
use Rattle.c_walk.specs.Data.{on_numbers, applied, operated}
use Rattle.c_walk.proofs.Worths.{no_right}
use Rattle.c_walk.proofs.data.gather_answer.Goals as goal

pub returns-in-Ok : goal.returns-in-Ok
returns-in-Ok c = λ left. ap (λ a. on_numbers applied (on_numbers (operated c.args.operator) left a) c.args.tail) c.in-Ok.is ∙ c.gather_right.ensures left

pub returns-in-Err : goal.returns-in-Err
returns-in-Err c = λ left. ap (λ a. on_numbers applied (on_numbers (operated c.args.operator) left a) c.args.tail) c.in-Err.is ∙ no_right (operated c.args.operator) left c.in-Err.fault c.args.tail
