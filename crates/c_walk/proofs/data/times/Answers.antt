use Rattle.std.proofs.Common.{Some, None, ◌∙◌, ap}
use Rattle.c_walk.specs.Data.{applied, times_of}
use Rattle.c_walk.proofs.Worths.{times_law}
use Rattle.c_walk.proofs.data.times.Goals as goal

pub returns-in-None : goal.returns-in-None
returns-in-None c = λ x. ap (applied (times_of x c.args.y)) c.in-None.is ∙ times_law x c.args.y None

pub returns-in-Some : goal.returns-in-Some
returns-in-Some c = λ x. ap (applied (times_of x c.args.y)) c.in-Some.is ∙ times_law x c.args.y (Some (c.in-Some.factor, c.in-Some.total))
