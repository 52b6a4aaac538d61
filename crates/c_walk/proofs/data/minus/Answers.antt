use Rattle.std.proofs.Common.{rules, Some, None, ◌∙◌, ap, ◌<◌, ◌^◌}
use Rattle.c_walk.specs.Data.{applied, minus_of}
use Rattle.c_walk.proofs.Worths.{minus_law}
use Rattle.c_walk.proofs.data.minus.Goals as goal

pub returns-in-None : goal.returns-in-None
returns-in-None c = let h : c.args.y < 2 ^ 64 = search rules in λ x. ap (applied (minus_of x c.args.y)) c.in-None.is ∙ minus_law x c.args.y None h

pub returns-in-Some : goal.returns-in-Some
returns-in-Some c = let h : c.args.y < 2 ^ 64 = search rules in λ x. ap (applied (minus_of x c.args.y)) c.in-Some.is ∙ minus_law x c.args.y (Some (c.in-Some.factor, c.in-Some.total)) h
