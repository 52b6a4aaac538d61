use Rattle.std.proofs.Common.{◌≡◌, ◌-◌, ◌++◌, ap, suc, arith, ◌<◌, ◌≤◌, ℕ, []}
use Rattle.std.specs.Prelude.{codes}
use Rattle.c_trace.specs.LeftSide.{opening}
use Rattle.c_trace.proofs.Writes.{goes_on, breaks_off, is_done}
use Rattle.c_trace.proofs.data.print_opening.Goals as goal

one_less : (n : ℕ) → 0 < n → opening n ≡ codes "(" ++ opening (n - 1)
one_less n h = ap opening (let e : n ≡ suc (n - 1) = omega (arith, h) in e)

none : (n : ℕ) → n ≤ 0 → opening n ≡ []
none n h = ap opening (let e : n ≡ 0 = omega (arith, h) in e)

pub returns-in-Err : goal.returns-in-Err
returns-in-Err g c = breaks_off _ _ _ (opening c.args.brackets) (opening c.loop-left.left) (codes "(") (opening (c.loop-left.left - 1)) c.in-Err.failed c.loop-left.invariant (one_less c.loop-left.left (omega arith)) c.in-Err.ensures

pub loop-left-preserved : goal.loop-left-preserved
loop-left-preserved g c = goes_on _ _ _ (opening c.args.brackets) (opening c.loop-left.left) (codes "(") (opening (c.loop-left.left - 1)) _ c.loop-left.invariant (one_less c.loop-left.left (omega arith)) c.in_default.ensures

pub returns : goal.returns
returns g c = is_done _ _ (opening c.args.brackets) (opening c.loop-left.left) tt c.loop-left.invariant (none c.loop-left.left (omega arith))
