use Rattle.std.proofs.Common.{◌≡◌, Bool, ◌+◌, ◌-◌, ℕ, suc, arith, sym, ap, ◌∙◌}
use Rattle.std.specs.Prelude.{Result, Ok}
use Rattle.int_rows.specs.declared.row.Excess.{Excess}
use Rattle.int_rows.specs.Systems.{Rows}
use Rattle.nest_core.specs.Making.{after}
use Rattle.loop_scan.specs.Safety.{stays_at, without_one, without_later}
use Rattle.loop_scan.proofs.project.eliminate_later.Goals as goal

-- a variable is eliminated, or stays, and then those before it
step : (keeps : ℕ → Bool) (first n v : ℕ) (s t : Rows) → v ≡ first + n → without_one keeps v s ≡ Ok t
    → without_later keeps first n t ≡ without_later keeps first (suc n) s
step keeps first n v s t e h =
    ap (λ (r : Result Rows Excess). after r (without_later keeps first n)) (sym h ∙ ap (λ (w : ℕ). without_one keeps w s) e)

pub loop-left-preserved : goal.loop-left-preserved
loop-left-preserved c =
    let keeps = stays_at c.args.seats.now c.args.kept.now in
    let first = c.args.seats.now.params + c.args.level in
    let i = c.loop-left.invariant in
    record {
      vars = c.in_ok-eliminate_one.ensures.vars ∙ i.vars;
      within = omega (arith, i.within, c.in_ok-eliminate_one.ensures.vars);
      from = omega (arith, c.loop-left-test.true);
      made = λ n h. step keeps first n (c.loop-left.left - 1) c.loop-left.system c.eliminate_one.new.system (sym h) c.in_ok-eliminate_one.ensures.made
          ∙ i.made (suc n) (omega (arith, h, c.loop-left-test.true));
    }

pub returns-clause-made : goal.returns-clause-made
returns-clause-made c =
    let i = c.loop-left.invariant in
    sym (i.made 0 (omega (arith, i.from, c.loop-left-test.false)))
