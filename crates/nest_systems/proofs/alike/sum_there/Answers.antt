use Rattle.std.proofs.Common.{rules, ◌≡◌, ◌+◌, get_or, true, false, sym, ◌∙◌, ◌+ℤ◌, refl, to_z, of_z}
use Rattle.std.proofs.lemmas.Int.{to_z-of_z}
use mir.Val.{SFits}
use mir.Syntax.{w128}
use Rattle.std.specs.Prelude.{None}
use Rattle.nest_core.specs.Numbers.{is_small}
use Rattle.nest_systems.specs.Sums.{number_at}
use Rattle.nest_systems.specs.Spans.{is_there}
use Rattle.nest_systems.proofs.Totals.{rest-begins, rest-ends, rest-small, rest-large, rest-other}
use Rattle.nest_systems.proofs.alike.sum_there.Goals as goal
use Rattle.nest_systems.proofs.alike.sum_there.Goals.{then-is_there+else-not-is_small, else-is_there}

pub loop-i-init : goal.loop-i-init
loop-i-init c = rw c.zero-total.ensures (record { room = search rules; sum = rest-begins c.args.first c.args.there.now c.args.var c.args.coefs.now })

pub returns-then-not-is_small : goal.returns-then-not-is_small
returns-then-not-is_small c =
    let o = get_or c.args.there.now c.loop-i.i None in
    let e : is_there c.args.var o ≡ true = search rules in
    let f : SFits w128 c.number_at-number.result = search rules in
    let n : to_z w128 (of_z w128 c.number_at-number.result) ≡ number_at c.args.coefs.now (c.args.first + c.loop-i.i) = to_z-of_z w128 _ f ∙ c.number_at-number.ensures in
    let s : is_small (number_at c.args.coefs.now (c.args.first + c.loop-i.i)) ≡ false = sym (rw n at c.if-not-is_small.ensures) in
    sym (rest-large c.args.first c.args.there.now c.args.var c.args.coefs.now c.loop-i.i c.loop-i-test.true o refl c.loop-i.total e s) ∙ c.loop-i.invariant.sum

pub loop-i-preserved : goal.loop-i-preserved
loop-i-preserved c =
    elim c.if-is_there.branch [
      | then-is_there+else-not-is_small w ↦
          let e : is_there c.args.var (get_or c.args.there.now c.loop-i.i None) ≡ true = search rules in
          let f : SFits w128 w.number_at-number.result = search rules in
          let n : to_z w128 (of_z w128 w.number_at-number.result) ≡ number_at c.args.coefs.now (c.args.first + c.loop-i.i) = to_z-of_z w128 _ f ∙ w.number_at-number.ensures in
          let s : is_small (number_at c.args.coefs.now (c.args.first + c.loop-i.i)) ≡ true = sym (rw n at w.if-not-is_small.ensures) in
          let t : c.if-is_there.total ≡ c.loop-i.total +ℤ number_at c.args.coefs.now (c.args.first + c.loop-i.i) = w.total-is ∙ rw n at w.add.ensures in
          rw t (record {
            room = search rules;
            sum = sym (rest-small c.args.first c.args.there.now c.args.var c.args.coefs.now c.loop-i.i c.loop-i-test.true (get_or c.args.there.now c.loop-i.i None) refl c.loop-i.total e s) ∙ c.loop-i.invariant.sum;
          })
      | else-is_there w ↦
          let e : is_there c.args.var (get_or c.args.there.now c.loop-i.i None) ≡ false = sym w.if-is_there.ensures in
          rw w.total-is (record {
            room = search rules;
            sum = sym (rest-other c.args.first c.args.there.now c.args.var c.args.coefs.now c.loop-i.i c.loop-i-test.true (get_or c.args.there.now c.loop-i.i None) refl c.loop-i.total e) ∙ c.loop-i.invariant.sum;
          })
    ]

pub returns : goal.returns
returns c = c.number.ensures ∙ sym (rest-ends c.args.first c.args.there.now c.args.var c.args.coefs.now c.loop-i.i c.loop-i.total (search rules)) ∙ c.loop-i.invariant.sum
