use Rattle.std.proofs.Common.{◌≡◌, length, ap, ◌∙◌, inl, inr, arith, List}
use Rattle.int_rows.specs.declared.row.Row.{Row}
use Rattle.nest_systems.specs.Extending.{extended}
use Rattle.depend_test.proofs.Carrying.{accesses-nothing, accesses-alone, accesses-answer}
use Rattle.depend_test.proofs.first.first_of_pieces.Goals as goal

pub returns-then-len-eq0 : goal.returns-then-len-eq0
returns-then-len-eq0 c =
    let z : length c.args.orders.now.old ≡ 0 = omega arith in
    accesses-nothing c.args.kernel.now c.args.a.now c.args.b.now c.args.orders.now c.args.first.now c.args.second.now (inl z)

pub returns-then-len-eq0-2 : goal.returns-then-len-eq0-2
returns-then-len-eq0-2 c =
    let z : length c.args.orders.now.new ≡ 0 = omega arith in
    accesses-nothing c.args.kernel.now c.args.a.now c.args.b.now c.args.orders.now c.args.first.now c.args.second.now (inr z)

pub returns-then-branch : goal.returns-then-branch
returns-then-branch c =
    accesses-alone c.args.kernel.now c.args.a.now c.args.b.now c.args.orders.now c.args.first.now c.args.second.now
    (record { pair = c.in_ok-pair.pair; equal = c.in_ok-rows.rows; is_pair = c.in_ok-pair.ensures.pair; are_equal = c.in_ok-rows.ensures.value })
    (rw c.as_slice-equal.ensures at (c.in_ok-any_impossible.ensures c.if-branch.true))

pub returns : goal.returns
returns c =
    accesses-answer c.args.kernel.now c.args.a.now c.args.b.now c.args.orders.now c.args.first.now c.args.second.now
    (record { pair = c.in_ok-pair.pair; equal = c.in_ok-rows.rows; is_pair = c.in_ok-pair.ensures.pair; are_equal = c.in_ok-rows.ensures.value })
    c.in_ok-system.system _ (c.in_ok-system.ensures.value ∙ ap (λ (xs : List Row). extended c.in_ok-pair.pair.system xs) c.as_slice-equal.ensures) c.first_carried.ensures
