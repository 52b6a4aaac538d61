use Rattle.std.proofs.Common.{◌≡◌, ◌∙◌, ◌<◌, length, rules}
use Rattle.nest_core.proofs.Counting.{counted-none, counted-init, counted-step}
use Rattle.nest_core.proofs.order.number.Goals as goal

pub returns-then-is_empty : goal.returns-then-is_empty
returns-then-is_empty c = let z : length c.args.nests.now.items ≡ 0 = search rules in counted-none _ z

pub loop-i-init : goal.loop-i-init
loop-i-init c =
    let some : 0 < length c.args.nests.now.items = search rules in
    counted-init _ c.index.result.now c.index_mut.result.now _ _ _ _ some c.index.ensures c.index_mut.ensures.value (rw c.len.ensures at c.in_ok-before.ensures)
    (c.in_ok-first.ensures ∙ c.as_slice.ensures) c.put_at-old.ensures.new c.put_at-old.ensures.old c.requires

pub loop-i-preserved : goal.loop-i-preserved
loop-i-preserved c =
    let within : c.loop-i.i < length c.loop-i.nests.items = search rules in
    let next = rw (c.as_slice-in-loop-i.ensures, c.as_slice-in-loop-i-2.ensures, c.as_slice-at.ensures) at c.in_ok-next.ensures in
    counted-step _ _ _ _ _ c.index-in-loop-i.result.now c.index_mut-in-loop-i.result.now _ _ _ _ within c.index-in-loop-i.ensures c.index_mut-in-loop-i.ensures.value next
    (c.in_ok-before-2.ensures ∙ c.as_slice-in-loop-i-3.ensures) c.put_at-old-in-loop-i.ensures.new c.put_at-old-in-loop-i.ensures.old c.loop-i.invariant
