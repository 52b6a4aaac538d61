use Rattle.std.proofs.Common.{sym, ◌∙◌, ap, List}
use Rattle.nest_tree.specs.declared.kernel.Nest.{Nest}
use Rattle.nest_core.specs.Order.{in_text_order, placed_each}
use Rattle.nest_core.proofs.Placing.{placed_each-append}
use Rattle.nest_core.proofs.order.in_text_order.Goals as goal

pub loop-nest-preserved : goal.loop-nest-preserved
loop-nest-preserved c =
    let place = rw c.as_slice.ensures.value at c.place_in-place.ensures.place in
    ap (placed_each c.pop.new.self) (c.in_ok-insert.ensures.items ∙ place)
    ∙ sym (placed_each-append c.pop.new.self c.in-Some.nest c.loop-nest.ordered.items)
    ∙ ap (λ (ns : List Nest). placed_each ns c.loop-nest.ordered.items) (sym c.in-Some.ensures)
    ∙ c.loop-nest.invariant

pub returns : goal.returns
unfolding in_text_order
returns c = ap (λ (ns : List Nest). placed_each ns c.loop-nest.ordered.items) (sym c.in_default.ensures.0) ∙ c.loop-nest.invariant
