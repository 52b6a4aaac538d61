use Rattle.std.proofs.Common.{rules, ◌≡◌, ◌++◌, [], ◌∷◌}
use Rattle.nest_core.proofs.Chains.{of_last}
use Rattle.nest_core.proofs.Along.{made_init, made_step, made_end, leaf_halt, link_halt, chain_over}
use Rattle.nest_core.proofs.rewrite.+rewrite_body.Goals as goal

pub rewrite_leaf-requires-clause-width : goal.rewrite_leaf-requires-clause-width
rewrite_leaf-requires-clause-width t c =
    let o = chain_over _ _ _ _ c.in_ok-first.ensures.whole c.requires.width in
    o.0

pub returns-in_err-whole : goal.returns-in_err-whole
returns-in_err-whole t c = leaf_halt _ _ _ _ _ _ c.in_ok-first.ensures.whole c.from_residual-in_err-whole.ensures c.in_err-whole.ensures

pub loop-link-init : goal.loop-link-init
loop-link-init t c =
    let o = chain_over _ _ _ _ c.in_ok-first.ensures.whole c.requires.width in
    record {
      made = made_init _ _ _ _ _ c.in_ok-first.ensures.whole c.in_ok-whole.ensures;
      smaller = c.in_ok-first.ensures.smaller;
      over = o.1;
    }

pub returns-in_err-right : goal.returns-in_err-right
returns-in_err-right t c =
    let last : c.loop-link.links.items ≡ c.pop.new.self.items ++ c.in-Some.link ∷ [] = search (rules) in
    link_halt _ _ _ _ _ c.in-Some.link _ _ last c.loop-link.invariant.made c.from_residual-in_err-right.ensures c.in_err-right.ensures

pub loop-link-preserved : goal.loop-link-preserved
loop-link-preserved t c =
    let last : c.loop-link.links.items ≡ c.pop.new.self.items ++ c.in-Some.link ∷ [] = search (rules) in
    let smaller = of_last _ _ _ _ last c.loop-link.invariant.smaller in
    let over = of_last _ _ _ _ last c.loop-link.invariant.over in
    record {
      made = made_step _ _ _ c.in-Some.link _ _ _ _ last c.in_ok-right.ensures c.in_ok-whole-2.ensures c.loop-link.invariant.made;
      smaller = smaller.1;
      over = over.1;
    }

pub returns : goal.returns
returns t c =
    let none : c.loop-link.links.items ≡ [] = search (rules) in
    made_end _ _ _ _ none c.loop-link.invariant.made
