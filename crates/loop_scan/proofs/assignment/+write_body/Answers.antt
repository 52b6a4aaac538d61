use Rattle.std.proofs.Common.{rules, ◌≡◌, ◌++◌, [], ◌∷◌}
use Rattle.nest_core.proofs.Chains.{of_last}
use Rattle.nest_core.proofs.Along.{chain_over}
use Rattle.loop_scan.proofs.assignment.+write_body.Goals as goal

pub write_leaf-requires-clause-leaf : goal.write_leaf-requires-clause-leaf
write_leaf-requires-clause-leaf t c =
    let o = chain_over _ _ _ _ c.in_ok-first.ensures.whole c.requires.body in
    o.0

pub loop-link-init : goal.loop-link-init
loop-link-init t c =
    let o = chain_over _ _ _ _ c.in_ok-first.ensures.whole c.requires.body in
    record { smaller = c.in_ok-first.ensures.smaller; over = o.1 }

pub loop-link-preserved : goal.loop-link-preserved
loop-link-preserved t c =
    let last : c.loop-link.links.items ≡ c.pop.new.self.items ++ c.in-Some.link ∷ [] = search (rules) in
    let smaller = of_last _ _ _ _ last c.loop-link.invariant.smaller in
    let over = of_last _ _ _ _ last c.loop-link.invariant.over in
    record { smaller = smaller.1; over = over.1 }
