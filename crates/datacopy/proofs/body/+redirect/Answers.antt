use Rattle.std.proofs.Common.{rules, ◌≡◌, ◌++◌, ◌∷◌, []}
use Rattle.nest_core.proofs.Chains.{of_last}
use Rattle.nest_core.proofs.Along.{chain_over}
use Rattle.datacopy.proofs.Linking.{over_applied, chain_read}
use Rattle.datacopy.proofs.body.+redirect.Goals as goal

pub redirect_leaf-requires-clause-width : goal.redirect_leaf-requires-clause-width
redirect_leaf-requires-clause-width t c =
    let o = chain_over _ _ _ _ c.in_ok-first.ensures.whole c.requires.width in
    o.0

pub redirect_leaf-requires-clause-dims : goal.redirect_leaf-requires-clause-dims
redirect_leaf-requires-clause-dims t c =
    let d = chain_read _ _ _ _ _ c.in_ok-first.ensures.whole c.requires.dims in
    d.0

pub loop-link-init : goal.loop-link-init
loop-link-init t c =
    let o = chain_over _ _ _ _ c.in_ok-first.ensures.whole c.requires.width in
    let d = chain_read _ _ _ _ _ c.in_ok-first.ensures.whole c.requires.dims in
    record {
      made = c.in_ok-whole.ensures;
      smaller = c.in_ok-first.ensures.smaller;
      over = o.1;
      dims = d.1;
    }

pub loop-link-preserved : goal.loop-link-preserved
loop-link-preserved t c =
    let last : c.loop-link.links.items ≡ c.pop.new.self.items ++ c.in-Some.link ∷ [] = search (rules) in
    let smaller = of_last _ _ _ _ last c.loop-link.invariant.smaller in
    let over = of_last _ _ _ _ last c.loop-link.invariant.over in
    let dims = of_last _ _ _ _ last c.loop-link.invariant.dims in
    record {
      made = over_applied _ _ _ _ _ c.in_ok-whole-2.ensures c.loop-link.invariant.made c.in_ok-right.ensures;
      smaller = smaller.1;
      over = over.1;
      dims = dims.1;
    }
