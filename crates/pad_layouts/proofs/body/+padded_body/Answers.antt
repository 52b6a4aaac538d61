use Rattle.std.proofs.Common.{rules, ◌≡◌, ◌++◌, [], ◌∷◌}
use Rattle.nest_core.proofs.Chains.{of_last}
use Rattle.pad_layouts.proofs.Linking.{padded_init, padded_step, padded_end, chain_suits}
use Rattle.pad_layouts.proofs.body.+padded_body.Goals as goal

pub padded_leaf-requires : goal.padded_leaf-requires
padded_leaf-requires t c =
    let o = chain_suits _ _ _ _ c.in_ok-first.ensures.whole c.requires in
    o.0

pub loop-link-init : goal.loop-link-init
loop-link-init t c =
    let o = chain_suits _ _ _ _ c.in_ok-first.ensures.whole c.requires in
    record {
      padded = padded_init _ _ _ _ _ _ _ c.in_ok-first.ensures.whole c.in_ok-whole.ensures;
      smaller = c.in_ok-first.ensures.smaller;
      suits = o.1;
    }

pub loop-link-preserved : goal.loop-link-preserved
loop-link-preserved t c =
    let last : c.loop-link.links.items ≡ c.pop.new.self.items ++ c.in-Some.link ∷ [] = search (rules) in
    let smaller = of_last _ _ _ _ last c.loop-link.invariant.smaller in
    let suits = of_last _ _ _ _ last c.loop-link.invariant.suits in
    record {
      padded = padded_step _ _ _ _ _ c.in-Some.link _ _ _ _ last c.in_ok-right.ensures c.in_ok-whole-2.ensures c.loop-link.invariant.padded;
      smaller = smaller.1;
      suits = suits.1;
    }

pub returns : goal.returns
returns t c =
    let none : c.loop-link.links.items ≡ [] = search (rules) in
    padded_end _ _ _ _ _ _ none c.loop-link.invariant.padded
