use Rattle.std.proofs.Common.{rules, ◌≡◌, ◌++◌, [], ◌∷◌}
use Rattle.nest_core.proofs.Chains.{of_last}
use Rattle.one_statement.proofs.Linking.{copy_init, copy_step, copy_end}
use Rattle.one_statement.proofs.copies.+copy_body.Goals as goal

pub loop-link-init : goal.loop-link-init
loop-link-init t c = record { same = copy_init _ _ _ _ c.in_ok-whole.ensures c.in_ok-first.ensures.whole; smaller = c.in_ok-first.ensures.smaller }

pub loop-link-preserved : goal.loop-link-preserved
loop-link-preserved t c =
    let last : c.loop-link.links.items ≡ c.pop.new.self.items ++ c.in-Some.link ∷ [] = search (rules) in
    let smaller = of_last _ _ _ _ last c.loop-link.invariant.smaller in
    record {
      same = copy_step _ _ c.in-Some.link _ _ _ _ last c.in_ok-right.ensures c.in_ok-whole-2.ensures c.loop-link.invariant.same;
      smaller = smaller.1;
    }

pub returns : goal.returns
returns t c =
    let none : c.loop-link.links.items ≡ [] = search (rules) in
    copy_end _ _ _ none c.loop-link.invariant.same
