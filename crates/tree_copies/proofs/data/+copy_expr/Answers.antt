use Rattle.std.proofs.Common.{rules, ◌≡◌, ◌++◌, [], ◌∷◌}
use Rattle.tree_copies.specs.Operations.{applied, operation_of, right_of}
use Rattle.tree_copies.proofs.Linking.{begin, up, end, of_last}
use Rattle.tree_copies.proofs.data.+copy_expr.Goals as goal

pub loop-link-init : goal.loop-link-init
loop-link-init t c = record { same = begin applied operation_of right_of _ _ _ _ c.in_ok-whole.ensures c.in_ok-first.ensures.whole; smaller = c.in_ok-first.ensures.smaller }

pub loop-link-preserved : goal.loop-link-preserved
loop-link-preserved t c =
    let last : c.loop-link.links.items ≡ c.pop.new.self.items ++ c.in-Some.link ∷ [] = search (rules) in
    let smaller = of_last _ _ _ _ last c.loop-link.invariant.smaller in
    record {
      same = up applied operation_of right_of _ _ c.in-Some.link _ _ _ _ last c.in_ok-right.ensures c.in_ok-whole-2.ensures c.loop-link.invariant.same;
      smaller = smaller.1;
    }

pub returns : goal.returns
returns t c =
    let none : c.loop-link.links.items ≡ [] = search (rules) in
    end applied operation_of right_of _ _ _ none c.loop-link.invariant.same
