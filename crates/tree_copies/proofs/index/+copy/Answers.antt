use Rattle.std.proofs.Common.{rules, ◌≡◌, ◌++◌, [], ◌∷◌}
use Rattle.tree_copies.specs.Sums.{applied, sign_of, part_of}
use Rattle.tree_copies.proofs.Linking.{begin, up, end, of_last}
use Rattle.tree_copies.proofs.index.+copy.Goals as goal

pub copy_sum-loop-summand-init : goal.copy_sum-loop-summand-init
copy_sum-loop-summand-init t c = record { same = begin applied sign_of part_of _ _ _ _ c.in_ok-whole.ensures c.in_ok-first.ensures.whole; parts = c.in_ok-first.ensures.behind }

pub copy_sum-loop-summand-preserved : goal.copy_sum-loop-summand-preserved
copy_sum-loop-summand-preserved t c =
    let last : c.loop-summand.behind.items ≡ c.pop.new.self.items ++ c.in-Some.summand ∷ [] = search (rules) in
    let parts = of_last _ _ _ _ last c.loop-summand.invariant.parts in
    record {
      same = up applied sign_of part_of _ _ c.in-Some.summand _ _ _ _ last c.in_ok-part.ensures c.in_ok-whole-2.ensures c.loop-summand.invariant.same;
      parts = parts.1;
    }

pub copy_sum-returns : goal.copy_sum-returns
copy_sum-returns t c =
    let none : c.loop-summand.behind.items ≡ [] = search (rules) in
    end applied sign_of part_of _ _ _ none c.loop-summand.invariant.same
