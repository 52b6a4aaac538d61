use Rattle.std.proofs.Common.{◌≡◌, arith, length, ◌∙◌}
use Rattle.source_check.proofs.Accepting.{counted-shaped, counted-length, counted-again}
use Rattle.source_check.proofs.source.make_nests.Goals as goal

pub returns-clause-shaped : goal.returns-clause-shaped
returns-clause-shaped c = counted-shaped _ _ _ (c.from_vec.ensures ∙ c.in_ok-number.ensures) c.loop-site.invariant.shaped

pub returns-clause-count : goal.returns-clause-count
returns-clause-count c =
    let all : length c.loop-site.nests.items ≡ length c.args.sites.now = omega arith in
    counted-length _ _ _ (c.from_vec.ensures ∙ c.in_ok-number.ensures) all

pub returns-clause-counted : goal.returns-clause-counted
returns-clause-counted c = counted-again _ _ _ (c.from_vec.ensures ∙ c.in_ok-number.ensures) c.loop-site.invariant.shaped
