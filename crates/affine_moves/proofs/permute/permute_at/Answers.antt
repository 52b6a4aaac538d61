use Rattle.std.proofs.Common.{◌∙◌}
use Rattle.affine_moves.proofs.Suiting.{permute-suits}
use Rattle.affine_moves.proofs.permute.permute_at.Goals as goal

pub make_moves-requires-clause-suits : goal.make_moves-requires-clause-suits
make_moves-requires-clause-suits c =
    let e = rw c.as_slice-nests.ensures at c.in_default.ensures in
    let a = rw (c.as_slice-nests.ensures, c.first_moving-first.ensures) at c.in_ok-applies.ensures in
    rw (c.in_ok-change.ensures, a) (permute-suits c.args.kernel.now.head _ c.args.nest.now c.args.order.now c.requires.nests e (λ z. c.if-first-eq0.false (c.first_moving-first.ensures ∙ z)))
