use Rattle.std.proofs.Common.{ap, sym, ◌∙◌, arith}
use Rattle.scan_forms.specs.Numbers.{padded}
use Rattle.scan_forms.proofs.Padding.{padded_more, padded_whole}
use Rattle.scan_forms.proofs.affine.pad.Goals as goal

pub loop-numbers-preserved : goal.loop-numbers-preserved
loop-numbers-preserved c =
    ap (padded c.args.at) c.in_ok-push.ensures.ok ∙ (padded_more c.args.at c.loop-numbers.numbers (omega arith) ∙ c.loop-numbers.invariant)

pub returns : goal.returns
returns c = sym (padded_whole c.args.at c.loop-numbers.numbers (omega arith)) ∙ c.loop-numbers.invariant
