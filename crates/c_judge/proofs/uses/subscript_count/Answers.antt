use Rattle.std.proofs.Common.{ap, ◌∙◌}
use Rattle.c_judge.specs.Uses.{Inside, inside}
use Rattle.c_judge.proofs.UsesAt.{at_one, at_two, at_three}
use Rattle.c_judge.proofs.uses.subscript_count.Goals as goal

pub returns-in-One : goal.returns-in-One
returns-in-One c = λ r names. ap (λ (i : Inside). i.count) (ap (inside r names) c.in-One.is ∙ at_one r names c.in-One.field-0)

pub returns-in-Two : goal.returns-in-Two
returns-in-Two c = λ r names. ap (λ (i : Inside). i.count) (ap (inside r names) c.in-Two.is ∙ at_two r names c.in-Two.field-0 c.in-Two.field-1)

pub returns-in-Three : goal.returns-in-Three
returns-in-Three c = λ r names. ap (λ (i : Inside). i.count) (ap (inside r names) c.in-Three.is ∙ at_three r names c.in-Three.field-0 c.in-Three.field-1 c.in-Three.field-2)
