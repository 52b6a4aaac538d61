use Rattle.std.proofs.Common.{w64, ◌*ℤ◌}
use Rattle.std.proofs.lemmas.Int.{to_z-of_z}
use Rattle.c_meaning.proofs.Products.{product_fits, product_within}
use Rattle.c_meaning.proofs.sized.product.Goals as goal

pub overflow_mul-result : goal.overflow_mul-result
overflow_mul-result c =
    rw (to_z-of_z w64 c.args.factor c.ranges.factor, to_z-of_z w64 c.args.value c.ranges.value)
    (product_fits c.args.factor c.args.value c.args.weight c.requires.covers c.requires.light)

pub returns-clause-value : goal.returns-clause-value
returns-clause-value c =
    rw (to_z-of_z w64 c.args.factor c.ranges.factor, to_z-of_z w64 c.args.value c.ranges.value)
    (to_z-of_z w64 (c.args.factor *ℤ c.args.value) (product_fits c.args.factor c.args.value c.args.weight c.requires.covers c.requires.light))

pub returns-clause-covers : goal.returns-clause-covers
returns-clause-covers c =
    rw (to_z-of_z w64 c.args.factor c.ranges.factor, to_z-of_z w64 c.args.value c.ranges.value)
    (rw (to_z-of_z w64 (c.args.factor *ℤ c.args.value) (product_fits c.args.factor c.args.value c.args.weight c.requires.covers c.requires.light))
    (product_within c.args.factor c.args.value c.args.weight c.requires.covers))
