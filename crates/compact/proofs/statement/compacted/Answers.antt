use Rattle.std.proofs.Common.{ℕ, length, sym, subst}
use Rattle.nest_tree.specs.declared.kernel.Nest.{Nest}
use Rattle.nest_core.specs.Shapes.{IsShapedNest}
use Rattle.compact.specs.Statement.{AreParts}
use Rattle.compact.proofs.Assembled.{assembled-shaped}
use Rattle.compact.proofs.statement.compacted.Goals as goal

pub returns-clause-shaped : goal.returns-clause-shaped
returns-clause-shaped c =
    let n = c.args.nest.now in
    let p = c.in_ok-parts.parts in
    let F : Nest → Type 0 = λ m. IsShapedNest c.args.head.now m in
    let G : ℕ → Type 0 = λ vars. AreParts vars (length n.levels) (length n.terms) p in
    let of = c.counts_of-counts.ensures in
    subst F (sym c.in_ok-assemble.ensures)
    (assembled-shaped c.args.head.now c.counts_of-counts.result c.args.group c.args.names.now n p of.counts of.of c.requires.shaped (subst G c.in_ok-images.ensures.images.vars c.in_ok-parts.ensures.parts))
