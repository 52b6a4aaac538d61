use Rattle.std.proofs.Common.{rules, ◌≡◌, ◌∙◌, ap, length, get_or, set, pos, ℤ, to_z, of_z, List}
use Rattle.std.proofs.lemmas.Int.{to_z-of_z}
use mir.Val.{SFits}
use mir.Syntax.{w128}
use Rattle.std.proofs.lemmas.List.{length-set}
use Rattle.nest_systems.proofs.Raising.{raised-more, raised_number}
use Rattle.nest_systems.proofs.extent.add_at.Goals as goal

pub loop-var-preserved : goal.loop-var-preserved
loop-var-preserved c = record {
  width = ap length c.set.ensures ∙ length-set c.loop-var.coefs c.loop-var.var _ ∙ c.loop-var.invariant.width;
  value =
      let z = to_z w128 (of_z w128 c.args.times) in
      let r : SFits w128 c.add_if.result = search rules in
      let g : SFits w128 (get_or c.loop-var.coefs c.loop-var.var (pos 0)) = search rules in
      let n : c.add_if.result ≡ raised_number c.index-params-var.result c.args.name z (get_or c.loop-var.coefs c.loop-var.var (pos 0)) = rw (c.as_slice.ensures, c.is_name.ensures, to_z-of_z w128 _ g) at c.add_if.ensures in
      let e = c.set.ensures ∙ ap (set c.loop-var.coefs c.loop-var.var) (to_z-of_z w128 _ r ∙ n) in
      let f = ap (λ (xs : List ℤ). set xs c.loop-var.var (raised_number c.index-params-var.result c.args.name z (get_or xs c.loop-var.var (pos 0)))) c.loop-var.invariant.value in
      e ∙ f ∙ raised-more c.args.params.now c.args.name z c.args.coefs.now c.loop-var.var c.index-params-var.result c.loop-var-test.true c.requires c.index-params-var.is;
}
