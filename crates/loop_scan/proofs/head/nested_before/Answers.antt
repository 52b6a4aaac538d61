use Rattle.std.proofs.Common.{List, ap, sym, ◌∙◌}
use Rattle.c_tree.specs.declared.index.Index.{Index}
use Rattle.loop_scan.specs.Nested.{nested_before}
use Rattle.loop_scan.proofs.Nesting.{before-more}
use Rattle.loop_scan.proofs.head.nested_before.Goals as goal

pub loop-tree-preserved : goal.loop-tree-preserved
loop-tree-preserved c =
    let g = c.args.greatest in
    let rest = c.pop.new.self in
    ap (λ (e : Index). nested_before g rest e) c.in_ok-all.ensures
    ∙ (sym (before-more g rest c.in-Some.tree c.loop-tree.all)
    ∙ (sym (ap (λ (ts : List Index). nested_before g ts c.loop-tree.all) c.in-Some.ensures)
    ∙ c.loop-tree.invariant))
