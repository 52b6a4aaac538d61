use Rattle.std.proofs.Common.{sym, ap, ◌∙◌}
use Rattle.nest_tree.specs.declared.body.Access.{Access}
use Rattle.nest_tree.specs.declared.body.Body.TheVariants.{At}
use Rattle.nest_core.specs.Chains.{leaf_body}
use Rattle.pad_layouts.proofs.Padding.{suits-At, padded-Const, padded-At}
use Rattle.pad_layouts.proofs.body.padded_leaf.Goals as goal

pub padded_access-requires : goal.padded_access-requires
padded_access-requires c = suits-At _ _ _ (ap leaf_body c.in-Cell.is) c.requires

pub returns-in-Number : goal.returns-in-Number
returns-in-Number c = sym (padded-Const _ _ _ _ _ (ap leaf_body c.in-Number.is))

pub returns-in_ok-padded_access-in-Cell : goal.returns-in_ok-padded_access-in-Cell
returns-in_ok-padded_access-in-Cell c = ap (λ (a : Access). At a) c.in_ok-padded_access-in-Cell.ensures ∙ sym (padded-At _ _ _ _ _ (ap leaf_body c.in-Cell.is))
