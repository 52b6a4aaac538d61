use Rattle.std.proofs.Common.{◌∙◌, ap}
use Rattle.chill_base.specs.contracts.name.NamePartialEq.TheImpl.{eq-value}
use Rattle.indexmap.proofs.CallerLemmas.{insert_entry-new}
use Rattle.c_judge.specs.Names.{find, enter}
use Rattle.c_judge.proofs.NameEq.{lookup_is}
use Rattle.c_judge.proofs.scope.Scope.enter.Goals as goal

pub returns : goal.returns
unfolding find
returns c =
    c.in_ok-insert.ensures.entries
    ∙ insert_entry-new eq-value.it c.self.inside.map c.args.name c.args.meaning (lookup_is c.args.name c.self.inside.map.entries ∙ ap (λ names. find names c.args.name) c.self.view_is ∙ c.requires)
    ∙ ap (λ names. enter names c.args.name c.args.meaning) c.self.view_is
