use Rattle.std.proofs.Common.{◌∙◌, ap}
use Rattle.c_judge.specs.Names.{find}
use Rattle.c_judge.proofs.NameEq.{lookup_is}
use Rattle.c_judge.proofs.scope.Scope.find.Goals as goal

pub returns : goal.returns
unfolding find
returns c =
    c.copied.ensures ∙ c.get.ensures.value ∙ lookup_is c.args.name c.self.inside.map.entries ∙ ap (λ names. find names c.args.name) c.self.view_is
