use Rattle.std.proofs.Common.{◌≡◌, ◌+◌, ◌*◌, drop}
use Rattle.std.specs.List.{list_any}
use Rattle.unroll.specs.Replaced.{any_after, names_after}
use Rattle.unroll.proofs.replaced.+after.Given as goal

abbrev pub decreases-names_after : goal.decreases-names_after
decreases-names_after l = 3 * l.deep

abbrev pub decreases-names_inside_after : goal.decreases-names_inside_after
decreases-names_inside_after l = 3 * l.deep + 2

abbrev pub decreases-any_names_after : goal.decreases-any_names_after
decreases-any_names_after l = 3 * l.deep + 1

abbrev pub invariant-names_inside_after-loop-i : goal.invariant-names_inside_after-loop-i
invariant-names_inside_after-loop-i l =
    any_after (λ t. list_any (names_after l.first l.terms l.lower l.at l.var l.deep) t.at) l.lower l.at l.form.coefs (l.first + l.i) (drop l.i l.terms)
    ≡ any_after (λ t. list_any (names_after l.first l.terms l.lower l.at l.var l.deep) t.at) l.lower l.at l.form.coefs l.first l.terms

abbrev pub invariant-any_names_after-loop-form : goal.invariant-any_names_after-loop-form
invariant-any_names_after-loop-form l = list_any (names_after l.first l.terms l.lower l.at l.var l.deep) (drop l.form-index l.forms) ≡ list_any (names_after l.first l.terms l.lower l.at l.var l.deep) l.forms
