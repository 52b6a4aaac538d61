use Rattle.std.proofs.Common.{◌≡◌, ◌+◌, ◌*◌, drop}
use Rattle.std.specs.List.{list_any}
use Rattle.nest_core.specs.Terms.{any_term, names}
use Rattle.nest_core.proofs.terms.+terms.Given as goal

abbrev pub decreases-names : goal.decreases-names
decreases-names l = 3 * l.deep

abbrev pub decreases-names_inside : goal.decreases-names_inside
decreases-names_inside l = 3 * l.deep + 2

abbrev pub decreases-any_names : goal.decreases-any_names
decreases-any_names l = 3 * l.deep + 1

abbrev pub invariant-names_inside-loop-i : goal.invariant-names_inside-loop-i
invariant-names_inside-loop-i l =
    any_term (λ t. list_any (names l.first l.terms l.var l.deep) t.at) l.form.coefs (l.first + l.i) (drop l.i l.terms)
    ≡ any_term (λ t. list_any (names l.first l.terms l.var l.deep) t.at) l.form.coefs l.first l.terms

abbrev pub invariant-any_names-loop-form : goal.invariant-any_names-loop-form
invariant-any_names-loop-form l = list_any (names l.first l.terms l.var l.deep) (drop l.form-index l.forms) ≡ list_any (names l.first l.terms l.var l.deep) l.forms
