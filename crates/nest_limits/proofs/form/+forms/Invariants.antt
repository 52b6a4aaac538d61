use Rattle.std.proofs.Common.{◌≡◌, ◌+◌, ◌*◌, drop}
use Rattle.std.specs.List.{list_all}
use Rattle.nest_limits.specs.Brackets.{all_held, term_fits, form_fits}
use Rattle.nest_limits.proofs.form.+forms.Given as goal

abbrev pub decreases-form_fits : goal.decreases-form_fits
decreases-form_fits l = 3 * l.room + 1

abbrev pub decreases-term_fits : goal.decreases-term_fits
decreases-term_fits l = 3 * l.room

abbrev pub decreases-forms_fit : goal.decreases-forms_fit
decreases-forms_fit l = 3 * l.room + 2

abbrev pub invariant-form_fits-loop-i : goal.invariant-form_fits-loop-i
invariant-form_fits-loop-i l = all_held (term_fits l.first l.terms l.room) l.form.coefs (l.first + l.i) (drop l.i l.terms) ≡ all_held (term_fits l.first l.terms l.room) l.form.coefs l.first l.terms

abbrev pub invariant-forms_fit-loop-form : goal.invariant-forms_fit-loop-form
invariant-forms_fit-loop-form l = list_all (form_fits l.first l.terms l.room) (drop l.form-index l.forms) ≡ list_all (form_fits l.first l.terms l.room) l.forms
