use Rattle.std.proofs.Common.{◌∷◌, suc, drop, sym, ◌∙◌, ap, subst}
use Rattle.c_meaning.specs.Value.{values_of}
use Rattle.c_meaning.specs.Inputs.{three_of}
use Rattle.csr_data.specs.Signature.{AreExtents}
use Rattle.csr_data.specs.Parameters.{names_of, sight_of}
use Rattle.csr_data.specs.Lines.{dues}
use Rattle.csr_data.specs.Wanted.{due_of}
use Rattle.csr_data.proofs.Dues.{extents_at, all_names_at, shape_is, shape_none}
use Rattle.csr_data.proofs.line.shape_behind.Goals as goal

pub of-requires-clause-extents : goal.of-requires-clause-extents
of-requires-clause-extents c =
    let p = c.args.program.now in let i = c.args.lines in let a = c.in-Some-Array.array.now in
    let e = c.in-Some-Array.ensures ∙ ap (λ w. due_of w ∷ drop (suc i) (dues p)) c.in-Some-Array.field-0-is in
    let names = c.requires.names ∙ all_names_at p i a _ e in
    subst (λ es. AreExtents (names_of c.args.params.now) es) (sym c.as_slice.ensures) (subst (λ xs. AreExtents xs a.extents) (sym names) (extents_at p c.requires.signature i a _ e))

pub returns-in-Some-Array : goal.returns-in-Some-Array
returns-in-Some-Array c =
    let p = c.args.program.now in let i = c.args.lines in
    let e = c.in-Some-Array.ensures ∙ ap (λ w. due_of w ∷ drop (suc i) (dues p)) c.in-Some-Array.field-0-is in
    c.of.ensures ∙ ap (λ es. three_of (values_of es (sight_of c.args.params.now))) c.as_slice.ensures ∙ sym (shape_is p c.args.params.now i _ _ e)

pub returns-in-Some-Parameter : goal.returns-in-Some-Parameter
returns-in-Some-Parameter c =
    let p = c.args.program.now in let i = c.args.lines in
    let e = c.in-Some-Parameter.ensures ∙ ap (λ w. due_of w ∷ drop (suc i) (dues p)) c.in-Some-Parameter.field-0-is in
    c.one.ensures ∙ sym (shape_is p c.args.params.now i _ _ e)

pub returns-in-None : goal.returns-in-None
returns-in-None c = c.one-in-None.ensures ∙ sym (shape_none c.args.program.now c.args.params.now c.args.lines c.in-None.ensures)
