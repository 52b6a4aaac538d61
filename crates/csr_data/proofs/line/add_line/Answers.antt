use Rattle.std.proofs.Common.{◌≡◌, [], sym, ap, ◌∙◌, subst}
use Rattle.csr_data.specs.declared.parts.Wanted.{Wanted}
use Rattle.csr_data.specs.Lines.{judged, shape_of_due}
use Rattle.csr_data.specs.Reading.{Says}
use Rattle.csr_data.specs.Wanted.{due_of, given_of}
use Rattle.csr_data.proofs.line.add_line.Goals as goal

pub returns-in-Array-clause-says : goal.returns-in-Array-clause-says
returns-in-Array-clause-says c =
    let v = c.args.values.now in
    subst (λ (w : Wanted). Says c.add_array.result (judged c.args.number (due_of w) (given_of v) c.args.found c.args.cells []) (given_of (record { params = v.params; arrays = c.add_array.new.arrays }))) (sym c.in-Array.is)
    (c.add_array.ensures.says c.args.number v.params.items (c.requires.shape ∙ ap (λ (w : Wanted). shape_of_due (due_of w) v.params.items) c.in-Array.is))
