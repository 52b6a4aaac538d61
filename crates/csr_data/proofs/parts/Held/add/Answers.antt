use Rattle.std.proofs.Common.{◌+◌, ◌∙◌, ap, arith}
use Rattle.csr_data.specs.Parameters.{names_of}
use Rattle.csr_data.specs.Lines.{shape_at}
use Rattle.csr_data.proofs.Dues.{names_next, shape_is}
use Rattle.csr_data.proofs.parts.Held.add.Goals as goal

pub add_line-requires-clause-shape : goal.add_line-requires-clause-shape
add_line-requires-clause-shape c =
    let h = c.args.self.now in h.extents ∙ shape_is h.program.now h.values.params.items h.lines _ _ c.requires.about.due

pub shape_behind-self-requires-clause-names : goal.shape_behind-self-requires-clause-names
shape_behind-self-requires-clause-names c =
    let h = c.args.self.now in ap names_of c.as_slice.ensures.value ∙ names_next h.program.now h.lines _ _ _ _ c.requires.about.due h.names c.in-Ok.ensures.names

pub invariant_of-self-clause-few : goal.invariant_of-self-clause-few
invariant_of-self-clause-few c = let h = c.args.self.now in let less = h.line_is_open c.requires.about.begun in omega (arith, less)

pub invariant_of-self-clause-names : goal.invariant_of-self-clause-names
invariant_of-self-clause-names c = let h = c.args.self.now in names_next h.program.now h.lines _ _ _ _ c.requires.about.due h.names c.in-Ok.ensures.names

pub invariant_of-self-clause-extents : goal.invariant_of-self-clause-extents
invariant_of-self-clause-extents c = let h = c.args.self.now in c.shape_behind-self.ensures ∙ ap (λ vs. shape_at h.program.now vs (h.lines + 1)) c.as_slice.ensures.value

pub invariant_of-self-clause-parameters : goal.invariant_of-self-clause-parameters
invariant_of-self-clause-parameters c = c.in-Ok.ensures.small c.args.self.now.parameters
