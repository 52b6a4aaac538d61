use Rattle.std.proofs.Common.{rules, ◌≡◌, ◌∙◌, ap, sym, length}
use Rattle.int_rows.specs.Systems.{Rows}
use Rattle.int_sets.proofs.Unpacking.{length-unpacked}
use Rattle.int_sets.proofs.packed.PackedRows.len.Goals as goal

pub returns : goal.returns
returns c =
    let k : c.len.result ≡ length c.self.inside.kinds.items = search (rules, c.len.ensures) in
    k ∙ sym (length-unpacked c.self.inside.vars c.self.inside.kinds.items c.self.inside.numbers.items) ∙ ap (λ (t : Rows). length t.rows) c.self.view_is
