use Rattle.std.proofs.Common.{◌++◌, map, length, ap, ◌∙◌}
use Rattle.std.specs.List.{flat_map, range_with_len}
use Rattle.int_rows.specs.Systems.{Rows}
use Rattle.nest_systems.specs.Extending.{extended}
use Rattle.nest_systems.specs.Begun.{begun_rows, sign_row, array_rows}
use Rattle.nest_systems.proofs.Extending.{extended-twice}
use Rattle.nest_systems.proofs.system.begin_system.Goals as goal

pub returns-clause-value : goal.returns-clause-value
unfolding begun_rows
returns-clause-value c =
    let f = flat_map (array_rows c.args.head.now.params c.args.vars) c.args.head.now.arrays in
    let m = map (sign_row c.args.vars) (range_with_len 0 (length c.args.head.now.params)) in
    let p = rw c.len.ensures at c.in_ok-push_parameters.ensures.rows in
    c.in_ok-push_arrays.ensures.rows ∙ ap (λ (s : Rows). extended s f) p ∙ extended-twice c.new-system.result m f ∙ ap (λ (s : Rows). extended s (m ++ f)) c.new-system.ensures
