use Rattle.std.proofs.Common.{◌≡◌, Some, refl}
use Rattle.std.specs.List.{slice_get}
use Rattle.std.proofs.lemmas.Option.{slice_get_read}
use Rattle.depend_test.proofs.Leveling.{compact-answer}
use Rattle.depend_test.proofs.compact.first_compact_dependence.Goals as goal

pub returns : goal.returns
returns c =
    let e = rw c.as_slice-nests.ensures at c.index-nests-statement.is in
    let a : slice_get c.args.kernel.now.nests c.args.statement ≡ Some c.index-nests-statement.result = slice_get_read _ _ _ _ refl c.requires.statement e in
    compact-answer c.args.kernel.now c.args.statement c.args.level c.args.kernel.now.nests c.index-nests-statement.result c.in_ok-side.side _ a (rw c.as_slice.ensures at c.in_ok-side.ensures.same) c.first_level_dependence.ensures
