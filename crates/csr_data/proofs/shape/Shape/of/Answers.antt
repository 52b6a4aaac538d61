use Rattle.std.proofs.Common.{refl, arith}
use Rattle.std.proofs.lemmas.Int.{to_z-of_z}
use Rattle.csr_data.proofs.Extents.{have_values, three_extents_are}
use Rattle.csr_data.specs.Parameters.{Gives, names_of}
use Rattle.csr_data.proofs.shape.Shape.of.Goals as goal

pub returns : goal.returns
returns c =
    let ps = c.args.params.now in
    let gives : Gives (names_of ps) ps = record { names = refl; small = c.requires.small } in
    let all = have_values (names_of ps) ps gives c.args.extents.now c.requires.extents in
    let a = c.extent_or_one.ensures.value all.0 all.1 in
    let b = c.extent_or_one-2.ensures.value all.0 all.1 in
    let d = c.extent_or_one-3.ensures.value all.0 all.1 in
    three_extents_are c.args.extents.now _ all.0 all.1 _ _ _ (grind (arith, to_z-of_z, a)) (grind (arith, to_z-of_z, b)) (grind (arith, to_z-of_z, d))
