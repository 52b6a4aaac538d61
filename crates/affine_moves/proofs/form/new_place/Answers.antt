use Rattle.affine_moves.proofs.Places.{place_of-below}
use Rattle.affine_moves.proofs.form.new_place.Goals as goal

pub returns-clause-within : goal.returns-clause-within
returns-clause-within c = rw c.place_of.ensures (place_of-below c.args.change.now c.args.depth c.args.level c.requires.suits c.requires.level)
