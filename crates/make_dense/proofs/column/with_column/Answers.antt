use Rattle.std.proofs.Common.{◌≡◌, length}
use Rattle.nest_core.specs.Shapes.{vars_of}
use Rattle.make_dense.proofs.Densed.{images-count, images-vars, images-room, cells-shaped}
use Rattle.make_dense.proofs.column.with_column.Goals as goal

pub image_access-requires-clause-room : goal.image_access-requires-clause-room
image_access-requires-clause-room c = rw c.in_ok-images.ensures (images-room (length c.args.head.now.params) c.args.nest c.args.level c.args.column)

pub image_access-requires-clause-access : goal.image_access-requires-clause-access
image_access-requires-clause-access c = rw (c.in_ok-images.ensures, images-count (length c.args.head.now.params) c.args.nest c.args.level c.args.column) c.requires.shaped.target

pub image_body-requires-clause-room : goal.image_body-requires-clause-room
image_body-requires-clause-room c = rw c.in_ok-images.ensures (images-room (length c.args.head.now.params) c.args.nest c.args.level c.args.column)

pub image_body-requires-clause-body : goal.image_body-requires-clause-body
image_body-requires-clause-body c = rw (c.in_ok-images.ensures, images-count (length c.args.head.now.params) c.args.nest c.args.level c.args.column) c.requires.shaped.value

pub returns-clause-shaped : goal.returns-clause-shaped
returns-clause-shaped c =
    let v : c.in_ok-images.images.vars ≡ vars_of (length c.args.head.now.params) c.args.nest = rw c.in_ok-images.ensures (images-vars (length c.args.head.now.params) c.args.nest c.args.level c.args.column) in
    cells-shaped c.args.head.now c.args.nest _ _ c.requires.shaped (rw v at c.in_ok-target.ensures.over) (rw v at c.in_ok-value.ensures.over)
