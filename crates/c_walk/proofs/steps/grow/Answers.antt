use Rattle.std.proofs.Common.{rules, ◌∙◌, sym, w64, to_z, of_z, FitsSigned, unsigned_abs, get_or}
use Rattle.std.proofs.lemmas.Int.{to_z-of_z}
use Rattle.c_walk.specs.State.{state_of}
use Rattle.c_walk.proofs.Growths.{not_negative, does_growth, no_room}
use Rattle.c_walk.proofs.steps.grow.Goals as goal

pub returns-in-Ok-grow-clause-does : goal.returns-in-Ok-grow-clause-does
returns-in-Ok-grow-clause-does g c =
    let f : FitsSigned w64 c.in-Ok.count = search rules in
    does_growth c.args.place.now c.args.name.now c.args.by.now (g.M.View.sight c.args.memory.now).value
    (state_of (g.M.View.scope c.args.memory.now) (g.M.View.sight c.args.memory.now) (g.M.Memory.rest c.args.memory.now))
    (state_of (g.M.View.scope c.grow.new.self) (g.M.View.sight c.grow.new.self) (g.M.Memory.rest c.grow.new.self))
    c.in-Ok.count (unsigned_abs (to_z w64 (of_z w64 c.in-Ok.count))) (get_or c.extents.result 0 0) (get_or c.extents.result 1 0) (get_or c.extents.result 2 0)
    (sym c.eval_index.ensures ∙ c.in-Ok.is) (not_negative _ c.if-count-lt0.false ∙ to_z-of_z w64 c.in-Ok.count f) c.extents.ensures (sym c.has_room.ensures ∙ c.if-not-has_room.false) c.in-Ok-grow.ensures.grown

pub returns-in-Err-grow-clause-does : goal.returns-in-Err-grow-clause-does
returns-in-Err-grow-clause-does g c =
    let f : FitsSigned w64 c.in-Ok.count = search rules in
    no_room c.args.place.now c.args.name.now c.args.by.now (g.M.View.sight c.args.memory.now).value
    (state_of (g.M.View.scope c.args.memory.now) (g.M.View.sight c.args.memory.now) (g.M.Memory.rest c.args.memory.now))
    (state_of (g.M.View.scope c.grow.new.self) (g.M.View.sight c.grow.new.self) (g.M.Memory.rest c.grow.new.self))
    c.in-Ok.count (unsigned_abs (to_z w64 (of_z w64 c.in-Ok.count))) (get_or c.extents.result 0 0) (get_or c.extents.result 1 0) (get_or c.extents.result 2 0)
    (sym c.eval_index.ensures ∙ c.in-Ok.is) (not_negative _ c.if-count-lt0.false ∙ to_z-of_z w64 c.in-Ok.count f) c.extents.ensures (sym c.has_room.ensures ∙ c.if-not-has_room.false) c.in-Err-grow.ensures.kept
