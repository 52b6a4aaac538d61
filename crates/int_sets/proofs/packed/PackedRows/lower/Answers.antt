use Rattle.std.proofs.Common.{rules, ◌<◌, ◌+◌, ◌*◌, length}
use Rattle.std.proofs.lemmas.Int.{to_z-of_z}
use mir.Val.{SFits}
use mir.Syntax.{w128}
use Rattle.int_sets.proofs.Unpacking.{numbers-inside, lower-is}
use Rattle.int_sets.proofs.packed.PackedRows.lower.Goals as goal

pub overflow_mul-start : goal.overflow_mul-start
overflow_mul-start c =
    let h : c.args.at * (c.self.inside.vars + 1) + c.self.inside.vars < length c.self.inside.numbers.items = numbers-inside _ _ _ _ c.self.view_is c.self.invariant c.args.at c.requires in
    search (rules, h)

pub overflow_add-start-2 : goal.overflow_add-start-2
overflow_add-start-2 c =
    let h : c.args.at * (c.self.inside.vars + 1) + c.self.inside.vars < length c.self.inside.numbers.items = numbers-inside _ _ _ _ c.self.view_is c.self.invariant c.args.at c.requires in
    search (rules, h)

pub lower_at-requires : goal.lower_at-requires
lower_at-requires c =
    let h : c.args.at * (c.self.inside.vars + 1) + c.self.inside.vars < length c.self.inside.numbers.items = numbers-inside _ _ _ _ c.self.view_is c.self.invariant c.args.at c.requires in
    h

pub returns : goal.returns
returns c =
    let z : SFits w128 c.args.constant = c.ranges.constant in
    lower-is _ _ _ _ c.self.view_is c.self.invariant c.args.at c.requires c.args.constant c.lower_at.new.numbers.items (simp to_z-of_z at c.lower_at.ensures)
