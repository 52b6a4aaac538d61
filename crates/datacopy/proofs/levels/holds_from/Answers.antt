use Rattle.std.proofs.Common.{rules, ◌<◌, ◌≤◌, length}
use Rattle.datacopy.specs.Levels.{holds_level}
use Rattle.datacopy.proofs.Searching.{from-here}
use Rattle.datacopy.proofs.levels.holds_from.Goals as goal

pub returns-then-holds_level : goal.returns-then-holds_level
returns-then-holds_level c =
    let l : c.loop-level.level < length c.args.nest.now.levels = search rules in
    let h : c.args.place ≤ c.loop-level.level = search rules in
    from-here (holds_level (length c.args.head.now.params) c.args.nest.now c.args.form.now) _ c.args.place c.loop-level.level l h c.if-holds_level.ensures
