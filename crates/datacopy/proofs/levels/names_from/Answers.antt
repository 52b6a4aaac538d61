use Rattle.std.proofs.Common.{rules, ◌<◌, ◌≤◌, length}
use Rattle.datacopy.specs.Levels.{names_level}
use Rattle.datacopy.proofs.Searching.{from-here}
use Rattle.datacopy.proofs.levels.names_from.Goals as goal

pub returns-then-names_level : goal.returns-then-names_level
returns-then-names_level c =
    let l : c.loop-level.level < length c.args.nest.now.levels = search rules in
    let h : c.args.place ≤ c.loop-level.level = search rules in
    from-here (names_level (length c.args.head.now.params) c.args.nest.now c.args.form.now) _ c.args.place c.loop-level.level l h c.if-names_level.ensures
