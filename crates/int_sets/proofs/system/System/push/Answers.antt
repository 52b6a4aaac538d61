use Rattle.std.proofs.Common.{rules, ◌≡◌, ◌<◌, ◌≤◌, length, sym, refl, ap, ◌∙◌}
use Rattle.std.proofs.lemmas.Int.{to_z-of_z}
use mir.Val.{SFits}
use mir.Syntax.{w128}
use Rattle.int_rows.specs.Rows.{numbers}
use Rattle.int_rows.specs.Systems.{Rows}
use Rattle.int_rows.specs.declared.row.Row.{Row}
use Rattle.int_sets.proofs.Calls.{all_small, IsSystem-push, pushed-large, pushed-many, pushed-row}
use Rattle.int_sets.proofs.system.System.push.Goals as goal

pub returns-in-Some-clause-answer : goal.returns-in-Some-clause-answer
returns-in-Some-clause-answer c =
    let k : SFits w128 c.args.row.form.constant = search rules in
    (pushed-large c.args.self.now c.args.row c.in-Some.var (rw c.as_slice.ensures at (simp to_z-of_z at c.in-Some.ensures)), refl)

pub returns-then-len-ge-MOST_ROWS-clause-answer : goal.returns-then-len-ge-MOST_ROWS-clause-answer
returns-then-len-ge-MOST_ROWS-clause-answer c =
    let k : SFits w128 c.args.row.form.constant = search rules in
    let full : 4096 ≤ length c.self.inside.list.rows = search (rules, c.len.ensures) in
    (rw (← c.self.view_is, c.vars.ensures) (pushed-many _ c.args.row (rw c.as_slice.ensures at (simp to_z-of_z at c.in_default.ensures)) full), refl)

pub push-requires : goal.push-requires
push-requires c = ap (λ (r : Row). length r.form.coefs) c.row_ref.ensures ∙ c.requires ∙ ap (λ (s : Rows). s.vars) (sym c.self.view_is)

pub invariant_of-self-2 : goal.invariant_of-self-2
invariant_of-self-2 c =
    let k : SFits w128 c.args.row.form.constant = search rules in
    let none = rw c.as_slice.ensures at (simp to_z-of_z at c.in_default.ensures) in
    let room : length c.self.inside.list.rows < 4096 = search (rules, c.len.ensures) in
    let width : length c.args.row.form.coefs ≡ c.self.inside.list.vars = rw (← c.self.view_is) at c.requires in
    rw (c.in_ok-push.ensures.ok, c.row_ref.ensures)
    (IsSystem-push _ _ c.args.row c.self.invariant (record { width = width; small = all_small (numbers c.args.row.form) 0 (sym none) }) room)

pub returns-clause-answer : goal.returns-clause-answer
returns-clause-answer c =
    let k : SFits w128 c.args.row.form.constant = search rules in
    let none = rw c.as_slice.ensures at (simp to_z-of_z at c.in_default.ensures) in
    let room : length c.self.inside.list.rows < 4096 = search (rules, c.len.ensures) in
    rw (← c.self.view_is, c.in_ok-push.ensures.ok, c.row_ref.ensures) (pushed-row _ c.args.row none room)
