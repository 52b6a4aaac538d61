use Rattle.std.proofs.Common.{rules, ◌≡◌, true, false, refl, sym}
use Rattle.std.proofs.lemmas.Int.{to_z-of_z}
use mir.Val.{SFits}
use mir.Syntax.{w128}
use Rattle.int_rows.specs.Exclusion.{is_impossible, is_plain}
use Rattle.int_sets.specs.Views.{row_of}
use Rattle.int_sets.proofs.decide.is_impossible.Goals as goal

pub returns-then-row : goal.returns-then-row
unfolding is_impossible
returns-then-row c =
    let a : SFits w128 c.args.row.now.form.constant = search rules in
    let d = rw c.gcd_all.ensures at (simp to_z-of_z at c.divides.ensures) in
    rw (c.if-row.true, d) refl

pub returns-then-is_plain : goal.returns-then-is_plain
unfolding is_impossible
returns-then-is_plain c =
    let a : SFits w128 c.args.row.now.form.constant = search rules in
    let e : is_plain (row_of c.args.row.now) ≡ true = sym c.if-is_plain.ensures in
    simp to_z-of_z (rw (c.if-row.false, e) refl)

pub returns-else-is_plain : goal.returns-else-is_plain
unfolding is_impossible
returns-else-is_plain c =
    let e : is_plain (row_of c.args.row.now) ≡ false = sym c.if-is_plain.ensures in
    rw (c.if-row.false, c.if-is_plain.false, e) refl
