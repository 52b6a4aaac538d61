use Rattle.std.proofs.Common.{◌≡◌, true, false, ap, sym, ◌∙◌}
use Rattle.std.specs.List.{list_any}
use Rattle.std.proofs.lemmas.Int.{to_z-of_z}
use Rattle.std.proofs.Common.{rules}
use mir.Val.{SFits}
use mir.Syntax.{w128}
use Rattle.int_rows.specs.Systems.{Rows}
use Rattle.int_sets.specs.contracts.key.RowKeyPartialEq.TheImpl.{eq-value}
use Rattle.int_sets.specs.Views.{row_of}
use Rattle.int_sets.proofs.Keys.{turn-found, turn-keys, turn-new, turn-new_keys, turn-undone, was-there, was-absent, lowered-rows}
use Rattle.int_sets.proofs.Unpacking.{went_well, went_wrong}
use Rattle.int_sets.proofs.keep.absorb.Goals as goal

pub lower-requires : goal.lower-requires
lower-requires c =
    let ks = c.args.places.now.keys in
    let rows = c.args.rows.now.rows in
    let k = c.in_ok-row_key.field-0 in
    let old : list_any (eq-value.it k) ks ≡ true = was-there _ _ c.in_ok-place.ensures.added c.if-not-is_new.true in
    (turn-found ks rows k (row_of c.args.row.now) c.requires.keys c.in_ok-row_key.ensures _ c.in_ok-place.ensures.keys c.in_ok-place.place c.in_ok-place.ensures.index old).inside

pub returns-then-not-is_new-clause-rows : goal.returns-then-not-is_new-clause-rows
returns-then-not-is_new-clause-rows c =
    let ks = c.args.places.now.keys in
    let rows = c.args.rows.now.rows in
    let k = c.in_ok-row_key.field-0 in
    let z : SFits w128 c.args.row.now.form.constant = search rules in
    let old : list_any (eq-value.it k) ks ≡ true = was-there _ _ c.in_ok-place.ensures.added c.if-not-is_new.true in
    let t = turn-found ks rows k (row_of c.args.row.now) c.requires.keys c.in_ok-row_key.ensures _ c.in_ok-place.ensures.keys c.in_ok-place.place c.in_ok-place.ensures.index old in
    ap (λ (s : Rows). s.rows) (lowered-rows c.args.rows.now c.lower.new.self c.in_ok-place.place t.row (row_of c.args.row.now) t.is (simp to_z-of_z at c.lower.ensures)) ∙ sym t.absorbs

pub returns-then-not-is_new-clause-vars : goal.returns-then-not-is_new-clause-vars
returns-then-not-is_new-clause-vars c =
    let ks = c.args.places.now.keys in
    let rows = c.args.rows.now.rows in
    let k = c.in_ok-row_key.field-0 in
    let z : SFits w128 c.args.row.now.form.constant = search rules in
    let old : list_any (eq-value.it k) ks ≡ true = was-there _ _ c.in_ok-place.ensures.added c.if-not-is_new.true in
    let t = turn-found ks rows k (row_of c.args.row.now) c.requires.keys c.in_ok-row_key.ensures _ c.in_ok-place.ensures.keys c.in_ok-place.place c.in_ok-place.ensures.index old in
    ap (λ (s : Rows). s.vars) (lowered-rows c.args.rows.now c.lower.new.self c.in_ok-place.place t.row (row_of c.args.row.now) t.is (simp to_z-of_z at c.lower.ensures))

pub returns-then-not-is_new-clause-keys : goal.returns-then-not-is_new-clause-keys
returns-then-not-is_new-clause-keys c =
    let ks = c.args.places.now.keys in
    let rows = c.args.rows.now.rows in
    let k = c.in_ok-row_key.field-0 in
    let z : SFits w128 c.args.row.now.form.constant = search rules in
    let old : list_any (eq-value.it k) ks ≡ true = was-there _ _ c.in_ok-place.ensures.added c.if-not-is_new.true in
    let t = turn-found ks rows k (row_of c.args.row.now) c.requires.keys c.in_ok-row_key.ensures _ c.in_ok-place.ensures.keys c.in_ok-place.place c.in_ok-place.ensures.index old in
    let lowered = ap (λ (s : Rows). s.rows) (lowered-rows c.args.rows.now c.lower.new.self c.in_ok-place.place t.row (row_of c.args.row.now) t.is (simp to_z-of_z at c.lower.ensures)) in
    rw lowered (turn-keys ks rows k (row_of c.args.row.now) c.requires.keys c.in_ok-row_key.ensures _ c.in_ok-place.ensures.keys c.in_ok-place.place c.in_ok-place.ensures.index old)

pub returns-then-is_err-clause-keys : goal.returns-then-is_err-clause-keys
returns-then-is_err-clause-keys c =
    let ks = c.args.places.now.keys in
    let rows = c.args.rows.now.rows in
    let k = c.in_ok-row_key.field-0 in
    let none : list_any (eq-value.it k) ks ≡ false = was-absent _ _ c.in_ok-place.ensures.added c.if-not-is_new.false in
    let same = went_wrong c.push.result c.is_err.result _ c.is_err.ensures.value c.if-is_err.true c.push.ensures.err in
    rw (c.truncate.ensures.keys, c.len.ensures, same, turn-undone ks rows k (row_of c.args.row.now) c.requires.keys c.in_ok-row_key.ensures _ c.in_ok-place.ensures.keys none) c.requires.keys

pub returns-clause-rows : goal.returns-clause-rows
returns-clause-rows c =
    let ks = c.args.places.now.keys in
    let rows = c.args.rows.now.rows in
    let k = c.in_ok-row_key.field-0 in
    let none : list_any (eq-value.it k) ks ≡ false = was-absent _ _ c.in_ok-place.ensures.added c.if-not-is_new.false in
    let more = went_well c.push.result c.is_err.result _ c.is_err.ensures.value c.if-is_err.false c.push.ensures.ok in
    rw more (sym (turn-new ks rows k (row_of c.args.row.now) c.requires.keys c.in_ok-row_key.ensures _ c.in_ok-place.ensures.keys none))

pub returns-clause-keys : goal.returns-clause-keys
returns-clause-keys c =
    let ks = c.args.places.now.keys in
    let rows = c.args.rows.now.rows in
    let k = c.in_ok-row_key.field-0 in
    let none : list_any (eq-value.it k) ks ≡ false = was-absent _ _ c.in_ok-place.ensures.added c.if-not-is_new.false in
    let more = went_well c.push.result c.is_err.result _ c.is_err.ensures.value c.if-is_err.false c.push.ensures.ok in
    rw more (turn-new_keys ks rows k (row_of c.args.row.now) c.requires.keys c.in_ok-row_key.ensures _ c.in_ok-place.ensures.keys none)
