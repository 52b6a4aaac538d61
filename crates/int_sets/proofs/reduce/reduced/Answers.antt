use Rattle.std.proofs.Common.{◌≡◌, ℤ, ℕ, ◌^◌, pos, ◌≤◌, arith, ap, sym, ◌∙◌, subst, cond, false, map}
use Rattle.std.specs.Prelude.{int_div, IfOk, Result, nat_le}
use Rattle.std.proofs.lemmas.Int.{ints, to_z_pos, fits_signed_from_abs}
use Rattle.std.proofs.lemmas.Bool.{lt-leb}
use mir.Val.{to_z}
use mir.Syntax.{w128}
use Rattle.int_rows.specs.declared.row.Row.{Row}
use Rattle.chill_base.specs.declared.faults.NoMemory.{NoMemory}
use Rattle.int_rows.specs.Gcd.{gcd_of}
use Rattle.int_rows.specs.Rows.{numbers}
use Rattle.int_rows.specs.Elimination.{reduced, divided_by}
use Rattle.int_rows.proofs.GcdLaws.{gcd_of-le}
use Rattle.int_sets.proofs.Dividing.{divided-few}
use Rattle.int_sets.proofs.reduce.reduced.Goals as goal

above_zero : (g : ℕ) → 2 ≤ g → nat_le g 0 ≡ false
above_zero g e = lt-leb g 0 (omega arith)

pub returns-then-by-le1 : goal.returns-then-by-le1
unfolding reduced
returns-then-by-le1 c =
    let few : gcd_of (numbers c.args.row.form) ≤ 1 = rw c.form_gcd-by.ensures at c.if-by-le1.true in
    sym (divided-few (gcd_of (numbers c.args.row.form)) c.args.row few)

pub overflow_cast-by : goal.overflow_cast-by
overflow_cast-by c =
    let small : gcd_of (numbers c.args.row.form) ≤ 2 ^ 126 = gcd_of-le (numbers c.args.row.form) (2 ^ 126) c.requires in
    fits_signed_from_abs w128 (pos c.form_gcd-by.result) (rw c.form_gcd-by.ensures (omega arith))

as_int : (n g : ℕ) → n ≡ g → g ≤ 2 ^ 126 → to_z w128 n ≡ pos g
as_int n g e h = to_z_pos w128 n (omega arith) ∙ ap pos e

pub divided-requires : goal.divided-requires
divided-requires c =
    rw (as_int _ _ c.form_gcd-by.ensures (gcd_of-le (numbers c.args.row.form) (2 ^ 126) c.requires))
    (let k : 2 ≤ gcd_of (numbers c.args.row.form) = rw c.form_gcd-by.ensures at c.if-by-le1.false in omega (arith, ints))

finish : (g : ℕ) (by : ℤ) (row : Row) (r : Result Row NoMemory) → by ≡ pos g → nat_le g 0 ≡ false
    → IfOk r (λ x. x ≡ record { equal = row.equal; form = record { coefs = map (λ z. int_div z by) row.form.coefs; constant = int_div row.form.constant by } })
    → IfOk r (λ x. x ≡ divided_by g row)
finish g by row r e z h =
    let k = subst (λ b. IfOk r (λ x. x ≡ record { equal = row.equal; form = record { coefs = map (λ z. int_div z b) row.form.coefs; constant = int_div row.form.constant b } })) e h in
    subst (λ t. IfOk r (λ x. x ≡ cond t row (record { equal = row.equal; form = record { coefs = map (λ z. int_div z (pos g)) row.form.coefs; constant = int_div row.form.constant (pos g) } }))) (sym z) k

pub returns : goal.returns
unfolding reduced
returns c =
    finish (gcd_of (numbers c.args.row.form)) _ c.args.row c.divided.result
    (as_int _ _ c.form_gcd-by.ensures (gcd_of-le (numbers c.args.row.form) (2 ^ 126) c.requires))
    (above_zero _ (rw c.form_gcd-by.ensures at c.if-by-le1.false))
    c.divided.ensures
