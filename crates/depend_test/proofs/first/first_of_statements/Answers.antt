use Rattle.std.proofs.Common.{◌≡◌, refl, Some}
use Rattle.std.specs.List.{slice_get}
use Rattle.std.proofs.lemmas.Option.{slice_get_read}
use Rattle.depend_test.specs.Candidates.{IsDecidedBetween, dependence, of_access, of_cell, of_statements}
use Rattle.depend_test.proofs.Firsts.{passed-all, each-over, each-found, each-none}
use Rattle.depend_test.proofs.Carrying.{between-some, between-none}
use Rattle.depend_test.proofs.first.first_of_statements.Goals as goal

pub loop-i-init : goal.loop-i-init
unfolding of_statements
loop-i-init c = passed-all (IsDecidedBetween c.args.kernel.now) dependence _

pub returns-in-Some : goal.returns-in-Some
returns-in-Some c =
    let l = rw c.as_slice-cells.ensures at c.loop-i-test.true in
    let e = rw c.as_slice-cells.ensures at c.index-cells-i.is in
    let a : slice_get c.args.all.now c.args.from ≡ Some c.index-all-from.result = slice_get_read _ _ _ _ refl c.requires.from c.index-all-from.is in
    let b : slice_get c.args.all.now c.args.to ≡ Some c.index-all-to.result = slice_get_read _ _ _ _ refl c.requires.to c.index-all-to.is in
    rw (a, b) (each-found (IsDecidedBetween c.args.kernel.now) dependence (of_statements c.args.from c.index-all-from.result c.args.to c.index-all-to.result) (of_cell c.args.from c.index-all-from.result c.args.to c.index-all-to.result)
    c.index-all-from.result.accesses c.loop-i.i c.index-cells-i.result _ l e c.loop-i.invariant
    (between-some c.args.kernel.now c.args.from c.args.to c.index-cells-i.result (of_access c.index-all-from.result c.index-all-to.result c.loop-i.i c.index-cells-i.result) c.in-Some.carried c.in_ok-carried.field-0 c.in-Some.is c.in_ok-carried.ensures))

pub loop-i-preserved : goal.loop-i-preserved
loop-i-preserved c =
    let l = rw c.as_slice-cells.ensures at c.loop-i-test.true in
    let e = rw c.as_slice-cells.ensures at c.index-cells-i.is in
    each-over (IsDecidedBetween c.args.kernel.now) dependence (of_statements c.args.from c.index-all-from.result c.args.to c.index-all-to.result) (of_cell c.args.from c.index-all-from.result c.args.to c.index-all-to.result)
    c.index-all-from.result.accesses c.loop-i.i c.index-cells-i.result l e c.loop-i.invariant
    (between-none c.args.kernel.now c.args.from c.args.to c.index-cells-i.result (of_access c.index-all-from.result c.index-all-to.result c.loop-i.i c.index-cells-i.result) c.in_ok-carried.field-0 c.in_default.is c.in_ok-carried.ensures)

pub returns : goal.returns
returns c =
    let l = rw c.as_slice-cells.ensures at c.loop-i-test.false in
    let a : slice_get c.args.all.now c.args.from ≡ Some c.index-all-from.result = slice_get_read _ _ _ _ refl c.requires.from c.index-all-from.is in
    let b : slice_get c.args.all.now c.args.to ≡ Some c.index-all-to.result = slice_get_read _ _ _ _ refl c.requires.to c.index-all-to.is in
    rw (a, b) (each-none (IsDecidedBetween c.args.kernel.now) dependence (of_statements c.args.from c.index-all-from.result c.args.to c.index-all-to.result) (of_cell c.args.from c.index-all-from.result c.args.to c.index-all-to.result) c.index-all-from.result.accesses c.loop-i.i l c.loop-i.invariant)
