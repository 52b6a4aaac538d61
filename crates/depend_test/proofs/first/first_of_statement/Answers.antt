use Rattle.std.proofs.Common.{◌≡◌, refl, sym, Some}
use Rattle.std.specs.List.{slice_get}
use Rattle.std.proofs.lemmas.Option.{slice_get_read}
use Rattle.depend_test.specs.Candidates.{IsDecidedBetween, dependence, of_other, of_statement}
use Rattle.depend_test.proofs.Firsts.{passed-all, each-over-none, each-found-some, each-over-nothing, each-none, under-true, under-false}
use Rattle.depend_test.proofs.first.first_of_statement.Goals as goal
use Rattle.depend_test.proofs.first.first_of_statement.Goals.{then-either_applies+in_ok-found+else-is_some, else-either_applies}

pub loop-to-init : goal.loop-to-init
unfolding of_statement
loop-to-init c = passed-all (IsDecidedBetween c.args.kernel.now) dependence _

pub returns-then-is_some : goal.returns-then-is_some
returns-then-is_some c =
    let a : slice_get c.args.all.now c.args.from ≡ Some c.index-all-from.result = slice_get_read _ _ _ _ refl c.requires.from c.index-all-from.is in
    let b : slice_get c.args.all.now c.loop-to.to ≡ Some c.index-all-to.result = slice_get_read _ _ _ _ refl c.loop-to-test.true c.index-all-to.is in
    rw a (each-found-some (IsDecidedBetween c.args.kernel.now) dependence (of_statement c.args.all.now c.args.from c.index-all-from.result) (of_other c.args.from c.index-all-from.result)
    c.args.all.now c.loop-to.to c.index-all-to.result c.in_ok-found.found (sym c.if-is_some.ensures) c.loop-to-test.true c.index-all-to.is c.loop-to.invariant
    (under-true _ _ _ _ _ c.if-either_applies.ensures (rw (a, b) at c.in_ok-found.ensures)))

pub loop-to-preserved : goal.loop-to-preserved
loop-to-preserved c =
    let a : slice_get c.args.all.now c.args.from ≡ Some c.index-all-from.result = slice_get_read _ _ _ _ refl c.requires.from c.index-all-from.is in
    let b : slice_get c.args.all.now c.loop-to.to ≡ Some c.index-all-to.result = slice_get_read _ _ _ _ refl c.loop-to-test.true c.index-all-to.is in
    elim c.if-either_applies.branch [
      | then-either_applies+in_ok-found+else-is_some w ↦
          each-over-none (IsDecidedBetween c.args.kernel.now) dependence (of_statement c.args.all.now c.args.from c.index-all-from.result) (of_other c.args.from c.index-all-from.result)
          c.args.all.now c.loop-to.to c.index-all-to.result w.in_ok-found.found (sym w.if-is_some.ensures) c.loop-to-test.true c.index-all-to.is c.loop-to.invariant
          (under-true _ _ _ _ _ w.if-either_applies.ensures (rw (a, b) at w.in_ok-found.ensures))
      | else-either_applies w ↦
          each-over-nothing (IsDecidedBetween c.args.kernel.now) dependence (of_statement c.args.all.now c.args.from c.index-all-from.result) (of_other c.args.from c.index-all-from.result)
          c.args.all.now c.loop-to.to c.index-all-to.result (under-false _ _ w.if-either_applies.ensures) c.loop-to-test.true c.index-all-to.is c.loop-to.invariant
    ]

pub returns : goal.returns
returns c =
    let a : slice_get c.args.all.now c.args.from ≡ Some c.index-all-from.result = slice_get_read _ _ _ _ refl c.requires.from c.index-all-from.is in
    rw a (each-none (IsDecidedBetween c.args.kernel.now) dependence (of_statement c.args.all.now c.args.from c.index-all-from.result) (of_other c.args.from c.index-all-from.result) c.args.all.now c.loop-to.to c.loop-to-test.false c.loop-to.invariant)
