use Rattle.std.proofs.Common.{arith}
use Rattle.std.proofs.lemmas.Grind.{common_steps, fold-append}
use Rattle.int_rows.specs.Gcd.{gcd_of}
use Rattle.int_sets.proofs.reduce.form_gcd.Goals as goal

pub returns : goal.returns
unfolding gcd_of
returns c =
    let e = c.gcd.ensures in let h = c.gcd_all.ensures in let s = c.as_slice.ensures in let u = c.unsigned_abs.ensures.value in
    rw fold-append (grind (arith, common_steps))
