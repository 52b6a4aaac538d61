use Rattle.std.proofs.Common.{◌≤◌, List, length, arith, Bool, not}
use Rattle.std.specs.List.{position_or_len}
use Rattle.std.proofs.lemmas.List.Sums.{prefix_len-le-length}
use Rattle.int_rows.specs.Elimination.{is_equality_with}
use Rattle.int_sets.proofs.gather.gather.Goals as goal

within : {A : Type 0} (test : A → Bool) (xs : List A) → position_or_len test xs ≤ length xs
within test xs = prefix_len-le-length (λ x. not (test x)) xs

pub gather_pairs-requires-clause-none : goal.gather_pairs-requires-clause-none
gather_pairs-requires-clause-none c =
    let k = within (is_equality_with c.args.var) c.args.rows.now.rows in
    omega (arith, k)
