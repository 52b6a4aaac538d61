-- A worked matrix is one.
use Rattle.std.proofs.Common.{refl, ℕ, zero, suc, ◌≤◌, ◌<◌, arith}
use Rattle.sparse_marks.specs.Matrices.{IsCsr}
use Rattle.sparse_marks.specs.Examples.{empty_between}

rises : (r : ℕ) → r < 3 → empty_between.first r ≤ empty_between.first (suc r)
rises zero h = omega arith
rises (suc zero) h = omega arith
rises (suc (suc zero)) h = omega arith
rises (suc (suc (suc r))) h = absurd (omega (arith, h))

column : (k : ℕ) → k < 2 → empty_between.col k < 2
column zero h = omega arith
column (suc zero) h = omega arith
column (suc (suc k)) h = absurd (omega (arith, h))

pub valid : IsCsr empty_between
valid = record { begins = refl; rises = rises; column = column }
