-- How many variables forms have.
use Rattle.std.specs.Prelude.{ℕ, ◌==◌, Bool, length}
use Rattle.source_limits.specs.declared.reads.Read.{Read}

-- the argument of a read is a form of so many names
abbrev pub is_read_over : ℕ → Read → Bool
is_read_over n r = length r.at.coefs == n
