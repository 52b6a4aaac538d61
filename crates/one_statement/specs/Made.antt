-- The names of made arrays.
use Rattle.std.specs.Prelude.{ℕ, cond, nat_le, List, ◌++◌, length, Option, Some, None}

-- the bytes, where they are few enough for a name
abbrev pub name_of : List ℕ → Option (List ℕ)
name_of bytes = cond (nat_le (length bytes) 63) (Some bytes) None

-- the prefix with these bytes behind it
abbrev pub made_name : List ℕ → List ℕ → Option (List ℕ)
made_name prefix suffix = name_of (prefix ++ suffix)
