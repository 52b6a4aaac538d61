-- Reads of index arrays, and the numbers that they have in a table.
use Rattle.std.specs.Prelude.{ℕ, Bool, List, length, nat_le, nat_lt, ◌&&◌}
use Rattle.std.specs.List.{list_all}
use Rattle.nest_tree.specs.declared.kernel.Term.{Term}
use Rattle.scan_forms.specs.declared.reads.Read.{Read}

abbrev pub one_to_three : ℕ → Bool
one_to_three n = nat_le 1 n && nat_le n 3

-- a read has one to three arguments
abbrev pub has_places : Read → Bool
has_places r = one_to_three (length r.at)

abbrev pub term_has_places : Term → Bool
term_has_places t = one_to_three (length t.at)

-- the numbers are of reads in a table of so many
abbrev pub are_in : ℕ → List ℕ → Bool
are_in n ids = list_all (λ i. nat_lt i n) ids
