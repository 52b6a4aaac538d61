-- A worked case: a matrix of 2 by 2 with four entries, in one block, and the product.
use Rattle.std.specs.Prelude.{ℕ, ℤ, pos, List, [], ◌∷◌, if◌then◌else◌, codes}
use Rattle.c_meaning.specs.Memory.{Memory}
use Rattle.c_meaning.specs.Names.{same_name, same_numbers, line}
use Rattle.csr_data.specs.declared.values.Parameter.{Parameter}

abbrev pub in_block : List ℤ → ℕ
in_block at =
    if same_numbers at (pos 0 ∷ pos 0 ∷ pos 0 ∷ []) then 758
    else if same_numbers at (pos 0 ∷ pos 0 ∷ pos 1 ∷ []) then 515
    else if same_numbers at (pos 0 ∷ pos 1 ∷ pos 0 ∷ []) then 10 else 212

abbrev pub in_product : List ℤ → ℕ
in_product at = if same_numbers at (line (pos 0)) then 962747 else 170094

-- the arrays behind the run
abbrev pub one_block : Memory
one_block = record {
  extents = λ x. if same_name x (codes "b_lay") then pos 1 ∷ pos 2 ∷ pos 2 ∷ [] else if same_name x (codes "b_num") then pos 1 ∷ pos 1 ∷ pos 1 ∷ [] else if same_name x (codes "y") then pos 2 ∷ pos 1 ∷ pos 1 ∷ [] else [];
  index = λ x at. if same_name x (codes "b_num") then pos 1 else pos 0;
  cells = λ c. if same_name c.array (codes "b_lay") then in_block c.at else if same_name c.array (codes "y") then in_product c.at else 0;
}

abbrev pub four_entries : List Parameter
four_entries = record { name = codes "n"; value = 2 } ∷ record { name = codes "m"; value = 2 } ∷ record { name = codes "nnz"; value = 4 } ∷ []
