-- The arrays of a matrix as lists: where nothing is broken, they are in CSR form.
use Rattle.std.specs.Prelude.{◌≡◌, ℕ, suc, ◌<◌, ◌≤◌, List, drop, length, slice_index_or, None, Ok}
use Rattle.std.specs.List.{AllByRecursion}
use Rattle.c_tree.specs.declared.program.Program.{Program}
use Rattle.csr_data.specs.Lines.{Given}
use Rattle.csr_data.specs.Matrices.{broken, index_broken, columns_broken, says}

-- rows begin at 0, none ends before it begins, the last ends with the last entry; each column is below the number of columns
pub record IsCsr (count cols : ℕ) (index col : List ℕ) : Type 0 where
  pub first : slice_index_or index 0 0 ≡ 0
  pub rises : (r : ℕ) → suc r < length index → slice_index_or index r 0 ≤ slice_index_or index (suc r) 0
  pub last : (r : ℕ) → suc r ≡ length index → slice_index_or index r 0 ≡ count
  pub columns : AllByRecursion (λ c. c < cols) col

abbrev pub UnbrokenIsCsr : Type 0
UnbrokenIsCsr = (count cols : ℕ) (index col : List ℕ) → index_broken count index ≡ None → columns_broken cols (drop 1 index) 0 col ≡ None → IsCsr count cols index col

-- a text that gives values breaks no matrix
abbrev pub NoneIsBroken : Type 0
NoneIsBroken = (p : Program) (text : List ℕ) (g : Given) → says p text ≡ Ok g → AllByRecursion (λ m. broken g m ≡ None) p.matrices
