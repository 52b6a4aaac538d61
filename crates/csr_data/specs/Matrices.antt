-- Whether the arrays of matrices are in CSR form.
use Rattle.std.specs.Prelude.{ℕ, suc, List, [], ◌∷◌, drop, if◌then◌else◌, nat_eq, nat_lt, nat_le, Option, Some, None, Ok, Err}
use Rattle.c_tree.specs.declared.program.Matrix.{Matrix}
use Rattle.c_tree.specs.declared.program.Program.{Program}
use Rattle.csr_data.specs.declared.fault.CsrWhy.{CsrWhy}
use Rattle.csr_data.specs.declared.fault.CsrWhy.TheVariants.{Start, Falls, End, Column}
use Rattle.csr_data.specs.declared.fault.ValuesFault.{ValuesFault}
use Rattle.csr_data.specs.declared.fault.ValuesFault.TheVariants.{NotCsr}
use Rattle.raw_store.specs.Rows.{Rows}
use Rattle.csr_data.specs.Values.{param_of, array_of}
use Rattle.csr_data.specs.Lines.{Given, Said, after, dues, says_from}

-- what is broken, in which row, and at which place
abbrev pub Broken : Type 0
Broken = Option (CsrWhy × ℕ × ℕ)

-- the first row from r on, which begins at `from`, that ends before it begins; the last has to end with the last entry
abbrev pub rows_broken : (count r from : ℕ) → List ℕ → Broken
rows_broken count r from [] = if nat_eq from count then None else Some (End, r, from)
rows_broken count r from (to ∷ ends) = if nat_lt to from then Some (Falls, r, to) else rows_broken count (suc r) to ends

abbrev pub index_broken : ℕ → List ℕ → Broken
index_broken count [] = None
index_broken count (start ∷ ends) = if nat_eq start 0 then rows_broken count 0 start ends else Some (Start, 0, start)

-- the row of a place: how many rows end at it or before it
abbrev pub row_of : List ℕ → ℕ → ℕ
row_of [] k = 0
row_of (end ∷ ends) k = if nat_le end k then suc (row_of ends k) else 0

-- the first place from k on whose column is too large
abbrev pub columns_broken : (cols : ℕ) → (ends : List ℕ) → ℕ → List ℕ → Broken
columns_broken cols ends k [] = None
columns_broken cols ends k (c ∷ cs) = if nat_lt c cols then columns_broken cols ends (suc k) cs else Some (Column, row_of ends k, k)

abbrev pub or_else : Broken → Broken → Broken
or_else None b = b
or_else (Some x) b = Some x

abbrev pub arrays_broken : Option Rows → Option Rows → Option ℕ → Option ℕ → Broken
arrays_broken (Some index) (Some col) (Some cols) (Some count) = or_else (index_broken count index.cells) (columns_broken cols (drop 1 index.cells) 0 col.cells)
arrays_broken _ _ _ _ = None

-- what the arrays of a matrix break; a signature has all four
abbrev pub broken : Given → Matrix → Broken
broken g m = arrays_broken (array_of g.arrays m.index) (array_of g.arrays m.col) (param_of g.params m.cols) (param_of g.params m.count)

abbrev pub fault_of : ℕ → Broken → Option ValuesFault → Option ValuesFault
fault_of k (Some b) others = Some (NotCsr k b.0 b.1 b.2)
fault_of k None others = others

-- the first of the matrices from the k-th on that isn't in CSR form
abbrev pub matrices_fault : ℕ → Given → List Matrix → Option ValuesFault
matrices_fault k g [] = None
matrices_fault k g (m ∷ ms) = fault_of k (broken g m) (matrices_fault (suc k) g ms)

abbrev pub unless : Option ValuesFault → Given → Said
unless None g = Ok g
unless (Some e) g = Err e

-- what a data text says: the lines first, and then the matrices
abbrev pub says : Program → List ℕ → Said
says p text = after (says_from 1 (dues p) (record { params = []; arrays = [] }) text) (λ g. unless (matrices_fault 0 g p.matrices) g)
