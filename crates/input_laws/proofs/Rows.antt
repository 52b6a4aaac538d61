-- Where nothing is broken, the arrays of a matrix are in CSR form.
use Rattle.std.proofs.Common.{◌≡◌, ℕ, zero, suc, ◌<◌, ◌≤◌, Bool, true, false, List, [], ◌∷◌, drop, length, Option, Some, None, Ok, Err, if◌then◌else◌, nat_eq, nat_lt, refl, subst, arith}
use Rattle.std.specs.Prelude.{slice_index_or}
use Rattle.std.specs.List.{AllByRecursion}
use Rattle.std.proofs.lemmas.Bool.Decides.{nat_tests}
use Rattle.csr_data.specs.declared.fault.CsrWhy.TheVariants.{Start, Falls, End, Column}
use Rattle.c_tree.specs.declared.program.Matrix.{Matrix}
use Rattle.c_tree.specs.declared.program.Program.{Program}
use Rattle.csr_data.specs.declared.fault.ValuesFault.{ValuesFault}
use Rattle.csr_data.specs.Lines.{Given, Said, after, dues, says_from}
use Rattle.csr_data.specs.Matrices.{Broken, broken, fault_of, matrices_fault, unless, says, rows_broken, index_broken, columns_broken, row_of}
use Rattle.input_laws.specs.Rows.{IsCsr}

-- from a row's begin on
record AreRows (count from : ℕ) (ends : List ℕ) : Type 0 where
  rises : (r : ℕ) → suc r < length (from ∷ ends) → slice_index_or (from ∷ ends) r 0 ≤ slice_index_or (from ∷ ends) (suc r) 0
  last : (r : ℕ) → suc r ≡ length (from ∷ ends) → slice_index_or (from ∷ ends) r 0 ≡ count

abbrev either : Bool → Broken → Broken → Broken
either b x y = if b then x else y

last_row : (count r from : ℕ) → rows_broken count r from [] ≡ None → AreRows count from []
last_row count r from h = by (nat_eq from count) refl h
  where
    at_end : from ≡ count → (k : ℕ) → suc k ≡ 1 → slice_index_or (from ∷ []) k 0 ≡ count
    at_end e zero l = e
    at_end e (suc k) l = absurd (omega arith)

    by : (b : Bool) → nat_eq from count ≡ b → either b None (Some (End, r, from)) ≡ None → AreRows count from []
    by true t h = record { rises = λ k l. absurd (omega arith); last = at_end (grind (arith, nat_tests, t)) }
    by false t h = cc

one_more : (count from to : ℕ) (ends : List ℕ) → from ≤ to → AreRows count to ends → AreRows count from (to ∷ ends)
one_more count from to ends le rows = record { rises = rise; last = end }
  where
    rise : (k : ℕ) → suc k < length (from ∷ to ∷ ends) → slice_index_or (from ∷ to ∷ ends) k 0 ≤ slice_index_or (from ∷ to ∷ ends) (suc k) 0
    rise zero l = le
    rise (suc k) l = rows.rises k (omega arith)

    end : (k : ℕ) → suc k ≡ length (from ∷ to ∷ ends) → slice_index_or (from ∷ to ∷ ends) k 0 ≡ count
    end zero l = absurd (omega arith)
    end (suc k) l = rows.last k (omega arith)

are_rows : (count r from : ℕ) (ends : List ℕ) → rows_broken count r from ends ≡ None → AreRows count from ends
are_rows count r from [] h = last_row count r from h
are_rows count r from (to ∷ ends) h = by (λ k. are_rows count (suc r) to ends k) (nat_lt to from) refl h
  where
    by : (rows_broken count (suc r) to ends ≡ None → AreRows count to ends) → (b : Bool) → nat_lt to from ≡ b → either b (Some (Falls, r, to)) (rows_broken count (suc r) to ends) ≡ None → AreRows count from (to ∷ ends)
    by more true t h = cc
    by more false t h = one_more count from to ends (grind (arith, nat_tests, t)) (more h)

are_columns : (cols : ℕ) (ends : List ℕ) (k : ℕ) (col : List ℕ) → columns_broken cols ends k col ≡ None → AllByRecursion (λ c. c < cols) col
are_columns cols ends k [] h = tt
are_columns cols ends k (c ∷ cs) h = by (λ e. are_columns cols ends (suc k) cs e) (nat_lt c cols) refl h
  where
    by : (columns_broken cols ends (suc k) cs ≡ None → AllByRecursion (λ c. c < cols) cs) → (b : Bool) → nat_lt c cols ≡ b → either b (columns_broken cols ends (suc k) cs) (Some (Column, row_of ends k, k)) ≡ None
        → (c < cols) × AllByRecursion (λ c. c < cols) cs
    by more true t h = (grind (arith, nat_tests, t), more h)
    by more false t h = cc

pub unbroken : (count cols : ℕ) (index col : List ℕ) → index_broken count index ≡ None → columns_broken cols (drop 1 index) 0 col ≡ None → IsCsr count cols index col
unbroken count cols [] col h k = record { first = refl; rises = λ r l. absurd (omega arith); last = λ r l. absurd (omega arith); columns = are_columns cols [] 0 col k }
unbroken count cols (start ∷ ends) col h k = by (nat_eq start 0) refl h
  where
    by : (b : Bool) → nat_eq start 0 ≡ b → either b (rows_broken count 0 start ends) (Some (Start, 0, start)) ≡ None → IsCsr count cols (start ∷ ends) col
    by true t h =
        let rows = are_rows count 0 start ends h in
        record { first = grind (arith, nat_tests, t); rises = rows.rises; last = rows.last; columns = are_columns cols ends 0 col k }
    by false t h = cc

-- ---- no matrix is broken
each_unbroken : (k : ℕ) (g : Given) (ms : List Matrix) → matrices_fault k g ms ≡ None → AllByRecursion (λ m. broken g m ≡ None) ms
each_unbroken k g [] h = tt
each_unbroken k g (m ∷ ms) h = by (λ e. each_unbroken (suc k) g ms e) (broken g m) refl h
  where
    by : (matrices_fault (suc k) g ms ≡ None → AllByRecursion (λ m. broken g m ≡ None) ms) → (b : Broken) → broken g m ≡ b → fault_of k b (matrices_fault (suc k) g ms) ≡ None
        → (broken g m ≡ None) × AllByRecursion (λ m. broken g m ≡ None) ms
    by more None e h = (e, more h)
    by more (Some x) e h = cc

checked : (p : Program) (s : Said) (g : Given) → after s (λ g. unless (matrices_fault 0 g p.matrices) g) ≡ Ok g → matrices_fault 0 g p.matrices ≡ None
checked p (Err f) g h = cc
checked p (Ok h) g e = by (matrices_fault 0 h p.matrices) refl e
  where
    by : (o : Option ValuesFault) → matrices_fault 0 h p.matrices ≡ o → unless o h ≡ Ok g → matrices_fault 0 g p.matrices ≡ None
    by None t e = (let same : h ≡ g = cc in subst (λ (g : Given). matrices_fault 0 g p.matrices ≡ None) same t)
    by (Some f) t e = cc

pub none_broken : (p : Program) (text : List ℕ) (g : Given) → says p text ≡ Ok g → AllByRecursion (λ m. broken g m ≡ None) p.matrices
none_broken p text g h = each_unbroken 0 g p.matrices (checked p (says_from 1 (dues p) (record { params = []; arrays = [] }) text) g h)
