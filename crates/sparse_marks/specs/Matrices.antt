-- Sparse matrices in CSR form: their entries in order, and their cells, which are sums of entries.
use Rattle.std.specs.Prelude.{◌≡◌, ℕ, zero, suc, ◌+◌, ◌-◌, ◌%◌, ◌^◌, ◌≤◌, ◌<◌, Bool, ◌&&◌, List, [], ◌∷◌, ◌++◌, if◌then◌else◌, nat_eq}

-- the entries of row r stand from first(r) to below first(r+1); each has a column and a value
pub record Csr : Type 0 where
  pub rows : ℕ
  pub cols : ℕ
  pub first : ℕ → ℕ
  pub col : ℕ → ℕ
  pub worth : ℕ → ℕ

-- the rows stand one behind the other, and columns are below their number
pub record IsCsr (m : Csr) : Type 0 where
  pub begins : m.first 0 ≡ 0
  pub rises : (r : ℕ) → r < m.rows → m.first r ≤ m.first (suc r)
  pub column : (k : ℕ) → k < m.first m.rows → m.col k < m.cols

-- an entry: its row, its place, and the column and the value there
pub record Entry : Type 0 where
  pub row : ℕ
  pub place : ℕ
  pub col : ℕ
  pub worth : ℕ

abbrev pub entry_at : Csr → ℕ → ℕ → Entry
entry_at m r k = record { row = r; place = k; col = m.col k; worth = m.worth k }

-- how many entries a row has
abbrev pub count : Csr → ℕ → ℕ
count m r = m.first (suc r) - m.first r

-- the first j entries of a row
abbrev pub front_of : Csr → ℕ → ℕ → List Entry
front_of m r zero = []
front_of m r (suc j) = front_of m r j ++ entry_at m r (m.first r + j) ∷ []

-- the entries of the first r rows, in order
abbrev pub entries_before : Csr → ℕ → List Entry
entries_before m zero = []
entries_before m (suc r) = entries_before m r ++ front_of m r (count m r)

abbrev pub entries : Csr → List Entry
entries m = entries_before m m.rows

-- data are numbers modulo 2^64
abbrev pub wrapped : ℕ → ℕ
wrapped n = n % 2 ^ 64

-- what the entries are worth that pass a test, together
abbrev pub total : (Entry → Bool) → List Entry → ℕ
total p [] = 0
total p (e ∷ es) = if p e then e.worth + total p es else total p es

abbrev pub is_at : ℕ → ℕ → Entry → Bool
is_at i j e = nat_eq e.row i && nat_eq e.col j

-- the cell at row i and column j: the sum of its entries, which may be several
abbrev pub cell : Csr → ℕ → ℕ → ℕ
cell m i j = wrapped (total (is_at i j) (entries m))
