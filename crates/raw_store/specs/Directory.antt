-- Blocks of cells whose lengths double.
use Rattle.std.specs.Prelude.{◌≡◌, ℕ, zero, suc, ◌+◌, ◌^◌, ◌<◌, ◌≤◌, List, [], ◌∷◌, length, take, replicate, slice_index_or}
use Rattle.std.specs.List.{concat}

-- how many cells the k-th block has: 32, 64, 128 and so on
abbrev pub span : ℕ → ℕ
span k = 2 ^ (k + 5)

-- the cell at the index lies at the offset in the k-th block
pub record IsAt (at k offset : ℕ) : Type 0 where
  pub block : k < 55
  pub inside : offset < span k
  pub same : span k + offset ≡ at + 32

-- n blocks of zeros, from the k-th on
abbrev pub zero_blocks : ℕ → ℕ → List (List ℕ)
zero_blocks k zero = []
zero_blocks k (suc n) = replicate (span k) 0 ∷ zero_blocks (suc k) n

-- these blocks, from the k-th on, have their lengths
abbrev pub IsSized : ℕ → List (List ℕ) → Type 0
IsSized k [] = Unit {0}
IsSized k (b ∷ bs) = (length b ≡ span k) × IsSized (suc k) bs

-- the cells in use
abbrev pub cells : List (List ℕ) → ℕ → List ℕ
cells blocks len = take len (concat blocks)

-- the blocks have their lengths and room for the cells in use, and the other cells are 0
pub record IsDirectory (blocks : List (List ℕ)) (len : ℕ) : Type 0 where
  pub sized : IsSized 0 blocks
  pub few : length blocks ≤ 55
  pub room : len + 32 ≤ span (length blocks)
  pub rest : (at : ℕ) → len ≤ at → slice_index_or (concat blocks) at 0 ≡ 0
