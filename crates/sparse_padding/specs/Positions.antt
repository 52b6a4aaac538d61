-- Lists of assignments by position: one for each entry that falls on a position, and one for each position.
use Rattle.std.specs.Prelude.{◌≡◌, ◌⊎◌, ◌≤◌, ◌<◌, ◌^◌, Bool, true, false, List, [], ◌∷◌, ◌++◌, length}
use Rattle.std.specs.List.{list_all}
use Rattle.c_tree.specs.declared.statement.How.{How}
use Rattle.c_meaning.specs.Memory.{Spot, Cells}
use Rattle.c_meaning.specs.Ground.{wrapped, Step, is_among, is_compound}
use Rattle.sparse_padding.specs.Products.{Frame, frame_reads, with_factor, with_each, sum_of}

-- a position: the target and the product of its assignments, the cells of the entries that fall on it, which may be none or
-- several, and its cell of the layout
pub record Position : Type 0 where
  pub target : Spot
  pub how : How
  pub product : Frame
  pub entries : List Spot
  pub cell : Spot

-- the assignments of all entries
abbrev pub by_entry : List Position → List Step
by_entry [] = []
by_entry (p ∷ ps) = with_each p.target p.how p.product p.entries ++ by_entry ps

-- the padded assignments, one for each position
abbrev pub padded : List Position → List Step
padded [] = []
padded (p ∷ ps) = with_factor p.target p.how p.product p.cell ∷ padded ps

-- The assignments are += or -=, and write no cell of the matrix or the layout. Their product doesn't read their target, or
-- at most one entry falls on the position.
pub record IsHarmless (matrix : Spot → Bool) (p : Position) : Type 0 where
  pub compound : is_compound p.how ≡ true
  pub unread : (is_among p.target (frame_reads p.product) ≡ false) ⊎ (length p.entries ≤ 1)
  pub outside : matrix p.target ≡ false
  pub cell_in : matrix p.cell ≡ true
  pub entries_in : list_all matrix p.entries ≡ true

abbrev pub AreHarmless : (Spot → Bool) → List Position → Type 0
AreHarmless matrix [] = Unit
AreHarmless matrix (p ∷ ps) = IsHarmless matrix p × AreHarmless matrix ps

-- each cell of the layout is the sum of the entries that fall on its position
abbrev pub HoldSums : Cells → List Position → Type 0
HoldSums s [] = Unit
HoldSums s (p ∷ ps) = (s p.cell ≡ wrapped (sum_of s p.entries)) × HoldSums s ps

-- all cells hold numbers below 2^64
pub record AreNumbers (s : Cells) : Type 0 where
  pub below : (x : Spot) → s x < 2 ^ 64
