-- Laws of padded lists.
use Rattle.std.specs.Prelude.{◌≡◌, ◌≤◌, Bool, true, false, List, length}
use Rattle.c_tree.specs.declared.statement.How.{How}
use Rattle.c_meaning.specs.Memory.{Spot, same_spot, Cells}
use Rattle.c_meaning.specs.Ground.{wrapped, perform, effect, is_among, is_compound}
use Rattle.sparse_padding.specs.Products.{Frame, frame_reads, with_factor, with_each, sum_of}
use Rattle.sparse_padding.specs.Positions.{Position, by_entry, padded, AreHarmless, HoldSums, AreNumbers}

-- a run of assignments to one cell, which none of them reads, is the one assignment with the sum as the factor
abbrev pub RunIsOneAssignment : Type 0
RunIsOneAssignment =
    (x y : Spot) (how : How) (k : Frame) (ys : List Spot) (s : Cells)
    → AreNumbers s → is_compound how ≡ true → is_among x (frame_reads k) ≡ false → is_among x ys ≡ false → same_spot x y ≡ false
    → s y ≡ wrapped (sum_of s ys) → effect (with_each x how k ys) s ≡ perform (with_factor x how k y) s

-- so is a run of one, also where the product reads the target
abbrev pub OneEntryIsOneAssignment : Type 0
OneEntryIsOneAssignment =
    (x y : Spot) (how : How) (k : Frame) (ys : List Spot) (s : Cells)
    → AreNumbers s → is_compound how ≡ true → length ys ≤ 1
    → s y ≡ wrapped (sum_of s ys) → effect (with_each x how k ys) s ≡ perform (with_factor x how k y) s

-- 0 times a product is nothing
abbrev pub ZeroChangesNothing : Type 0
ZeroChangesNothing =
    (x y : Spot) (how : How) (k : Frame) (s : Cells) → AreNumbers s → is_compound how ≡ true → s y ≡ 0 → perform (with_factor x how k y) s ≡ s

-- the padded list has the effect of the list of entries
abbrev pub PaddedListKeepsEffect : Type 0
PaddedListKeepsEffect =
    (matrix : Spot → Bool) (ps : List Position) (s : Cells) → AreHarmless matrix ps → HoldSums s ps → AreNumbers s → effect (padded ps) s ≡ effect (by_entry ps) s
