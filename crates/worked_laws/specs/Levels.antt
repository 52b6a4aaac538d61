-- Worked level values.
use Rattle.std.specs.Prelude.{◌≡◌, List, [], ◌∷◌, pos, negsuc}
use Rattle.nest_tree.specs.Places.{IsBefore, place}
use Rattle.nest_tree.specs.Levels.{permuted, unpermuted, IsTiled, skewed, shifted}
use Rattle.nest_tree.specs.Unrolling.{full, rest, Upper, IsUnrolled}

-- a level that is at most 9
abbrev pub to_nine : List Upper
to_nine = record { less_one = 0; bound = pos 9 } ∷ []

-- In the order (2, 3, 1) new level 1 is old level 2; 1 times level 1 is added to level 2; a number is added to level 2; 7 is in the
-- tile 3 of size 2, whose loop stands outside; of 0 to 9 in groups of 4, 5 is at place 1 of the full group 1, and 8 at place 0 of
-- the rest's group 2. And (4, 5) is before (4, 6) and also when both are skewed.
abbrev pub WorkedLevels : Type 0
WorkedLevels =
    (permuted (2 ∷ 3 ∷ 1 ∷ []) (pos 7 ∷ pos 8 ∷ pos 9 ∷ []) ≡ pos 8 ∷ pos 9 ∷ pos 7 ∷ [])
    × (unpermuted (2 ∷ 3 ∷ 1 ∷ []) (pos 8 ∷ pos 9 ∷ pos 7 ∷ []) 1 (2 ∷ 3 ∷ 1 ∷ []) ≡ pos 7 ∷ pos 8 ∷ pos 9 ∷ [])
    × (skewed (pos 1 ∷ []) (pos 0) (pos 4 ∷ pos 5 ∷ pos 6 ∷ []) ≡ pos 4 ∷ pos 9 ∷ pos 6 ∷ []) × (shifted 2 (negsuc 0) (pos 4 ∷ pos 5 ∷ []) ≡ pos 4 ∷ pos 4 ∷ [])
    × IsTiled (pos 2) 1 2 (pos 4 ∷ pos 7 ∷ []) (pos 3 ∷ pos 4 ∷ pos 7 ∷ [])
    × IsUnrolled (pos 0) 4 to_nine full (pos 1) (pos 1) (pos 5) × IsUnrolled (pos 0) 4 to_nine (rest 0) (pos 2) (pos 0) (pos 8)
    × IsBefore (place (0 ∷ 0 ∷ 0 ∷ []) (pos 4 ∷ pos 5 ∷ [])) (place (0 ∷ 0 ∷ 0 ∷ []) (pos 4 ∷ pos 6 ∷ []))
    × IsBefore (place (0 ∷ 0 ∷ 0 ∷ []) (skewed (pos 1 ∷ []) (pos 0) (pos 4 ∷ pos 5 ∷ []))) (place (0 ∷ 0 ∷ 0 ∷ []) (skewed (pos 1 ∷ []) (pos 0) (pos 4 ∷ pos 6 ∷ [])))
