-- The tests of a padding.
use Rattle.std.specs.Prelude.{◌⊎◌, ⊤, ℕ, List, [], ◌∷◌, Some, None}
use Rattle.nest_tree.specs.declared.fault.CommandFault.{CommandFault}
use Rattle.nest_tree.specs.declared.fault.CommandFault.TheVariants.{Shape, Depends, Overflow}
use Rattle.nest_tree.specs.declared.kernel.Kernel.{Kernel}
use Rattle.depend_test.specs.Tested.{FindsAt}
use Rattle.pad_layouts.specs.declared.layout.Layout.{Layout}
use Rattle.pad_layouts.specs.declared.layout.Layout.TheVariants.{Block, Diag, Rows}

-- the levels whose instances may come in another order: the compacted one, and that of the entry's place, since the entries of a row and a column are put together; padded rows keep the order
abbrev pub tested_levels : Layout → List ℕ
tested_levels (Block rows cols swapped) = 2 ∷ 5 ∷ []
tested_levels Diag = 1 ∷ 3 ∷ []
tested_levels Rows = []

-- the test of each level finds no dependence
abbrev pub FindNone : Kernel → ℕ → List ℕ → Type 0
FindNone k s [] = ⊤
FindNone k s (level ∷ levels) = FindsAt k s level None × FindNone k s levels

-- the test of a level ends in this fault: the dependence that it finds, or a limit
abbrev pub IsLevelFault : Kernel → ℕ → ℕ → CommandFault → Type 0
IsLevelFault k s level (Shape why) = ⊥
IsLevelFault k s level (Depends d) = FindsAt k s level (Some d)
IsLevelFault k s level (Overflow e) = ⊤

-- the tests of the levels, one behind the other, end in this fault
abbrev pub IsLevelsFault : Kernel → ℕ → List ℕ → CommandFault → Type 0
IsLevelsFault k s [] fault = ⊥
IsLevelsFault k s (level ∷ levels) fault = IsLevelFault k s level fault ⊎ (FindsAt k s level None × IsLevelsFault k s levels fault)
