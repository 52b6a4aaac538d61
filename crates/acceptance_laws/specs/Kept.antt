-- What acceptance keeps of bounds and tests that are passed.
use Rattle.std.specs.Prelude.{◌≡◌, ◌≤◌, ◌^◌, max, unsigned_abs, true, List, [], ◌∷◌, ℤ, Some}
use Rattle.std.specs.List.{list_all, AllByRecursion}
use Rattle.c_tree.specs.declared.program.Matrix.{Matrix}
use Rattle.c_meaning.specs.Names.{Name}
use Rattle.c_meaning.specs.Value.{Sight, cell_seen}
use Rattle.acceptance.specs.Expressions.{Expression, plain}
use Rattle.acceptance.specs.Affine.{is_affine, is_index_array, mentions, lowers, uppers}
use Rattle.acceptance.specs.Sizes.{Size, size_of, weight}
use Rattle.acceptance.specs.Visits.{Passed, looped, tested}
use Rattle.acceptance_laws.specs.Listed.{IsSmall, HasSmallAt}

-- the terms of an expression have small subscripts, and its operands are affine and small
pub record IsKeptBy (ms : List Matrix) (sizes : List Size) (e : Expression) (operands : List Expression) : Type 0 where
  pub terms : AllByRecursion (HasSmallAt sizes) (mentions ms e)
  pub affine : list_all (is_affine ms) operands ≡ true
  pub small : AllByRecursion (IsSmall sizes) operands

-- both bounds of a loop are so, and its variable has the greater of their sizes; or both sides of a test are
abbrev pub IsKept : List Matrix → List Size → Passed → Type 0
IsKept ms sizes (looped x low high) =
    IsKeptBy ms sizes (plain low) (lowers (plain low)) × IsKeptBy ms sizes (plain high) (uppers (plain high)) × (size_of sizes x ≡ max (weight sizes (plain low)) (weight sizes (plain high)))
IsKept ms sizes (tested t) = IsKeptBy ms sizes (plain t.left) (plain t.left ∷ []) × IsKeptBy ms sizes (plain t.right) (plain t.right ∷ [])

-- the expressions of an assignment's cells are affine and small, and so are the subscripts of their terms
abbrev pub AreKept : List Matrix → List Size → List Expression → Type 0
AreKept ms sizes es = AllByRecursion (λ e. IsKeptBy ms sizes e (e ∷ [])) es

-- the cells that are found in matrices' arrays are at most 2^24
abbrev pub HasSmallCells : List Matrix → Sight → Type 0
HasSmallCells ms s = (a : Name) (at : List ℤ) (w : ℤ) → is_index_array ms a ≡ true → cell_seen s a at ≡ Some w → unsigned_abs w ≤ 2 ^ 24
