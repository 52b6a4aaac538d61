-- The bounds that `unroll` finds for a level, as the laws of unrolled statements have them.
use Rattle.std.specs.Prelude.{◌≡◌, ℕ, suc, ◌+◌, ◌<◌, map, length, ℤ, pos, negsuc, Some}
use Rattle.int_rows.specs.declared.row.Aff.{Aff}
use Rattle.c_tree.specs.declared.program.Program.{Program}
use Rattle.nest_tree.specs.declared.kernel.Nest.{Nest}
use Rattle.nest_tree.specs.Forms.{coef, sum, times, less, variable}
use Rattle.nest_core.specs.Shapes.{IsShapedNest}
use Rattle.unroll_laws.specs.Grouping.{UpperRow, IsBounded}
use Rattle.unroll.specs.declared.bounds.Bounds.{Bounds}
use Rattle.unroll.specs.Bounds.{bounds_of}

-- the lower row of the level that is variable x is x - low, so low is x less that row
abbrev pub low_of : ℕ → Aff → Aff
low_of x f = less (variable x) f

-- 1 less than the size of a negative number
abbrev pub size_less_one : ℤ → ℕ
size_less_one (pos n) = 0
size_less_one (negsuc n) = n

-- an upper row of the level is bound - b*x, so the bound is that row and b*x
abbrev pub upper_of : ℕ → Aff → UpperRow
upper_of x f = let k : ℕ = size_less_one (coef x f.coefs) in record { less_one = k; bound = sum f (times (pos (suc k)) (variable x)) }

-- where bounds are found for a level of a shaped statement, they bound it, and name it or a later level in none of their own forms
abbrev pub FoundBoundsAreBounds : Type 0
FoundBoundsAreBounds =
    (head : Program) (n : Nest) (before : ℕ) (b : Bounds) → IsShapedNest head n → before < length n.levels → bounds_of (length head.params) (suc before) n ≡ Some b
    → IsBounded (length head.params) before (low_of (length head.params + before) b.lower) (map (upper_of (length head.params + before)) b.uppers) n
