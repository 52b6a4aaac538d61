-- Copies of an unrolled statement, as the laws have them.
use Rattle.std.specs.Prelude.{◌≡◌, ℕ, suc, ◌+◌, ◌≤◌, ◌<◌, ◌^◌, List, [], ◌∷◌, map, length, ℤ, pos, ◌-ℤ◌, unsigned_abs, Some}
use Rattle.int_rows.specs.declared.row.Aff.{Aff}
use Rattle.c_tree.specs.declared.program.Program.{Program}
use Rattle.nest_tree.specs.declared.kernel.Nest.{Nest}
use Rattle.nest_tree.specs.declared.kernel.KernelRow.{KernelRow}
use Rattle.nest_tree.specs.Lists.{IsIn, Pairwise}
use Rattle.nest_tree.specs.Forms.{coef}
use Rattle.nest_tree.specs.Pieces.{IsLike}
use Rattle.nest_tree.specs.Unrolling.{full}
use Rattle.nest_core.specs.Shapes.{IsShapedNest}
use Rattle.unroll_laws.specs.Grouping.{IsRowOf, group_forms, level_forms}
use Rattle.unroll.specs.declared.bounds.Bounds.{Bounds}
use Rattle.unroll.specs.Bounds.{bounds_of}
use Rattle.unroll.specs.Groups.{value_form}
use Rattle.unroll.specs.Unrolled.{full_piece}
use Rattle.unroll_bounds.specs.Laws.{low_of, upper_of}

-- its numbers are within the limit
pub record IsSmall (f : Aff) : Type 0 where
  pub coefs : (j : ℕ) → unsigned_abs (coef j f.coefs) ≤ 2 ^ 126
  pub constant : unsigned_abs f.constant ≤ 2 ^ 126

-- the level's value at a place of a group, as it is made
abbrev pub value_at : ℕ → ℕ → Bounds → ℤ → Aff
value_at x factor b place = value_form b.lower x (pos factor ∷ []) place

-- where no number is past the limit, the forms of the old levels and the rows of a copy are those of the law
abbrev pub CopyIsOfTheLaw : Type 0
CopyIsOfTheLaw =
    (head : Program) (n : Nest) (before factor copy : ℕ) (b : Bounds) (positions : List ℕ) → IsShapedNest head n → before < length n.levels → bounds_of (length head.params) (suc before) n ≡ Some b
    → let x : ℕ = length head.params + before in IsSmall (value_at x factor b (pos copy)) → IsSmall (value_at x factor b (pos factor -ℤ pos 1))
    → ((r : KernelRow) → IsIn r (full_piece (length head.params) (suc before) factor copy n b positions).rows → IsSmall (r.row).form)
    → Pairwise IsLike (full_piece (length head.params) (suc before) factor copy n b positions).old (level_forms full factor copy (length head.params) before (length n.levels) (low_of x b.lower))
    × Pairwise IsRowOf (full_piece (length head.params) (suc before) factor copy n b positions).rows (group_forms full factor copy x (low_of x b.lower) (map (upper_of x) b.uppers))
