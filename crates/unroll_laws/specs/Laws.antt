-- Laws of unrolled statements: their pieces are one to one and onto, and each stands for the old statement.
use Rattle.std.specs.Prelude.{◌≡◌, ℕ, ◌<◌, List, length, ℤ, Bool}
use Rattle.int_rows.specs.declared.row.Aff.{Aff}
use Rattle.nest_tree.specs.declared.kernel.Nest.{Nest}
use Rattle.nest_tree.specs.Terms.{Input}
use Rattle.nest_tree.specs.Kernels.{IsPointOf}
use Rattle.nest_tree.specs.Moving.{Move, Gives, StandsFor}
use Rattle.nest_tree.specs.Unrolling.{Part}
use Rattle.nest_laws.specs.Acts.{act}
use Rattle.unroll_laws.specs.Grouping.{UpperRow, IsBounded, IsGroupPiece, IsUnrolling, IsOneOf}

-- each piece makes a statement that has a point exactly where the old one has one in this part of the groups, and does the same there
abbrev pub GroupPieceStandsForOld : Type 0
GroupPieceStandsForOld =
    (i : Input) (before factor : ℕ) (low : Aff) (us : List UpperRow) (marked : ℕ → Bool) (part : Part) (copy : ℕ) (m : Move)
    → 0 < factor → copy < factor → IsBounded (length i.params) before low us m.old → IsGroupPiece (length i.params) before factor low us marked part copy m → StandsFor act i m

-- the pieces of one statement take each old instance to one new point of one piece
pub record IsOneToOneInto (i : Input) (IsMove : Move → Type 0) (n : Nest) : Type 0 where
  pub some : (vs : List ℤ) → IsPointOf i n vs → (m : Move) × (ws : List ℤ) × IsMove m × Gives i m vs ws
  pub one : (m k : Move) (vs ws us : List ℤ) → IsMove m → IsMove k → IsPointOf i n vs → Gives i m vs ws → Gives i k vs us → (m ≡ k) × (ws ≡ us)

abbrev pub UnrolledStatementIsOneToOne : Type 0
UnrolledStatementIsOneToOne =
    (i : Input) (before factor : ℕ) (low : Aff) (us : List UpperRow) (marked : ℕ → Bool) (n : Nest) (copies rests : ℕ → Move)
    → 0 < factor → IsUnrolling (length i.params) before factor low us marked n copies rests → IsOneToOneInto i (IsOneOf factor (length us) copies rests) n
