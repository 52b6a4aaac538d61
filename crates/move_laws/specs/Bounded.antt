-- Statements that are bounded in every direction of their levels.
use Rattle.std.specs.Prelude.{◌≡◌, ℕ, List, [], ◌∷◌, map, length, ℤ, pos}
use Rattle.int_rows.specs.Rows.{dot, Holds}
use Rattle.nest_tree.specs.declared.kernel.Nest.{Nest}
use Rattle.nest_tree.specs.declared.kernel.KernelRow.{KernelRow}
use Rattle.nest_tree.specs.Lists.{IsIn}
use Rattle.nest_tree.specs.Forms.{zeros}
use Rattle.nest_tree.specs.Moving.{Move}
use Rattle.nest_tree.specs.Rewriting.{IsRewritten}

-- each number is 0
abbrev pub AreZero : List ℤ → Type 0
AreZero [] = Unit
AreZero (v ∷ vs) = (v ≡ pos 0) × AreZero vs

-- in this direction of the levels, with all parameters and terms at 0, the row stays met for ever
abbrev pub GoesOn : ℕ → List ℤ → KernelRow → Type 0
GoesOn params vs r = Holds (r.row).equal (dot ((r.row).form).coefs (zeros params vs))

-- there is no direction in which all rows of the statement stay met for ever
abbrev pub IsBounded : ℕ → Nest → Type 0
IsBounded params n = (vs : List ℤ) → length vs ≡ length n.levels → ((r : KernelRow) → IsIn r n.rows → GoesOn params vs r) → AreZero vs

-- new levels in whose direction the piece's rows stay met and no old level moves are 0
abbrev pub TellsLevels : ℕ → Move → Type 0
TellsLevels params m =
    (ws : List ℤ) → length ws ≡ length (m.piece).levels → ((r : KernelRow) → IsIn r (m.piece).rows → GoesOn params ws r)
    → AreZero (map (λ f. dot f.coefs (zeros params ws)) (m.piece).old) → AreZero ws

-- a rewritten statement is bounded where the old one is
abbrev pub RewrittenStaysBounded : Type 0
RewrittenStaysBounded = (params : ℕ) (m : Move) → IsRewritten params m → TellsLevels params m → IsBounded params m.old → IsBounded params m.new
