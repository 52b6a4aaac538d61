-- Statements whose old levels are forms of the new levels and terms, and of whose rows some go.
use Rattle.std.specs.Prelude.{◌≡◌, ◌⊎◌, ℕ, suc, ◌+◌, List, ◌++◌, length, Bool, true}
use Rattle.int_rows.specs.declared.row.Aff.{Aff}
use Rattle.nest_tree.specs.declared.kernel.Nest.{Nest}
use Rattle.nest_tree.specs.declared.kernel.Term.{Term}
use Rattle.nest_tree.specs.declared.kernel.KernelRow.{KernelRow}
use Rattle.nest_tree.specs.Lists.{IsIn, IsAt, Pairwise}
use Rattle.nest_tree.specs.Forms.{Names}
use Rattle.nest_tree.specs.Moving.{Move}
use Rattle.nest_tree.specs.Rewriting.{old_variables, HasValue, SaysAccess, SaysBody}
use Rattle.nest_laws.specs.KernelLaws.{HaveSomeRanks}

-- a form of the new variables has an old form's value, and names the same terms but for those that are marked
pub record Recasts (marked : ℕ → Bool) (olds : List Aff) (old_width new_width : ℕ) (f g : Aff) : Type 0 where
  pub same_value : HasValue olds f g
  pub no_more : (j : ℕ) → Names g (new_width + j) → Names f (old_width + j) ⊎ (marked j ≡ true)
  pub no_fewer : (j : ℕ) → Names f (old_width + j) → Names g (new_width + j) ⊎ (marked j ≡ true)

pub record RecastsTerm (marked : ℕ → Bool) (olds : List Aff) (old_width new_width : ℕ) (t u : Term) : Type 0 where
  pub array : u.array ≡ t.array
  pub at : Pairwise (Recasts marked olds old_width new_width) t.at u.at

-- a row of the same kind, whose form has the old form's value
pub record RecastsRow (olds : List Aff) (r s : KernelRow) : Type 0 where
  pub equal : (s.row).equal ≡ (r.row).equal
  pub form : HasValue olds (r.row).form (s.row).form

-- the term stands in the form, or in an argument of a term that does
pub data IsHeld (width : ℕ) (terms : List Term) (f : Aff) : ℕ → Type 0 where
  named : (j : ℕ) → Names f (width + j) → IsHeld width terms f j
  inside : (k j : ℕ) (t : Term) (g : Aff) → IsHeld width terms f k → IsAt k t terms → IsIn g t.at → Names g (width + j) → IsHeld width terms f j

-- two forms name the same terms
pub record SaysSame (old_width new_width : ℕ) (f g : Aff) : Type 0 where
  pub no_more : (j : ℕ) → Names g (new_width + j) → Names f (old_width + j)
  pub no_fewer : (j : ℕ) → Names f (old_width + j) → Names g (new_width + j)

abbrev pub old_width : ℕ → Move → ℕ
old_width params m = params + length (m.old).levels

abbrev pub new_width : ℕ → Move → ℕ
new_width params m = params + length (m.piece).levels

-- some row of the list holds the term
abbrev pub HoldsTerm : ℕ → List Term → List KernelRow → ℕ → Type 0
HoldsTerm width terms rows j = (r : KernelRow) × IsIn r rows × IsHeld width terms (r.row).form j

-- The new statement does what the old one does, in the new variables. Of the old rows those of `kept` stay, recast. The marked terms
-- are those that forms of old levels name, with the terms in their arguments; in arguments of marked terms no such level stands. The
-- rows of both statements hold each marked term, and each term that a row of the other names. No term holds itself.
pub record IsRecast (params : ℕ) (marked : ℕ → Bool) (m : Move) : Type 0 where
  pub old_shape : length (m.old).positions ≡ suc (length (m.old).levels)
  pub new_shape : length (m.piece).positions ≡ suc (length (m.piece).levels)
  pub forms : length (m.piece).old ≡ length (m.old).levels
  pub positions : (m.new).positions ≡ (m.piece).positions
  pub terms : Pairwise (RecastsTerm marked (old_variables params m) (old_width params m) (new_width params m)) (m.old).terms (m.new).terms
  pub target : SaysAccess (HasValue (old_variables params m)) (m.old).target (m.new).target
  pub how : (m.new).how ≡ (m.old).how
  pub body : SaysBody (HasValue (old_variables params m)) (m.old).value (m.new).value
  pub kept : List KernelRow
  pub recast : List KernelRow
  pub are_old : (r : KernelRow) → IsIn r kept → IsIn r (m.old).rows
  pub says : Pairwise (RecastsRow (old_variables params m)) kept recast
  pub rows : (m.new).rows ≡ recast ++ (m.piece).rows
  pub old_ranks : HaveSomeRanks (old_width params m) (m.old).terms
  pub new_ranks : HaveSomeRanks (new_width params m) (m.new).terms
  pub closed : (k j : ℕ) (t : Term) (f : Aff) → marked k ≡ true → IsAt k t (m.old).terms → IsIn f t.at → Names f (old_width params m + j) → marked j ≡ true
  pub plain : (k : ℕ) (t u : Term) → marked k ≡ true → IsAt k t (m.old).terms → IsAt k u (m.new).terms → Pairwise (SaysSame (old_width params m) (new_width params m)) t.at u.at
  pub marked_old : (j : ℕ) → marked j ≡ true → HoldsTerm (old_width params m) (m.old).terms (m.old).rows j
  pub marked_new : (j : ℕ) → marked j ≡ true → HoldsTerm (new_width params m) (m.new).terms (m.new).rows j
  pub old_held : (r : KernelRow) (j : ℕ) → IsIn r (m.old).rows → Names (r.row).form (old_width params m + j) → HoldsTerm (new_width params m) (m.new).terms (m.new).rows j
  pub new_held : (r : KernelRow) (j : ℕ) → IsIn r (m.new).rows → Names (r.row).form (new_width params m + j) → HoldsTerm (old_width params m) (m.old).terms (m.old).rows j
