-- The terms of a statement that are variables of a system, and what stands for each term.
use Rattle.std.specs.Prelude.{◌≡◌, ℕ, ◌+◌, ◌-◌, ◌<◌, ◌≤◌, ◌⊎◌, List, map, length, ℤ, Some, slice_get}
use Rattle.int_rows.specs.declared.row.Aff.{Aff}
use Rattle.int_rows.specs.declared.row.Row.{Row}
use Rattle.nest_tree.specs.declared.kernel.Term.{Term}
use Rattle.nest_tree.specs.Lists.{IsIn}
use Rattle.nest_tree.specs.Forms.{value, coef, Names}
use Rattle.nest_systems.specs.declared.choose.Chosen.{Chosen}
use Rattle.nest_systems.specs.Choosing.{chosen_of}
use Rattle.point_laws.specs.Alike.{IsMet, StandFor}

-- the values of terms behind so many others: each has what its array gives at its arguments' values; no term holds itself
pub record AreReads (first : ℕ) (terms : List Term) (p : List ℤ) : Type 0 where
  pub read : List ℕ → List ℤ → ℤ
  pub values : (t : ℕ) (u : Term) → slice_get terms t ≡ Some u → coef (first + t) p ≡ read u.array (map (value p) u.at)
  pub narrow : (t : ℕ) (u : Term) (f : Aff) → slice_get terms t ≡ Some u → IsIn f u.at → length f.coefs ≤ first + length terms
  pub rank : ℕ → ℕ
  pub above : (t j : ℕ) (u : Term) (f : Aff) → slice_get terms t ≡ Some u → IsIn f u.at → Names f (first + j) → rank j < rank t
  pub bounded : (t : ℕ) → t < length terms → rank t < length terms

-- each term has the value of the one that stands for it, which is a variable; the arguments of such a term hold such terms alone; the variables at the very end are terms from one on
pub record AreStoodFor (first from : ℕ) (terms : List Term) (p : List ℤ) (c : Chosen) : Type 0 where
  pub place : c.first ≡ first
  pub last : c.ends_from ≡ from
  pub count : length c.same ≡ length terms
  pub stand : StandFor first c.same p
  pub closed : (t u : ℕ) (v : Term) (f : Aff) → slice_get c.same t ≡ Some (Some u) → slice_get terms t ≡ Some v → IsIn f v.at → IsMet first c.same f
  pub order : (t : ℕ) → IsIn t c.order → slice_get c.same t ≡ Some (Some t)
  pub ends : (t : ℕ) → IsIn t c.ends → slice_get c.same t ≡ Some (Some t)
  pub late : (t : ℕ) → IsIn t c.ends → from ≤ t
  pub listed : (t u : ℕ) → slice_get c.same t ≡ Some (Some u) → IsIn u c.order ⊎ IsIn u c.ends

-- each term that rows and further forms hold has the value of the one that stands for it
abbrev pub TermsAreStoodFor : Type 0
TermsAreStoodFor =
    (first extras : ℕ) (terms : List Term) (p : List ℤ) (rows : List Row) (forms : List Aff) → AreReads first terms p
    → let c : Chosen = chosen_of first terms extras rows forms in
    AreStoodFor first (length terms - extras) terms p c × ((r : Row) → IsIn r rows → IsMet first c.same r.form) × ((f : Aff) → IsIn f forms → IsMet first c.same f)
