-- The reads that forms name, in order: each stands behind those in its arguments.
use Rattle.std.specs.Prelude.{◌≡◌, ℕ, ◌<◌, List, [], pos, length, slice_get}
use Rattle.nest_tree.specs.Lists.{IsIn}
use Rattle.scan_forms.specs.declared.affine.Affine.{Affine}
use Rattle.scan_forms.specs.declared.reads.Read.{Read}
use Rattle.scan_forms.specs.Numbers.{number_at}
use Rattle.scanning.specs.Named.{named, arguments}
use Rattle.scanning_laws.specs.Asking.{InnerFirst}

-- a form holds a read
abbrev pub Holds : ℕ → Affine → Type 0
Holds j f = number_at j f.reads ≡ pos 0 → ⊥

-- a read stands in an argument of another
pub record IsInnerOf (table : List Read) (j i : ℕ) : Type 0 where
  pub form : Affine
  pub is_in : IsIn form (arguments (slice_get table i))
  pub held : Holds j form

-- the reads in arguments stand before
abbrev pub IsTable : List Read → Type 0
IsTable table = (j i : ℕ) → IsInnerOf table j i → j < i

-- what a form names comes inner ones first, and has each read that the form holds
abbrev pub NamedIsInnerFirst : Type 0
NamedIsInnerFirst =
    (table : List Read) (f : Affine) → IsTable table → InnerFirst (IsInnerOf table) (named table [] f) [] × ((j : ℕ) → j < length table → Holds j f → IsIn j (named table [] f))
