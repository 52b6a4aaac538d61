-- What an executor sees of a kernel's input inside loops, and which forms can be read there.
use Rattle.std.specs.Prelude.{◌≡◌, ℕ, ◌<◌, ◌≤◌, ◌^◌, nat_eq, false, List, [], ◌∷◌, length, ℤ, unsigned_abs, slice_index_or, Some, IsTrue}
use Rattle.std.specs.List.{list_any}
use Rattle.c_meaning.specs.Names.{Name}
use Rattle.c_meaning.specs.Value.{Sight, cell_seen}
use Rattle.nest_tree.specs.declared.kernel.Kernel.{Kernel}
use Rattle.nest_tree.specs.Loops.{Levels}
use Rattle.nest_tree.specs.Terms.{Input}
use Rattle.nest_laws.specs.Acts.{three}
use Rattle.nest_laws.specs.Weights as weights
use Rattle.scan_forms.specs.declared.affine.Affine.{Affine}
use Rattle.scan_forms.specs.declared.reads.Read.{Read}
use Rattle.scan_forms.specs.Numbers.{number_at}
use Rattle.scanning.specs.Sizes.{Sizes, cell_size}
use Rattle.scanning.specs.Written.{level_name}
use Rattle.scanning_laws.specs.Valued.{only_where, founds_from, form_before, befores_from}

-- no number stands twice
abbrev pub AreDistinct : List ℕ → Type 0
AreDistinct [] = Unit
AreDistinct (i ∷ is) = (list_any (nat_eq i) is ≡ false) × AreDistinct is

-- In loops with the level values e: the variables of the levels and the parameters have their values, each keeps to its size, and
-- each cell that the kernel sees of an index array is there.
pub record Sees (k : Kernel) (i : Input) (sizes : Sizes) (e : Levels) (s : Sight) : Type 0 where
  pub few : length e ≤ 8
  pub level : (q : ℕ) → q < length e → s.value (level_name q) ≡ number_at q e
  pub level_sized : (q : ℕ) → q < length e → unsigned_abs (number_at q e) ≤ slice_index_or sizes q 0
  pub count : length i.params ≡ length k.head.params
  pub param : (p : ℕ) → p < length k.head.params → s.value (slice_index_or k.head.params p []) ≡ number_at p i.params
  pub param_sized : (p : ℕ) → p < length k.head.params → unsigned_abs (number_at p i.params) ≤ 2 ^ 24
  pub cell : (array : Name) (at : List ℤ) (v : ℤ) → i.cells array at ≡ Some v → (cell_seen s array (three at) ≡ Some v) × (unsigned_abs v ≤ cell_size k.made array)

-- the sizes of what is seen
abbrev pub seen_sizes : Kernel → Sight → weights.Sizes
seen_sizes k s = record { names = λ x. unsigned_abs (s.value x); cells = cell_size k.made }

-- the form names only the levels around and reads whose reads find their cells, also inside reads
pub record CanBeRead (i : Input) (table : List Read) (e : Levels) (f : Affine) : Type 0 where
  pub found : IsTrue (only_where (founds_from i e [] [] table) f.reads)
  pub before : IsTrue (form_before (length e) (befores_from (length e) [] table) f)
