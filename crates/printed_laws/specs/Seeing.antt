-- What is seen inside loops that a scan opened.
use Rattle.std.specs.Prelude.{◌≡◌, ℕ, ◌<◌, ◌≤◌, ◌^◌, false, List, [], length, ℤ, unsigned_abs, slice_index_or, Some}
use Rattle.c_meaning.specs.Names.{Name, same_name}
use Rattle.c_meaning.specs.Value.{cell_seen}
use Rattle.c_meaning.specs.Listing.{Scene}
use Rattle.nest_tree.specs.declared.kernel.Kernel.{Kernel}
use Rattle.nest_tree.specs.Lists.{Pairwise}
use Rattle.nest_tree.specs.Loops.{Levels}
use Rattle.nest_tree.specs.Terms.{Input}
use Rattle.nest_laws.specs.Acts.{three}
use Rattle.scan_forms.specs.Numbers.{number_at}
use Rattle.scanning.specs.Sizes.{cell_size}
use Rattle.scanning.specs.Written.{level_name}
use Rattle.scanning.specs.Parts.{Around, sizes_of}
use Rattle.scanning_laws.specs.Derived.{seen_in}
use Rattle.scanning_laws.specs.Knowing.{KeepsTo}
use Rattle.printed_laws.specs.Printed.{Sees}

-- Around all loops: the parameters have their values, which are small, no name of a level is one of theirs, and each cell that the
-- kernel sees of an index array is there.
pub record SeesOutside (k : Kernel) (i : Input) (c : Scene) : Type 0 where
  pub count : length i.params ≡ length k.head.params
  pub param : (p : ℕ) → p < length k.head.params → (c.sight).value (slice_index_or k.head.params p []) ≡ number_at p i.params
  pub param_sized : (p : ℕ) → p < length k.head.params → unsigned_abs (number_at p i.params) ≤ 2 ^ 24
  pub apart : (p q : ℕ) → p < length k.head.params → q < 8 → same_name (level_name q) (slice_index_or k.head.params p []) ≡ false
  pub cell : (array : Name) (at : List ℤ) (v : ℤ) → i.cells array at ≡ Some v → (cell_seen c.sight array (three at) ≡ Some v) × (unsigned_abs v ≤ cell_size k.made array)

-- inside loops, level values that keep to the loops' sizes are seen
abbrev pub LoopsSeeLevels : Type 0
LoopsSeeLevels = (k : Kernel) (i : Input) (c : Scene) (a : Around) (e : Levels) → SeesOutside k i c → length a ≤ 8 → length e ≡ length a → Pairwise KeepsTo a e → Sees k i (sizes_of a) e (seen_in c a e)
