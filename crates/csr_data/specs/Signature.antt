-- Signatures whose extents have values.
use Rattle.std.specs.Prelude.{◌≡◌, ℕ, ◌+◌, ◌<◌, ◌≤◌, ◌^◌, ℤ, unsigned_abs, IsTrue, Bool, false, List, [], length, slice_get, Option, Some, None, Ok, Err, nat_le, map}
use Rattle.c_tree.specs.declared.index.Index.{Index}
use Rattle.c_tree.specs.declared.program.Array.{Array}
use Rattle.c_tree.specs.declared.program.Matrix.{Matrix}
use Rattle.c_tree.specs.declared.program.Program.{Program}
use Rattle.c_meaning.specs.Names.{Name}
use Rattle.c_meaning.specs.Value.{Answer, value_of, values_of}
use Rattle.c_meaning.specs.Scope.{fits}
use Rattle.c_meaning.specs.Inputs.{array_named, three_of}
use Rattle.csr_data.specs.declared.values.Parameter.{Parameter}
use Rattle.csr_data.specs.Extents.{cells_wanted}
use Rattle.csr_data.specs.Parameters.{has, scope_of, sight_of, Gives}

-- a value of at most 2^41 in size
abbrev pub is_small : Answer ℤ → Bool
is_small (Ok v) = nat_le (unsigned_abs v) (2 ^ 41)
is_small (Err e) = false

-- an extent names parameters alone, and has a value of at most 2^41 in size whatever these are
pub record IsExtent (xs : List Name) (e : Index) : Type 0 where
  pub fit : IsTrue (fits e (scope_of xs))
  pub small : (vs : List Parameter) → Gives xs vs → IsTrue (is_small (value_of e (sight_of vs)))

abbrev pub AreExtents : List Name → List Index → Type 0
AreExtents xs es = (k : ℕ) (e : Index) → slice_get es k ≡ Some e → IsExtent xs e

-- the three extents of an array, of which missing ones are 1
abbrev pub extents_of : Array → List Parameter → List ℤ
extents_of a vs = three_of (values_of a.extents (sight_of vs))

abbrev pub extents_if : Option Array → List Parameter → List ℤ
extents_if None vs = []
extents_if (Some a) vs = extents_of a vs

-- a matrix has its parameters and arrays, and an end of rows at least
pub record IsDeclared (p : Program) (m : Matrix) : Type 0 where
  pub cols : IsTrue (has p.params m.cols)
  pub count : IsTrue (has p.params m.count)
  pub index : IsTrue (has (map (λ a. a.name) p.arrays) m.index)
  pub col : IsTrue (has (map (λ a. a.name) p.arrays) m.col)
  pub ends : (vs : List Parameter) → Gives p.params vs → 0 < cells_wanted (extents_if (array_named m.index p.arrays) vs)

-- what a reader of data needs of a signature
pub record IsSignature (p : Program) : Type 0 where
  pub few : length p.params + length p.arrays ≤ 32
  pub extents : (k : ℕ) (a : Array) → slice_get p.arrays k ≡ Some a → AreExtents p.params a.extents
  pub matrices : (k : ℕ) (m : Matrix) → slice_get p.matrices k ≡ Some m → IsDeclared p m
