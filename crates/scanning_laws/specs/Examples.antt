-- A read in the argument of another.
use Rattle.std.specs.Prelude.{◌≡◌, List, [], ◌∷◌, ℤ, pos}
use Rattle.scan_forms.specs.declared.affine.Affine.{Affine}
use Rattle.scan_forms.specs.declared.reads.Read.{Read}
use Rattle.scanning.specs.Named.{named}
use Rattle.scanning.specs.Kernels.{index, col}

abbrev pub sum : List ℤ → List ℤ → Affine
sum levels reads = record { params = []; levels = levels; reads = reads; constant = pos 0 }

-- index[t1], and col[index[t1]]
abbrev pub nested_reads : List Read
nested_reads = record { array = index; at = sum (pos 1 ∷ []) [] ∷ [] } ∷ record { array = col; at = sum [] (pos 1 ∷ []) ∷ [] } ∷ []

-- a form that holds the outer one names the inner one first
abbrev pub WorkedNames : Type 0
WorkedNames = named nested_reads [] (sum [] (pos 0 ∷ pos 1 ∷ [])) ≡ 0 ∷ 1 ∷ []
