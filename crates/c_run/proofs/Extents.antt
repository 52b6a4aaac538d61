-- Extents of a declaration, by their places.
use Rattle.std.proofs.Common.{ℕ, zero, suc, ◌<◌, ◌≤◌, ◌≡◌, pos, refl, List, [], ◌∷◌, length, get_or, Ok, arith}
use Rattle.c_tree.specs.declared.index.Index.{Index}
use Rattle.c_meaning.specs.Value.{Sight, value_of}
use Rattle.c_run.specs.Inspects.{extent_in}

pub extent_at : (es : List Index) (n : ℕ) (s : Sight) (d : Index) → n < length es → extent_in es n s ≡ value_of (get_or es n d) s
extent_at [] n s d h = absurd (omega (arith, h))
extent_at (e ∷ es) zero s d h = refl
extent_at (e ∷ es) (suc n) s d h = extent_at es n s d (omega arith)

pub extent_missing : (es : List Index) (n : ℕ) (s : Sight) → length es ≤ n → extent_in es n s ≡ Ok (pos 1)
extent_missing [] n s h = refl
extent_missing (e ∷ es) zero s h = absurd (omega (arith, h))
extent_missing (e ∷ es) (suc n) s h = extent_missing es n s (omega arith)
