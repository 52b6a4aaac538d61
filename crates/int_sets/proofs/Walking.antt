-- A walk over rows by position: what is left of them, one row on.
use Rattle.std.proofs.Common.{◌≡◌, ℕ, ◌+◌, Bool, true, false, List, ◌++◌, ◌∷◌, [], drop, ◌∙◌, append_assoc, arith}
use Rattle.std.specs.Prelude.{Some, slice_get, filter}
use Rattle.std.specs.List.{list_any, position_or_len}
use Rattle.int_rows.specs.declared.row.Row.{Row}
use Rattle.int_sets.proofs.Progress.{here}

module _ (rows : List Row) (i : ℕ) (r : Row) (is : slice_get rows i ≡ Some r) (test : Row → Bool) where
  pub any-found : (b : Bool) → test r ≡ true → list_any test (drop i rows) ≡ b → true ≡ b
  any-found b e h = rw (here rows i r is, e) at h

  pub any-more : (b : Bool) → test r ≡ false → list_any test (drop i rows) ≡ b → list_any test (drop (i + 1) rows) ≡ b
  any-more b e h = rw (here rows i r is, e) at h

  pub position-found : (n : ℕ) → test r ≡ true → i + position_or_len test (drop i rows) ≡ n → i ≡ n
  position-found n e h = let k = rw (here rows i r is, e) at h in omega (arith, k)

  pub position-more : (n : ℕ) → test r ≡ false → i + position_or_len test (drop i rows) ≡ n → (i + 1) + position_or_len test (drop (i + 1) rows) ≡ n
  position-more n e h = let k = rw (here rows i r is, e) at h in omega (arith, k)

  pub filter-more : (kept all : List Row) → test r ≡ true → kept ++ filter test (drop i rows) ≡ all → (kept ++ r ∷ []) ++ filter test (drop (i + 1) rows) ≡ all
  filter-more kept all e h = let k = rw (here rows i r is, e) at h in append_assoc kept (r ∷ []) (filter test (drop (i + 1) rows)) ∙ k

  pub filter-past : (kept all : List Row) → test r ≡ false → kept ++ filter test (drop i rows) ≡ all → kept ++ filter test (drop (i + 1) rows) ≡ all
  filter-past kept all e h = rw (here rows i r is, e) at h
