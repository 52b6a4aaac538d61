-- The steps of a loop that puts a form in place of a variable in each row.
use Rattle.std.proofs.Common.{◌≡◌, ℕ, suc, ◌+◌, ◌≤◌, List, ◌++◌, ◌∷◌, [], length, map, drop, drop-cons, add-one, append_assoc, append-nil, sym, ap, ◌∙◌}
use Rattle.std.specs.Prelude.{Some, None, slice_get}
use Rattle.std.proofs.lemmas.List.{drop_all}
use Rattle.std.proofs.lemmas.Option.{slice_get_within, get_or_from_slice_get}
use Rattle.int_rows.specs.Systems.{replaced, replaced_past, first_of}
use Rattle.int_rows.specs.declared.row.Aff.{Aff}
use Rattle.int_rows.specs.declared.row.Row.{Row}

-- of the first i rows no number passes the limit, and these are made
pub record Replaced (x : ℕ) (by : Aff) (rows : List Row) (i : ℕ) (new : List Row) : Type 0 where
  pub past : first_of (map (replaced_past x by) (drop i rows)) ≡ first_of (map (replaced_past x by) rows)
  pub made : new ++ map (replaced x by) (drop i rows) ≡ map (replaced x by) rows

module _ (x : ℕ) (by : Aff) (rows : List Row) (i : ℕ) (new : List Row) (r : Row) (is : slice_get rows i ≡ Some r) where
  next : drop i rows ≡ r ∷ drop (suc i) rows
  next = drop-cons rows i r (slice_get_within rows i r is) ∙ ap (λ (a : Row). a ∷ drop (suc i) rows) (get_or_from_slice_get rows i r r is)

  pub replaced-more : (row : Row) → (replaced_past x by r ≡ None) × (row ≡ replaced x by r) → Replaced x by rows i new → Replaced x by rows (i + 1) (new ++ row ∷ [])
  replaced-more row e h =
      let past = rw (next, e.0) at h.past in
      let made = rw next at h.made in
      rw (add-one i) (record { past = past; made = rw (append_assoc, e.1) made })

  pub replaced-past : (at : ℕ) → replaced_past x by r ≡ Some at → Replaced x by rows i new → first_of (map (replaced_past x by) rows) ≡ Some at
  replaced-past at e h = sym (rw (next, e) at h.past)

pub replaced-end : (x : ℕ) (by : Aff) (rows : List Row) (i : ℕ) (new : List Row) → length rows ≤ i → Replaced x by rows i new
    → (first_of (map (replaced_past x by) rows) ≡ None) × (new ≡ map (replaced x by) rows)
replaced-end x by rows i new l h =
    let none : drop i rows ≡ [] = drop_all i rows l in
    (sym (rw none at h.past), sym (append-nil new) ∙ rw none at h.made)
