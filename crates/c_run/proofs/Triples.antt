-- Three subscripts.
use Rattle.std.proofs.Common.{ℕ, ◌≡◌, ℤ, pos, unsigned_abs, int_le, int_lt, Bool, true, false, ◌&&◌, List, [], ◌∷◌, length, map, get_or, if◌then◌else◌, refl, sym, ap, ◌∙◌, arith, Option, Some, None}
use Rattle.c_meaning.specs.Value.{is_inside}
use Rattle.std.specs.Prelude.{slice_index_or}
use Rattle.std.specs.Option.{option_map}
use Rattle.c_meaning.specs.Names.{Name}
use Rattle.raw_store.specs.Rows.{place}
use Rattle.csr_data.specs.declared.values.Table.{Table}
use Rattle.c_run.specs.Arrays.{place_in, all_places, places_in, shape_of, shape_in, table_of, extents_of, extents_of_rows, seen_in, cell_at, cell_of}

three_are : (at : List ℤ) → length at ≡ 3 → at ≡ get_or at 0 (pos 0) ∷ get_or at 1 (pos 0) ∷ get_or at 2 (pos 0) ∷ []
three_are [] h = absurd (omega (arith, h))
three_are (x ∷ []) h = absurd (omega (arith, h))
three_are (x ∷ y ∷ []) h = absurd (omega (arith, h))
three_are (x ∷ y ∷ z ∷ []) h = refl
three_are (x ∷ y ∷ z ∷ t ∷ ts) h = absurd (omega (arith, h))

choose : (p q r : Bool) (i j k : ℕ) → all_places (if p then Some i else None) (if q then Some j else None) (if r then Some k else None) ≡ (if p && (q && (r && true)) then Some (i ∷ j ∷ k ∷ []) else None)
choose true true true i j k = refl
choose true true false i j k = refl
choose true false true i j k = refl
choose true false false i j k = refl
choose false true true i j k = refl
choose false true false i j k = refl
choose false false true i j k = refl
choose false false false i j k = refl

-- each by itself, and all together
pub places_are : (at : List ℤ) (a b c : ℤ) → length at ≡ 3 → all_places (place_in (get_or at 0 (pos 0)) a) (place_in (get_or at 1 (pos 0)) b) (place_in (get_or at 2 (pos 0)) c) ≡ places_in at (a ∷ b ∷ c ∷ [])
places_are at a b c h =
    choose (int_le (pos 0) (get_or at 0 (pos 0)) && int_lt (get_or at 0 (pos 0)) a) (int_le (pos 0) (get_or at 1 (pos 0)) && int_lt (get_or at 1 (pos 0)) b) (int_le (pos 0) (get_or at 2 (pos 0)) && int_lt (get_or at 2 (pos 0)) c) _ _ _
    ∙ ap (λ l. places_in l (a ∷ b ∷ c ∷ [])) (sym (three_are at h))

-- subscripts that are inside have places
pub some_places : (at es : List ℤ) (p : List ℕ) → places_in at es ≡ Some p → (is_inside at es ≡ true) × (p ≡ map unsigned_abs at)
some_places at es p h = by (is_inside at es) refl
  where
    by : (b : Bool) → is_inside at es ≡ b → (is_inside at es ≡ true) × (p ≡ map unsigned_abs at)
    by true k = (k, let e : Some (map unsigned_abs at) ≡ Some p = sym (ap (λ b. let r : Option (List ℕ) = if b then Some (map unsigned_abs at) else None in r) k) ∙ h in cc)
    by false k = let e : None ≡ Some p = sym (ap (λ b. let r : Option (List ℕ) = if b then Some (map unsigned_abs at) else None in r) k) ∙ h in absurd (cc)

pub no_places : (at es : List ℤ) → places_in at es ≡ None → is_inside at es ≡ false
no_places at es h = by (is_inside at es) refl
  where
    by : (b : Bool) → is_inside at es ≡ b → is_inside at es ≡ false
    by true k = let e : Some (map unsigned_abs at) ≡ None = sym (ap (λ b. let r : Option (List ℕ) = if b then Some (map unsigned_abs at) else None in r) k) ∙ h in absurd (cc)
    by false k = k

module _ (ts : List Table) (x : Name) (t : Table) (h : table_of ts x ≡ Some t) where
  pub extents_are : extents_of (shape_in ts x) ≡ extents_of_rows t.cells
  extents_are = ap (λ o. extents_of (option_map shape_of o)) h

module _ (ts : List Table) (x : Name) (t : Table) (h : table_of ts x ≡ Some t) (at : List ℤ) where
  -- a cell that is seen, or not
  pub seen_some : (v : ℕ) → is_inside at (extents_of_rows t.cells) ≡ true → v ≡ slice_index_or t.cells.cells (place t.cells (map unsigned_abs at)) 0 → Some v ≡ seen_in ts x at
  seen_some v k e =
      sym (ap (λ es. if is_inside at es then Some (cell_at ts x at) else None) (extents_are ts x t h) ∙ ap (λ b. if b then Some (cell_at ts x at) else None) k
      ∙ ap Some (ap (λ o. cell_of o at) h ∙ ap (λ b. if b then slice_index_or t.cells.cells (place t.cells (map unsigned_abs at)) 0 else 0) k ∙ sym e))

  pub seen_none : is_inside at (extents_of_rows t.cells) ≡ false → None ≡ seen_in ts x at
  seen_none k = sym (ap (λ es. if is_inside at es then Some (cell_at ts x at) else None) (extents_are ts x t h) ∙ ap (λ b. if b then Some (cell_at ts x at) else None) k)

  pub inside_table : is_inside at (extents_of (shape_in ts x)) ≡ true → is_inside at (extents_of_rows t.cells) ≡ true
  inside_table k = ap (is_inside at) (sym (extents_are ts x t h)) ∙ k
