-- One cell of one array is written.
use Rattle.std.proofs.Common.{◌≡◌, ℕ, zero, suc, ◌<◌, Bool, true, false, not, List, [], ◌∷◌, ◌++◌, take, drop, length, set, get_or, slice_set, if◌then◌else◌, refl, sym, ap, ◌∙◌, drop-cons, arith}
use Rattle.std.proofs.lemmas.List.{set_split, get_or_default}
use Rattle.std.specs.Str.{bytes_eq}
use Rattle.c_meaning.specs.Names.{Name, same_name}
use Rattle.raw_store.specs.Rows.{place}
use Rattle.csr_data.specs.declared.values.Table.{Table}
use Rattle.csr_data.specs.Values.{with_cell, has_cell, array_of}

choice : (b : Bool) (u w : List Table) → b ≡ true → (if b then u else w) ≡ u
choice true u w e = refl
choice false u w e = cc

abbrev pub with_number : Table → List ℕ → ℕ → Table
with_number t at v = record t { cells = record t.cells { cells = slice_set t.cells.cells (place t.cells at) v } }

pub with_cell_at : (ts : List Table) (i : ℕ) (t t' : Table) (x : Name) (at : List ℕ) (v : ℕ) → i < length ts → t ≡ get_or ts i t → same_name t.name x ≡ true → t' ≡ with_number t at v
    → take i ts ++ with_cell (drop i ts) x at v ≡ with_cell ts x at v → set ts i t' ≡ with_cell ts x at v
with_cell_at ts i t t' x at v lt read same is passed =
    let first = drop-cons ts i t lt ∙ ap (λ u. u ∷ drop (suc i) ts) (sym read) in
    let rest = ap (λ l. with_cell l x at v) first ∙ choice (same_name t.name x) (with_number t at v ∷ drop (suc i) ts) (t ∷ with_cell (drop (suc i) ts) x at v) same in
    set_split ts i t' lt ∙ ap (λ u. take i ts ++ u ∷ drop (suc i) ts) is ∙ ap (λ l. take i ts ++ l) (sym rest) ∙ passed

-- the array that was found by its name
pub found_name : (ts : List Table) (i : ℕ) (u t : Table) (x a b : Name) → i < length ts → u ≡ get_or ts i u → t ≡ get_or ts i t → a ≡ u.name → b ≡ x → not (bytes_eq a b) ≡ false → same_name t.name x ≡ true
found_name ts i u t x a b lt eu et ea eb h =
    let same : u ≡ t = eu ∙ get_or_default ts i u t lt ∙ sym et in
    let first : t.name ≡ a = sym (ea ∙ ap (λ (z : Table). z.name) same) in
    ap (λ n. same_name n x) first ∙ ap (same_name a) (sym eb) ∙ yes (bytes_eq a b) h
  where
    yes : (y : Bool) → not y ≡ false → y ≡ true
    yes true e = refl
    yes false e = cc

pub has_place : (ts : List Table) (i : ℕ) (x : Name) (at : List ℕ) → has_cell (array_of (drop i ts) x) at → i < length ts
has_place [] zero x at h = absurd h
has_place [] (suc i) x at h = absurd h
has_place (t ∷ ts) zero x at h = omega arith
has_place (t ∷ ts) (suc i) x at h = let more = has_place ts i x at h in omega arith
