-- The cells of an array that a store holds are those of its memory.
use Rattle.std.proofs.Common.{◌≡◌, ℕ, ◌+◌, ◌-◌, ◌*◌, ◌%◌, ◌^◌, ◌<◌, ℤ, pos, negsuc, int_le, int_lt, Bool, true, false, ◌&&◌, List, [], ◌∷◌, length, get_or, Option, Some, None, if◌then◌else◌, refl, sym, ap, ◌∙◌, subst, arith}
use Rattle.std.specs.Prelude.{nat_lt}
use Rattle.std.specs.Option.{option_map}
use Rattle.std.proofs.Math.Nat.{mod-eq_of_lt}
use Rattle.std.proofs.lemmas.Int.{ints}
use Rattle.std.proofs.lemmas.Option.{same_Some, none-some}
use Rattle.c_tree.specs.declared.program.Kind.{Kind}
use Rattle.c_tree.specs.declared.program.Kind.TheVariants.{Number, Position}
use Rattle.c_meaning.specs.Names.{Name, same_name}
use Rattle.c_walk.specs.State.{memory_in}
use Rattle.raw_store.specs.Rows.{Rows}
use Rattle.csr_data.specs.declared.values.Table.{Table}
use Rattle.csr_data.specs.Values.{array_of}
use Rattle.c_run.specs.Arrays.{signed, table_of, shape_of, extents_of, extents_of_rows, cell_in, cell_of}
use Rattle.c_run.specs.Store.{number_as, data_as, number_of, data_of, prepared}
use Rattle.measured_run.specs.Figures.{word, at_places, cells_of}
use Rattle.measured_run.proofs.Places.{piece_fits, places_are}

-- as many cells as the extents say, each below 2^64
pub record IsFull (g : Rows) : Type 0 where
  pub count : length g.cells ≡ g.first * (g.deep * g.wide)
  pub words : (k : ℕ) → k < length g.cells → get_or g.cells k 0 < 2 ^ 64

-- a word is kept as a number of an index array
word_kept : (c : ℕ) → c < 2 ^ 64 → word (signed c) ≡ c
word_kept c h = by (nat_lt c (2 ^ 63)) refl
  where
    by : (t : Bool) → nat_lt c (2 ^ 63) ≡ t → word (if t then pos c else negsuc (2 ^ 64 - 1 - c)) ≡ c
    by true is = mod-eq_of_lt h
    by false is = (let e : (2 ^ 64 - 1 - c) % 2 ^ 64 ≡ 2 ^ 64 - 1 - c = mod-eq_of_lt (omega (arith, h)) in omega (arith, h, e))

-- whichever kind of array it is
kept : (k : Kind) (c : ℕ) → c < 2 ^ 64 → word (number_as k c) + data_as k c ≡ c
kept Number c h = omega arith
kept Position c h = let e = word_kept c h in omega (arith, e)

inside : (i a : ℕ) → i < a → (int_le (pos 0) (pos i) && int_lt (pos i) (pos a)) ≡ true
inside i a h = grind (arith, ints)

chosen : (v : ℕ) (p q r : Bool) → p ≡ true → q ≡ true → r ≡ true → (if p && (q && (r && true)) then v else 0) ≡ v
chosen v true true true e f h = refl
chosen v true true false e f h = absurd cc
chosen v true false r e f h = absurd cc
chosen v false q r e f h = absurd cc

-- a cell that is inside
cell_is : (g : Rows) (i j k : ℕ) → i < g.first → j < g.deep → k < g.wide → cell_in g (pos i ∷ pos j ∷ pos k ∷ []) ≡ get_or g.cells (i * (g.deep * g.wide) + (j * g.wide + k)) 0
cell_is g i j k row line cell =
    chosen (get_or g.cells (i * (g.deep * g.wide) + (j * g.wide + k)) 0) (int_le (pos 0) (pos i) && int_lt (pos i) (pos g.first)) (int_le (pos 0) (pos j) && int_lt (pos j) (pos g.deep)) (int_le (pos 0) (pos k) && int_lt (pos k) (pos g.wide))
    (inside i g.first row) (inside j g.deep line) (inside k g.wide cell)

-- what it is in a memory
cell_held : (kind : Kind) (g : Rows) (i j k : ℕ) → i < g.first → j < g.deep → k < g.wide → IsFull g
    → word (number_as kind (cell_in g (pos i ∷ pos j ∷ pos k ∷ []))) + data_as kind (cell_in g (pos i ∷ pos j ∷ pos k ∷ [])) ≡ get_or g.cells (i * (g.deep * g.wide) + (j * g.wide + k)) 0
cell_held kind g i j k row line cell full =
    let outer = piece_fits i g.first (g.deep * g.wide) row in
    let inner = piece_fits j g.deep g.wide line in
    let there = full.count in
    let below : i * (g.deep * g.wide) + (j * g.wide + k) < length g.cells = omega (arith, outer, inner, there, cell) in
    ap (λ (v : ℕ). word (number_as kind v) + data_as kind v) (cell_is g i j k row line cell)
    ∙ kept kind (get_or g.cells (i * (g.deep * g.wide) + (j * g.wide + k)) 0) (full.words (i * (g.deep * g.wide) + (j * g.wide + k)) below)

-- what a cell of a table is in a memory
abbrev held_in : Option Table → List ℤ → ℕ
held_in o at = word (number_of (option_map shape_of o) (cell_of o at)) + data_of (option_map shape_of o) (cell_of o at)

table_cells : (t : Table) → IsFull t.cells → at_places (extents_of_rows t.cells) (held_in (Some t)) ≡ t.cells.cells
table_cells t full =
    places_are t.cells.first t.cells.deep t.cells.wide (held_in (Some t)) t.cells.cells full.count (λ i j k row line cell. cell_held t.kind t.cells i j k row line cell full)

cells_is : (o : Option Table) (g : Rows) → option_map (λ (t : Table). t.cells) o ≡ Some g → IsFull g → at_places (extents_of (option_map shape_of o)) (held_in o) ≡ g.cells
cells_is None g e full = absurd (none-some g e)
cells_is (Some t) g e full =
    let same : t.cells ≡ g = same_Some t.cells g e in
    table_cells t (subst (λ (r : Rows). IsFull r) (sym same) full) ∙ ap (λ (r : Rows). r.cells) same

array_is : (ts : List Table) (x : Name) → array_of ts x ≡ option_map (λ (t : Table). t.cells) (table_of ts x)
array_is [] x = refl
array_is (t ∷ ts) x = by (same_name t.name x) (array_is ts x)
  where
    by : (b : Bool) → array_of ts x ≡ option_map (λ (t : Table). t.cells) (table_of ts x) → (if b then Some t.cells else array_of ts x) ≡ option_map (λ (t : Table). t.cells) (if b then Some t else table_of ts x)
    by true e = refl
    by false e = e

pub cells_are : (ts : List Table) (x : Name) (g : Rows) → array_of ts x ≡ Some g → IsFull g → cells_of (memory_in (prepared [] ts)) x ≡ g.cells
cells_are ts x g e full = cells_is (table_of ts x) g (sym (array_is ts x) ∙ e) full

none_is : (o : Option Table) → option_map (λ (t : Table). t.cells) o ≡ None → at_places (extents_of (option_map shape_of o)) (held_in o) ≡ []
none_is None e = refl
none_is (Some t) e = absurd (none-some t.cells (sym e))

pub no_cells : (ts : List Table) (x : Name) → array_of ts x ≡ None → cells_of (memory_in (prepared [] ts)) x ≡ []
no_cells ts x e = none_is (table_of ts x) (sym (array_is ts x) ∙ e)
