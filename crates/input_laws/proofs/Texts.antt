-- Arrays with the same extents and cells are printed alike.
use Rattle.std.proofs.Common.{◌≡◌, ℕ, zero, suc, ◌+◌, ◌-◌, ◌*◌, ◌/◌, ◌%◌, ◌<◌, ◌≤◌, ◌^◌, ℤ, pos, negsuc, unsigned_abs, int_le, int_lt, nat_lt, Bool, true, false, ◌&&◌, List, [], ◌∷◌, ◌++◌, length, map, get_or, if◌then◌else◌, Option, Some, None, refl, sym, ap, ◌∙◌, subst, ◌⊎◌, inl, inr, arith}
use Rattle.std.specs.Option.{option_map}
use Rattle.std.specs.List.{AllByRecursion}
use Rattle.std.proofs.lemmas.Bool.{cases_lt}
use Rattle.std.proofs.lemmas.Grind.{same_number_lists}
use Rattle.std.proofs.lemmas.Int.{ints}
use Rattle.std.proofs.lemmas.List.{get_or_past}
use Rattle.std.proofs.lemmas.Nat.{div_below, mod_below, div-add-mod'}
use Rattle.c_tree.specs.declared.program.Array.{Array}
use Rattle.c_tree.specs.declared.program.Kind.{Kind}
use Rattle.c_tree.specs.declared.program.Kind.TheVariants.{Number, Position}
use Rattle.c_meaning.specs.Programs.{HasSameCells}
use Rattle.c_meaning.specs.Value.{is_inside}
use Rattle.c_walk.specs.State.{memory_in}
use Rattle.raw_store.specs.Rows.{Rows, place}
use Rattle.csr_data.specs.declared.values.Table.{Table}
use Rattle.csr_data.specs.Printed.{line_text}
use Rattle.csr_data.specs.Whole.{AreNumbers, IsWhole}
use Rattle.c_run.specs.Arrays.{shape_of, table_of, extents_of, extents_of_rows, cell_in, cell_of, signed}
use Rattle.c_run.specs.Printing.{AreWhole, rows_in, arrays_text}
use Rattle.c_run.specs.Store.{prepared, data_as, data_of, number_as, number_of}
use Rattle.input_laws.specs.Texts.{AreSame}

-- ---- a cell is told by what a run sees of it
below_half : (c : ℕ) → nat_lt c (2 ^ 63) ≡ true → signed c ≡ pos c
below_half c h = ap (λ (b : Bool). if b then pos c else negsuc (2 ^ 64 - 1 - c)) h

above_half : (c : ℕ) → nat_lt c (2 ^ 63) ≡ false → signed c ≡ negsuc (2 ^ 64 - 1 - c)
above_half c h = ap (λ (b : Bool). if b then pos c else negsuc (2 ^ 64 - 1 - c)) h

-- two cells that hold the same number modulo 2^64
signed_apart : (c d : ℕ) → c < 2 ^ 64 → d < 2 ^ 64 → signed c ≡ signed d → c ≡ d
signed_apart c d lt lt' e = by (nat_lt c (2 ^ 63)) (nat_lt d (2 ^ 63)) refl refl
  where
    by : (a b : Bool) → nat_lt c (2 ^ 63) ≡ a → nat_lt d (2 ^ 63) ≡ b → c ≡ d
    by true true h k = (let same : pos c ≡ pos d = sym (below_half c h) ∙ e ∙ below_half d k in cc)
    by true false h k = (let same : pos c ≡ negsuc (2 ^ 64 - 1 - d) = sym (below_half c h) ∙ e ∙ above_half d k in cc)
    by false true h k = (let same : negsuc (2 ^ 64 - 1 - c) ≡ pos d = sym (above_half c h) ∙ e ∙ below_half d k in cc)
    by false false h k =
        let same : negsuc (2 ^ 64 - 1 - c) ≡ negsuc (2 ^ 64 - 1 - d) = sym (above_half c h) ∙ e ∙ above_half d k in
        let left : 2 ^ 64 - 1 - c ≡ 2 ^ 64 - 1 - d = cc in
        omega (arith, left, lt, lt')

-- the cell that holds the number 0
signed_zero : (c : ℕ) → c < 2 ^ 64 → pos 0 ≡ signed c → c ≡ 0
signed_zero c lt e = by (nat_lt c (2 ^ 63)) refl
  where
    by : (a : Bool) → nat_lt c (2 ^ 63) ≡ a → c ≡ 0
    by true h = (let same : pos 0 ≡ pos c = e ∙ below_half c h in cc)
    by false h = (let same : pos 0 ≡ negsuc (2 ^ 64 - 1 - c) = e ∙ above_half c h in cc)

-- an array of either kind is seen as an index array and as a data array, one of which holds 0 alone
same_cell : (k l : Kind) (c d : ℕ) → c < 2 ^ 64 → d < 2 ^ 64 → number_as k c ≡ number_as l d → data_as k c ≡ data_as l d → c ≡ d
same_cell Number Number c d lt lt' n e = e
same_cell Position Position c d lt lt' n e = signed_apart c d lt lt' n
same_cell Number Position c d lt lt' n e = e ∙ sym (signed_zero d lt' n)
same_cell Position Number c d lt lt' n e = signed_zero c lt (sym n) ∙ e

-- ---- each place of a grid has its subscripts
record Subscripts (a b c k : ℕ) : Type 0 where
  i : ℕ
  j : ℕ
  l : ℕ
  row : i < a
  line : j < b
  cell : l < c
  is : i * (b * c) + (j * c + l) ≡ k

-- a number below a product
record Parts (a b k : ℕ) : Type 0 where
  quotient : ℕ
  rest : ℕ
  first : quotient < a
  second : rest < b
  is : quotient * b + rest ≡ k

parts : (a b k : ℕ) → k < a * b → Parts a b k
parts a zero k lt = absurd (let none : a * 0 ≡ 0 = grind arith in omega (arith, none, lt))
parts a (suc b) k lt =
    let some : 0 < suc b = omega arith in
    record { quotient = k / suc b; rest = k % suc b; first = div_below k (suc b) a some lt; second = mod_below k (suc b) some; is = div-add-mod' k (suc b) }

subscripts : (a b c k : ℕ) → k < a * (b * c) → Subscripts a b c k
subscripts a b c k lt =
    let p = parts a (b * c) k lt in
    let q = parts b c p.rest p.second in
    record { i = p.quotient; j = q.quotient; l = q.rest; row = p.first; line = q.first; cell = q.second; is = ap (λ (r : ℕ). p.quotient * (b * c) + r) q.is ∙ p.is }

inside_of : (i a : ℕ) → i < a → (int_le (pos 0) (pos i) && int_lt (pos i) (pos a)) ≡ true
inside_of i a h = grind (arith, ints)

module _ (g : Rows) (k : ℕ) (s : Subscripts g.first g.deep g.wide k) where
  inside : is_inside (pos s.i ∷ pos s.j ∷ pos s.l ∷ []) (extents_of_rows g) ≡ true
  inside =
      ap (λ p. p && (int_le (pos 0) (pos s.j) && int_lt (pos s.j) (pos g.deep) && (int_le (pos 0) (pos s.l) && int_lt (pos s.l) (pos g.wide) && true))) (inside_of s.i g.first s.row)
      ∙ ap (λ p. p && (int_le (pos 0) (pos s.l) && int_lt (pos s.l) (pos g.wide) && true)) (inside_of s.j g.deep s.line)
      ∙ ap (λ p. p && true) (inside_of s.l g.wide s.cell)

  -- the cell at a place
  placed : cell_in g (pos s.i ∷ pos s.j ∷ pos s.l ∷ []) ≡ get_or g.cells k 0
  placed =
      ap (λ p. if p then get_or g.cells (place g (s.i ∷ s.j ∷ s.l ∷ [])) 0 else 0) inside
      ∙ ap (λ n. get_or g.cells n 0) s.is

-- ---- grids of the same extents and cells
cell_below : (g : Rows) → AreNumbers g.cells → (at : List ℤ) → cell_in g at < 2 ^ 64
cell_below g h at = by (is_inside at (extents_of_rows g))
  where
    number : (k : ℕ) → (k < length g.cells) ⊎ (length g.cells ≤ k) → get_or g.cells k 0 < 2 ^ 64
    number k (inl lt) = h k lt
    number k (inr le) = subst (λ n. n < 2 ^ 64) (sym (get_or_past g.cells k 0 le)) (omega arith)

    by : (b : Bool) → (if b then get_or g.cells (place g (map unsigned_abs at)) 0 else 0) < 2 ^ 64
    by true = let k = place g (map unsigned_abs at) in number k (cases_lt k (length g.cells))
    by false = omega arith

three : {a b c a' b' c' : ℕ} → pos a ∷ pos b ∷ pos c ∷ [] ≡ pos a' ∷ pos b' ∷ pos c' ∷ [] → (a ≡ a') × (b ≡ b') × (c ≡ c')
three e = (cc, cc, cc)

same_lists : (g h : Rows) → IsWhole g → IsWhole h → extents_of_rows g ≡ extents_of_rows h → ((at : List ℤ) → cell_in g at ≡ cell_in h at) → g.cells ≡ h.cells
same_lists g h u v e same = same_number_lists g.cells h.cells (u.count ∙ size ∙ sym v.count) each
  where
    parts_of : (g.first ≡ h.first) × (g.deep ≡ h.deep) × (g.wide ≡ h.wide)
    parts_of = three e

    first : g.first ≡ h.first
    first = parts_of.0

    deep : g.deep ≡ h.deep
    deep = parts_of.1

    wide : g.wide ≡ h.wide
    wide = parts_of.2

    size : g.first * (g.deep * g.wide) ≡ h.first * (h.deep * h.wide)
    size = λ i. first i * (deep i * wide i)

    each : (k : ℕ) → k < length g.cells → get_or g.cells k 0 ≡ get_or h.cells k 0
    each k lt =
        let s = subscripts g.first g.deep g.wide k (subst (λ n. k < n) u.count lt) in
        let t : Subscripts h.first h.deep h.wide k = record {
          i = s.i;
          j = s.j;
          l = s.l;
          row = subst (λ n. s.i < n) first s.row;
          line = subst (λ n. s.j < n) deep s.line;
          cell = subst (λ n. s.l < n) wide s.cell;
          is = (λ i. s.i * (sym deep i * sym wide i) + (s.j * sym wide i + s.l)) ∙ s.is;
        } in
        sym (placed g k s) ∙ same (pos s.i ∷ pos s.j ∷ pos s.l ∷ []) ∙ placed h k t

-- ---- tables that are seen alike
record AreSeenAlike (o q : Option Table) : Type 0 where
  extents : extents_of (option_map shape_of o) ≡ extents_of (option_map shape_of q)
  index : (at : List ℤ) → number_of (option_map shape_of o) (cell_of o at) ≡ number_of (option_map shape_of q) (cell_of q at)
  cells : (at : List ℤ) → data_of (option_map shape_of o) (cell_of o at) ≡ data_of (option_map shape_of q) (cell_of q at)

not_empty : {e : ℤ} {es : List ℤ} → e ∷ es ≡ [] → ⊥
not_empty h = cc

same_rows : (o q : Option Table) → IsWhole (rows_in o) → IsWhole (rows_in q) → AreSeenAlike o q → (rows_in o).cells ≡ (rows_in q).cells
same_rows None None u v s = refl
same_rows None (Some t) u v s = absurd (not_empty (sym s.extents))
same_rows (Some t) None u v s = absurd (not_empty s.extents)
same_rows (Some t) (Some w) u v s =
    same_lists t.cells w.cells u v s.extents
    (λ at. same_cell t.kind w.kind (cell_in t.cells at) (cell_in w.cells at) (cell_below t.cells u.numbers at) (cell_below w.cells v.numbers at) (s.index at) (s.cells at))

pub same_text : (arrays : List Array) (us vs : List Table) → AreWhole us arrays → AreWhole vs arrays → AreSame arrays (memory_in (prepared [] us)) (memory_in (prepared [] vs))
    → arrays_text us arrays ≡ arrays_text vs arrays
same_text [] us vs u v s = refl
same_text (a ∷ arrays) us vs u v s =
    let one = same_rows (table_of us a.name) (table_of vs a.name) u.0 v.0 (record { extents = s.0.extents; index = s.0.index; cells = s.0.cells }) in
    ap (λ ns. line_text a.name ns ++ arrays_text us arrays) one ∙ ap (λ more. line_text a.name (rows_in (table_of vs a.name)).cells ++ more) (same_text arrays us vs u.1 v.1 s.1)
