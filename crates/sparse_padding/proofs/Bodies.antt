-- Positions of a matrix meet the conditions of the law of padding.
use Rattle.std.proofs.Common.{◌≡◌, ◌⊎◌, inl, inr, refl, sym, ap, ◌∙◌, subst, ℕ, zero, suc, ◌+◌, ◌<◌, ◌≤◌, Bool, true, false, List, [], ◌∷◌, ◌++◌, map, length, nat_lt, nat_le, if◌then◌else◌, arith, append_assoc}
use Rattle.std.proofs.lemmas.List.{append-nil, map-append}
use Rattle.std.proofs.Math.Nat.{mod-eq_of_lt}
use Rattle.std.specs.List.{list_all}
use Rattle.c_meaning.specs.Memory.{Spot, Cells}
use Rattle.c_meaning.specs.Ground.{wrapped, effect}
use Rattle.sparse_marks.specs.Matrices.{Csr, Entry, entry_at, count, front_of, entries_before, entries, is_at, total}
use Rattle.sparse_layouts.specs.Padded.{width, row_column, upto}
use Rattle.sparse_layouts.proofs.Widths.{covers}
use Rattle.sparse_padding.specs.Products.{with_each, sum_of}
use Rattle.sparse_padding.specs.Positions.{Position, by_entry, IsHarmless, AreHarmless, HoldSums, AreNumbers}
use Rattle.sparse_padding.specs.Bodies.{Body, Padded, entry_step, places_at, position_of, row_position, rows_before, row_positions}
use Rattle.sparse_padding.specs.BodyLaws.{IsOver, HoldsCell, HoldCells, HoldRows, PaddedCellsKeepEffect, RowsPerformTheEntries, PaddedRowsKeepEffect}
use Rattle.sparse_padding.proofs.Sums.{keeps_effect}

-- the sum of the values of the entries at a row and a column
places_append : (i j : ℕ) (es fs : List Entry) → places_at i j (es ++ fs) ≡ places_at i j es ++ places_at i j fs
places_append i j [] fs = refl
places_append i j (e ∷ es) fs = by (is_at i j e) (places_append i j es fs)
  where
    by : (b : Bool) → places_at i j (es ++ fs) ≡ places_at i j es ++ places_at i j fs
        → (if b then e.place ∷ places_at i j (es ++ fs) else places_at i j (es ++ fs)) ≡ (if b then e.place ∷ places_at i j es else places_at i j es) ++ places_at i j fs
    by true h = ap (λ (l : List ℕ). e.place ∷ l) h
    by false h = h

sum_append : (s : Cells) (xs ys : List Spot) → sum_of s (xs ++ ys) ≡ sum_of s xs + sum_of s ys
sum_append s [] ys = let e : sum_of s ys ≡ 0 + sum_of s ys = omega arith in e
sum_append s (x ∷ xs) ys = let h : sum_of s (xs ++ ys) ≡ sum_of s xs + sum_of s ys = sum_append s xs ys in omega (arith, h)

total_append : (p : Entry → Bool) (xs ys : List Entry) → total p (xs ++ ys) ≡ total p xs + total p ys
total_append p [] ys = grind arith
total_append p (e ∷ xs) ys = grind (arith, total_append p xs ys)

-- the values at the places are the entries'
sums_append : (b : Body) (s : Cells) (i j : ℕ) (es fs : List Entry) → sum_of s (map b.value (places_at i j (es ++ fs))) ≡ sum_of s (map b.value (places_at i j es)) + sum_of s (map b.value (places_at i j fs))
sums_append b s i j es fs =
    ap (λ l. sum_of s (map b.value l)) (places_append i j es fs)
    ∙ ap (sum_of s) (map-append b.value (places_at i j es) (places_at i j fs))
    ∙ sum_append s (map b.value (places_at i j es)) (map b.value (places_at i j fs))

one_sum : (b : Body) (s : Cells) (i j : ℕ) (e : Entry) → s (b.value e.place) ≡ e.worth → sum_of s (map b.value (places_at i j (e ∷ []))) ≡ total (is_at i j) (e ∷ [])
one_sum b s i j e h = by (is_at i j e)
  where
    by : (c : Bool) → sum_of s (map b.value (if c then e.place ∷ [] else [])) ≡ (if c then e.worth + 0 else 0)
    by true = ap (λ n. n + 0) h
    by false = refl

front_sum : (b : Body) (m : Csr) (s : Cells) (i j r k : ℕ) → k ≤ count m r → ((n : ℕ) → n < count m r → s (b.value (m.first r + n)) ≡ m.worth (m.first r + n))
    → sum_of s (map b.value (places_at i j (front_of m r k))) ≡ total (is_at i j) (front_of m r k)
front_sum b m s i j r zero h v = refl
front_sum b m s i j r (suc k) h v =
    let e : Entry = entry_at m r (m.first r + k) in
    sums_append b s i j (front_of m r k) (e ∷ [])
    ∙ ap (λ n. n + sum_of s (map b.value (places_at i j (e ∷ [])))) (front_sum b m s i j r k (omega (arith, h)) v)
    ∙ ap (λ n. total (is_at i j) (front_of m r k) + n) (one_sum b s i j e (v k (omega (arith, h))))
    ∙ sym (total_append (is_at i j) (front_of m r k) (e ∷ []))

entries_sum : (b : Body) (m : Csr) (s : Cells) (i j n : ℕ) → n ≤ m.rows → ((r k : ℕ) → r < m.rows → k < count m r → s (b.value (m.first r + k)) ≡ m.worth (m.first r + k))
    → sum_of s (map b.value (places_at i j (entries_before m n))) ≡ total (is_at i j) (entries_before m n)
entries_sum b m s i j zero h v = refl
entries_sum b m s i j (suc n) h v =
    sums_append b s i j (entries_before m n) (front_of m n (count m n))
    ∙ ap (λ a. a + sum_of s (map b.value (places_at i j (front_of m n (count m n))))) (entries_sum b m s i j n (omega (arith, h)) v)
    ∙ ap (λ a. total (is_at i j) (entries_before m n) + a) (front_sum b m s i j n (count m n) (omega arith) (λ k l. v n k (omega (arith, h)) l))
    ∙ sym (total_append (is_at i j) (entries_before m n) (front_of m n (count m n)))

values_in : (matrix : Spot → Bool) (value : ℕ → Spot) (ks : List ℕ) → ((k : ℕ) → matrix (value k) ≡ true) → list_all matrix (map value ks) ≡ true
values_in matrix value [] h = refl
values_in matrix value (k ∷ ks) h = let a : matrix (value k) ≡ true = h k in let b : list_all matrix (map value ks) ≡ true = values_in matrix value ks h in grind (arith, a, b)

length_map : (value : ℕ → Spot) (ks : List ℕ) → length (map value ks) ≡ length ks
length_map value [] = refl
length_map value (k ∷ ks) = ap suc (length_map value ks)

-- padded cells
harmless_cell : (matrix : Spot → Bool) (b : Body) (m : Csr) (s : Cells) (c : Padded) → IsOver matrix b m s → HoldsCell matrix b m s c → IsHarmless matrix (position_of b m c)
harmless_cell matrix b m s c o h = record {
  compound = o.compound;
  unread = few h.unread;
  outside = o.outside c.row c.col;
  cell_in = h.cell_in;
  entries_in = values_in matrix b.value (places_at c.row c.col (entries m)) o.value_in;
}
  where
    few : {A : Type 0} → A ⊎ (length (places_at c.row c.col (entries m)) ≤ 1) → A ⊎ (length (map b.value (places_at c.row c.col (entries m))) ≤ 1)
    few (inl a) = inl a
    few (inr l) = inr (subst (λ n. n ≤ 1) (sym (length_map b.value (places_at c.row c.col (entries m)))) l)

harmless_cells : (matrix : Spot → Bool) (b : Body) (m : Csr) (s : Cells) (cs : List Padded) → IsOver matrix b m s → HoldCells matrix b m s cs → AreHarmless matrix (map (position_of b m) cs)
harmless_cells matrix b m s [] o h = tt
harmless_cells matrix b m s (c ∷ cs) o h = (harmless_cell matrix b m s c o h.0, harmless_cells matrix b m s cs o h.1)

sums_held : (matrix : Spot → Bool) (b : Body) (m : Csr) (s : Cells) (cs : List Padded) → IsOver matrix b m s → HoldCells matrix b m s cs → HoldSums s (map (position_of b m) cs)
sums_held matrix b m s [] o h = tt
sums_held matrix b m s (c ∷ cs) o h = (
  (h.0).held ∙ ap wrapped (sym (entries_sum b m s c.row c.col m.rows (omega arith) o.values)),
  sums_held matrix b m s cs o h.1,
)

pub cells_keep : PaddedCellsKeepEffect
cells_keep matrix b m s cs n o h = keeps_effect matrix (map (position_of b m) cs) s (harmless_cells matrix b m s cs o h) (sums_held matrix b m s cs o h) n

-- the entries by padded rows
by_entry_append : (ps qs : List Position) → by_entry (ps ++ qs) ≡ by_entry ps ++ by_entry qs
by_entry_append [] qs = refl
by_entry_append (p ∷ ps) qs =
    ap (λ l. with_each p.target p.how p.product p.entries ++ l) (by_entry_append ps qs)
    ∙ sym (append_assoc (with_each p.target p.how p.product p.entries) (by_entry ps) (by_entry qs))

one_entry : (b : Body) (lay : ℕ → ℕ → Spot) (m : Csr) (i k : ℕ) → k < count m i → by_entry (row_position b lay m i k ∷ []) ≡ entry_step b (entry_at m i (m.first i + k)) ∷ []
one_entry b lay m i k h =
    let e : nat_lt k (count m i) ≡ true = grind (arith, h) in
    ap (λ c. let j : ℕ = if c then m.col (m.first i + k) else 0 in with_each (b.target i j) b.how (b.product i j) (if c then b.value (m.first i + k) ∷ [] else []) ++ []) e

no_entry : (b : Body) (lay : ℕ → ℕ → Spot) (m : Csr) (i k : ℕ) → count m i ≤ k → by_entry (row_position b lay m i k ∷ []) ≡ []
no_entry b lay m i k h =
    let e : nat_lt k (count m i) ≡ false = grind (arith, h) in
    ap (λ c. let j : ℕ = if c then m.col (m.first i + k) else 0 in with_each (b.target i j) b.how (b.product i j) (if c then b.value (m.first i + k) ∷ [] else []) ++ []) e

one_more : (b : Body) (lay : ℕ → ℕ → Spot) (m : Csr) (i k : ℕ) → by_entry (map (row_position b lay m i) (upto (suc k))) ≡ by_entry (map (row_position b lay m i) (upto k)) ++ by_entry (row_position b lay m i k ∷ [])
one_more b lay m i k = ap by_entry (map-append (row_position b lay m i) (upto k) (k ∷ [])) ∙ by_entry_append (map (row_position b lay m i) (upto k)) (row_position b lay m i k ∷ [])

first_entries : (b : Body) (lay : ℕ → ℕ → Spot) (m : Csr) (i k : ℕ) → k ≤ count m i → by_entry (map (row_position b lay m i) (upto k)) ≡ map (entry_step b) (front_of m i k)
first_entries b lay m i zero h = refl
first_entries b lay m i (suc k) h =
    one_more b lay m i k
    ∙ ap (λ l. l ++ by_entry (row_position b lay m i k ∷ [])) (first_entries b lay m i k (omega (arith, h)))
    ∙ ap (λ l. map (entry_step b) (front_of m i k) ++ l) (one_entry b lay m i k (omega (arith, h)))
    ∙ sym (map-append (entry_step b) (front_of m i k) (entry_at m i (m.first i + k) ∷ []))

row_entries : (b : Body) (lay : ℕ → ℕ → Spot) (m : Csr) (i n : ℕ) → count m i ≤ n → by_entry (map (row_position b lay m i) (upto n)) ≡ map (entry_step b) (front_of m i (count m i))
row_entries b lay m i zero h = first_entries b lay m i 0 (omega arith) ∙ ap (λ k. map (entry_step b) (front_of m i k)) (let e : 0 ≡ count m i = omega (arith, h) in e)
row_entries b lay m i (suc n) h = by _ refl (row_entries b lay m i n)
  where
    by : (c : Bool) → nat_le (count m i) n ≡ c → (count m i ≤ n → by_entry (map (row_position b lay m i) (upto n)) ≡ map (entry_step b) (front_of m i (count m i)))
        → by_entry (map (row_position b lay m i) (upto (suc n))) ≡ map (entry_step b) (front_of m i (count m i))
    by true e f =
        let q : count m i ≤ n = grind (arith, e) in
        one_more b lay m i n ∙ ap (λ l. by_entry (map (row_position b lay m i) (upto n)) ++ l) (no_entry b lay m i n q) ∙ append-nil _ ∙ f q
    by false e f =
        let q : suc n ≡ count m i = grind (arith, e, h) in
        first_entries b lay m i (suc n) (omega (arith, q)) ∙ ap (λ k. map (entry_step b) (front_of m i k)) q

entries_by_rows : (b : Body) (lay : ℕ → ℕ → Spot) (m : Csr) (n : ℕ) → n ≤ m.rows → by_entry (rows_before b lay m n) ≡ map (entry_step b) (entries_before m n)
entries_by_rows b lay m zero h = refl
entries_by_rows b lay m (suc n) h =
    by_entry_append (rows_before b lay m n) (map (row_position b lay m n) (upto (width m)))
    ∙ ap (λ l. l ++ by_entry (map (row_position b lay m n) (upto (width m)))) (entries_by_rows b lay m n (omega (arith, h)))
    ∙ ap (λ l. map (entry_step b) (entries_before m n) ++ l) (row_entries b lay m n (width m) (covers m m.rows n (omega (arith, h))))
    ∙ sym (map-append (entry_step b) (entries_before m n) (front_of m n (count m n)))

pub perform_entries : RowsPerformTheEntries
perform_entries b lay m = entries_by_rows b lay m m.rows (omega arith)

-- padded rows meet the conditions
harmless_append : (matrix : Spot → Bool) (ps qs : List Position) → AreHarmless matrix ps → AreHarmless matrix qs → AreHarmless matrix (ps ++ qs)
harmless_append matrix [] qs h k = k
harmless_append matrix (p ∷ ps) qs h k = (h.0, harmless_append matrix ps qs h.1 k)

hold_append : (s : Cells) (ps qs : List Position) → HoldSums s ps → HoldSums s qs → HoldSums s (ps ++ qs)
hold_append s [] qs h k = k
hold_append s (p ∷ ps) qs h k = (h.0, hold_append s ps qs h.1 k)

harmless_map : (matrix : Spot → Bool) (f : ℕ → Position) (ns : List ℕ) → ((n : ℕ) → IsHarmless matrix (f n)) → AreHarmless matrix (map f ns)
harmless_map matrix f [] h = tt
harmless_map matrix f (n ∷ ns) h = (h n, harmless_map matrix f ns h)

hold_upto : (s : Cells) (f : ℕ → Position) (n : ℕ) → ((k : ℕ) → k < n → s (f k).cell ≡ wrapped (sum_of s (f k).entries)) → HoldSums s (map f (upto n))
hold_upto s f zero h = tt
hold_upto s f (suc n) h =
    subst (HoldSums s) (sym (map-append f (upto n) (n ∷ []))) (hold_append s (map f (upto n)) (f n ∷ []) (hold_upto s f n (λ k l. h k (omega (arith, l)))) (h n (omega arith), tt))

module _ (matrix : Spot → Bool) (b : Body) (lay : ℕ → ℕ → Spot) (m : Csr) (s : Cells) (n : AreNumbers s) (o : IsOver matrix b m s) (r : HoldRows matrix lay m s) where
  harmless_row : (i k : ℕ) → IsHarmless matrix (row_position b lay m i k)
  harmless_row i k = record {
    compound = o.compound;
    unread = inr (few (nat_lt k (count m i)));
    outside = o.outside i (row_column m i k);
    cell_in = r.cell_in i k;
    entries_in = all (nat_lt k (count m i));
  }
    where
      few : (c : Bool) → length (if c then b.value (m.first i + k) ∷ [] else []) ≤ 1
      few true = omega arith
      few false = omega arith

      all : (c : Bool) → list_all matrix (if c then b.value (m.first i + k) ∷ [] else []) ≡ true
      all true = let e : matrix (b.value (m.first i + k)) ≡ true = o.value_in (m.first i + k) in grind (arith, e)
      all false = refl

  holds_row : (i : ℕ) → i < m.rows → (k : ℕ) → k < width m → s (lay i k) ≡ wrapped (sum_of s (row_position b lay m i k).entries)
  holds_row i h k l = r.held i k h l ∙ by _ refl
    where
      by : (c : Bool) → nat_lt k (count m i) ≡ c → (if c then m.worth (m.first i + k) else 0) ≡ wrapped (sum_of s (if c then b.value (m.first i + k) ∷ [] else []))
      by true e =
          let v : s (b.value (m.first i + k)) ≡ m.worth (m.first i + k) = o.values i k h (grind (arith, e)) in
          sym v ∙ sym (mod-eq_of_lt (n.below (b.value (m.first i + k)))) ∙ ap wrapped (let z : s (b.value (m.first i + k)) ≡ s (b.value (m.first i + k)) + 0 = omega arith in z)
      by false e = refl

  harmless_rows : (k : ℕ) → AreHarmless matrix (rows_before b lay m k)
  harmless_rows zero = tt
  harmless_rows (suc k) = harmless_append matrix (rows_before b lay m k) (map (row_position b lay m k) (upto (width m))) (harmless_rows k) (harmless_map matrix (row_position b lay m k) (upto (width m)) (harmless_row k))

  hold_rows : (k : ℕ) → k ≤ m.rows → HoldSums s (rows_before b lay m k)
  hold_rows zero h = tt
  hold_rows (suc k) h =
      hold_append s (rows_before b lay m k) (map (row_position b lay m k) (upto (width m))) (hold_rows k (omega (arith, h)))
      (hold_upto s (row_position b lay m k) (width m) (holds_row k (omega (arith, h))))

pub rows_keep : PaddedRowsKeepEffect
rows_keep matrix b lay m s n o r =
    keeps_effect matrix (row_positions b lay m) s (harmless_rows matrix b lay m s n o r m.rows) (hold_rows matrix b lay m s n o r m.rows (omega arith)) n
    ∙ ap (λ l. effect l s) (perform_entries b lay m)
