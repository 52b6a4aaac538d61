-- Padded rows hold the entries in order, and zeros.
use Rattle.std.proofs.Common.{◌≡◌, refl, sym, ap, ◌∙◌, subst, ℕ, zero, suc, ◌+◌, ◌-◌, ◌≤◌, ◌<◌, max, Bool, true, false, ◌&&◌, List, [], ◌∷◌, ◌++◌, map, nat_eq, nat_le, nat_lt, if◌then◌else◌, arith}
use Rattle.std.proofs.lemmas.List.{map-append}
use Rattle.sparse_marks.specs.Matrices.{Csr, IsCsr, Entry, entry_at, count, front_of, entries_before, wrapped, total, is_at}
use Rattle.sparse_layouts.specs.Padded.{longest, width, row_value, row_column, upto, in_column, filled}
use Rattle.sparse_layouts.specs.RowLaws.{RowsHoldTheMatrix, ColumnsStayInside}
use Rattle.sparse_layouts.proofs.Widths.{covers}

-- a cell of an entry, and one behind the last
cell_in : (f : ℕ → ℕ) (k n s : ℕ) → s < n → (if nat_lt s n then f (k + s) else 0) ≡ f (k + s)
cell_in f k n s h = ap (λ b. if b then f (k + s) else 0) (let e : nat_lt s n ≡ true = grind (arith, h) in e)

cell_out : (f : ℕ → ℕ) (k n s : ℕ) → n ≤ s → (if nat_lt s n then f (k + s) else 0) ≡ 0
cell_out f k n s h = ap (λ b. if b then f (k + s) else 0) (let e : nat_lt s n ≡ false = grind (arith, h) in e)

-- the cells of the first k entries
of_front : (c : ℕ → ℕ) (x : Entry → ℕ) (m : Csr) (i k : ℕ) → ((s : ℕ) → s < k → c s ≡ x (entry_at m i (m.first i + s))) → map c (upto k) ≡ map x (front_of m i k)
of_front c x m i zero h = refl
of_front c x m i (suc k) h =
    map-append c (upto k) (k ∷ [])
    ∙ ap (λ l. l ++ c k ∷ []) (of_front c x m i k (λ s l. h s (omega (arith, l))))
    ∙ ap (λ n. map x (front_of m i k) ++ n ∷ []) (h k (omega arith))
    ∙ sym (map-append x (front_of m i k) (entry_at m i (m.first i + k) ∷ []))

-- zeros from the k-th cell on
then_zeros : (c : ℕ → ℕ) (k n : ℕ) → ((s : ℕ) → k ≤ s → c s ≡ 0) → k ≤ n → map c (upto n) ≡ filled (map c (upto k)) (n - k)
then_zeros c k zero h l = let e : 0 ≡ k = omega (arith, l) in subst (λ k. map c (upto 0) ≡ filled (map c (upto k)) (0 - k)) e refl
then_zeros c k (suc n) h l = by _ refl (then_zeros c k n h)
  where
    by : (b : Bool) → nat_le k n ≡ b → (k ≤ n → map c (upto n) ≡ filled (map c (upto k)) (n - k)) → map c (upto (suc n)) ≡ filled (map c (upto k)) (suc n - k)
    by true e f =
        let q : k ≤ n = grind (arith, e) in
        map-append c (upto n) (n ∷ []) ∙ ap (λ l. l ++ c n ∷ []) (f q) ∙ ap (λ z. filled (map c (upto k)) (n - k) ++ z ∷ []) (h n q)
        ∙ ap (filled (map c (upto k))) (let d : suc (n - k) ≡ suc n - k = omega (arith, q) in d)
    by false e f =
        let q : suc n ≡ k = grind (arith, e, l) in
        let z : suc n - suc n ≡ 0 = omega arith in
        subst (λ k. map c (upto (suc n)) ≡ filled (map c (upto k)) (suc n - k)) q (ap (filled (map c (upto (suc n)))) (sym z))

-- what the entries of a row hold in a column
total_append : (p : Entry → Bool) (xs ys : List Entry) → total p (xs ++ ys) ≡ total p xs + total p ys
total_append p [] ys = grind arith
total_append p (e ∷ xs) ys = grind (arith, total_append p xs ys)

of_row : (m : Csr) (i j k : ℕ) → k ≤ count m i → total (is_at i j) (front_of m i k) ≡ in_column m i j k
of_row m i j zero h = refl
of_row m i j (suc k) h =
    total_append (is_at i j) (front_of m i k) (entry_at m i (m.first i + k) ∷ [])
    ∙ ap (λ n. n + total (is_at i j) (entry_at m i (m.first i + k) ∷ [])) (of_row m i j k (omega (arith, h)))
    ∙ ap (λ n. in_column m i j k + n) last
  where
    self : nat_eq i i ≡ true
    self = grind arith

    one : (b : Bool) (n : ℕ) → (if true && b then n + 0 else 0) ≡ (if b then n else 0)
    one true n = omega arith
    one false n = refl

    last : total (is_at i j) (entry_at m i (m.first i + k) ∷ []) ≡ (if nat_eq (row_column m i k) j then row_value m i k else 0)
    last =
        ap (λ b. if b && nat_eq (m.col (m.first i + k)) j then m.worth (m.first i + k) + 0 else 0) self
        ∙ one (nat_eq (m.col (m.first i + k)) j) (m.worth (m.first i + k))
        ∙ ap (λ c. if nat_eq c j then m.worth (m.first i + k) else 0) (sym (cell_in m.col (m.first i) (count m i) k (omega (arith, h))))
        ∙ ap (λ v. if nat_eq (row_column m i k) j then v else 0) (sym (cell_in m.worth (m.first i) (count m i) k (omega (arith, h))))

of_other : (m : Csr) (i j r k : ℕ) → nat_eq r i ≡ false → total (is_at i j) (front_of m r k) ≡ 0
of_other m i j r zero h = refl
of_other m i j r (suc k) h =
    total_append (is_at i j) (front_of m r k) (entry_at m r (m.first r + k) ∷ [])
    ∙ ap (λ n. n + total (is_at i j) (entry_at m r (m.first r + k) ∷ [])) (of_other m i j r k h)
    ∙ ap (λ b. 0 + (if b && nat_eq (m.col (m.first r + k)) j then m.worth (m.first r + k) + 0 else 0)) h

-- rows behind the i-th add nothing
none_before : (m : Csr) (i j n : ℕ) → n ≤ i → total (is_at i j) (entries_before m n) ≡ 0
none_before m i j zero h = refl
none_before m i j (suc n) h =
    total_append (is_at i j) (entries_before m n) (front_of m n (count m n))
    ∙ ap (λ a. a + total (is_at i j) (front_of m n (count m n))) (none_before m i j n (omega (arith, h)))
    ∙ ap (λ a. 0 + a) (of_other m i j n (count m n) (grind (arith, h)))

all_before : (m : Csr) (i j n : ℕ) → i < n → total (is_at i j) (entries_before m n) ≡ in_column m i j (count m i)
all_before m i j zero h = absurd (omega (arith, h))
all_before m i j (suc n) h = total_append (is_at i j) (entries_before m n) (front_of m n (count m n)) ∙ by _ refl (all_before m i j n)
  where
    here : (n : ℕ) → i ≡ n → total (is_at i j) (entries_before m n) + total (is_at i j) (front_of m n (count m n)) ≡ in_column m i j (count m i)
    here n e = subst (λ n. total (is_at i j) (entries_before m n) + total (is_at i j) (front_of m n (count m n)) ≡ in_column m i j (count m i)) e
        (ap (λ a. a + total (is_at i j) (front_of m i (count m i))) (none_before m i j i (omega arith)) ∙ ap (λ a. 0 + a) (of_row m i j (count m i) (omega arith)) ∙ (let z : 0 + in_column m i j (count m i) ≡ in_column m i j (count m i) = omega arith in z))

    by : (b : Bool) → nat_eq n i ≡ b → (i < n → total (is_at i j) (entries_before m n) ≡ in_column m i j (count m i)) → total (is_at i j) (entries_before m n) + total (is_at i j) (front_of m n (count m n)) ≡ in_column m i j (count m i)
    by true e f = here n (grind (arith, e))
    by false e f =
        ap (λ a. total (is_at i j) (entries_before m n) + a) (of_other m i j n (count m n) e)
        ∙ (let z : total (is_at i j) (entries_before m n) + 0 ≡ total (is_at i j) (entries_before m n) = omega arith in z) ∙ f (grind (arith, e, h))

-- cells behind the entries add nothing
more_zeros : (m : Csr) (i j n : ℕ) → count m i ≤ n → in_column m i j n ≡ in_column m i j (count m i)
more_zeros m i j zero h = ap (in_column m i j) (let e : 0 ≡ count m i = omega (arith, h) in e)
more_zeros m i j (suc n) h = by _ refl (more_zeros m i j n)
  where
    nothing : (b : Bool) (n : ℕ) → (if b then n else n) ≡ n
    nothing true n = refl
    nothing false n = refl

    by : (b : Bool) → nat_le (count m i) n ≡ b → (count m i ≤ n → in_column m i j n ≡ in_column m i j (count m i)) → in_column m i j (suc n) ≡ in_column m i j (count m i)
    by true e f =
        let q : count m i ≤ n = grind (arith, e) in
        ap (λ v. in_column m i j n + (if nat_eq (row_column m i n) j then v else 0)) (cell_out m.worth (m.first i) (count m i) n q)
        ∙ ap (λ v. in_column m i j n + v) (nothing (nat_eq (row_column m i n) j) 0)
        ∙ (let z : in_column m i j n + 0 ≡ in_column m i j n = omega arith in z) ∙ f q
    by false e f = ap (in_column m i j) (let q : suc n ≡ count m i = grind (arith, e, h) in q)

pub hold : RowsHoldTheMatrix
hold m i h = record {
  entry = λ s l. (let w : count m i ≤ width m = wide in omega (arith, l, w), cell_in m.worth (m.first i) (count m i) s l, cell_in m.col (m.first i) (count m i) s l);
  padded = λ s l. (cell_out m.worth (m.first i) (count m i) s l, cell_out m.col (m.first i) (count m i) s l);
  values =
      then_zeros (row_value m i) (count m i) (width m) (λ s l. cell_out m.worth (m.first i) (count m i) s l) wide
      ∙ ap (λ l. filled l (width m - count m i)) (of_front (row_value m i) (λ (e : Entry). e.worth) m i (count m i) (λ s l. cell_in m.worth (m.first i) (count m i) s l));
  columns =
      then_zeros (row_column m i) (count m i) (width m) (λ s l. cell_out m.col (m.first i) (count m i) s l) wide
      ∙ ap (λ l. filled l (width m - count m i)) (of_front (row_column m i) (λ (e : Entry). e.col) m i (count m i) (λ s l. cell_in m.col (m.first i) (count m i) s l));
  cell = λ j. ap wrapped (more_zeros m i j (width m) wide ∙ sym (all_before m i j m.rows h));
}
  where
    wide : count m i ≤ width m
    wide = covers m m.rows i h

-- a place below the longest of the rows is a place of some row
some_row : (m : Csr) (n s : ℕ) → s < longest m n → (i : ℕ) × (i < n) × (s < count m i)
some_row m zero s h = absurd (omega (arith, h))
some_row m (suc n) s h = by _ refl (some_row m n s)
  where
    last : (a b : ℕ) → s < max a b → nat_lt s a ≡ false → s < b
    last a b h e = grind arith

    by : (b : Bool) → nat_lt s (longest m n) ≡ b → (s < longest m n → (i : ℕ) × (i < n) × (s < count m i)) → (i : ℕ) × (i < suc n) × (s < count m i)
    by true e f = let r = f (grind (arith, e)) in (r.0, (let l : r.0 < n = r.1 in omega (arith, l)), r.2)
    by false e f = (n, omega arith, last (longest m n) (count m n) h e)

within : (i n : ℕ) → nat_le i n ≡ true → i ≤ n
within i n e = grind arith

just_above : (i n : ℕ) → nat_le i n ≡ false → i ≤ suc n → suc n ≡ i
just_above i n e h = grind arith

first_rises : (m : Csr) → IsCsr m → (i n : ℕ) → i ≤ n → n ≤ m.rows → m.first i ≤ m.first n
first_rises m c i zero h l = let e : 0 ≡ i = omega (arith, h) in subst (λ i. m.first i ≤ m.first 0) e (omega arith)
first_rises m c i (suc n) h l = by _ refl (first_rises m c i n)
  where
    by : (b : Bool) → nat_le i n ≡ b → (i ≤ n → n ≤ m.rows → m.first i ≤ m.first n) → m.first i ≤ m.first (suc n)
    by true e f =
        let a : m.first i ≤ m.first n = f (within i n e) (omega (arith, l)) in
        let b : m.first n ≤ m.first (suc n) = c.rises n (omega (arith, l)) in
        omega (arith, a, b)
    by false e f = let q : suc n ≡ i = just_above i n e h in subst (λ i. m.first i ≤ m.first (suc n)) q (omega arith)

-- the column of an entry
pub entry_column : (m : Csr) → IsCsr m → (i s : ℕ) → i < m.rows → s < count m i → m.col (m.first i + s) < m.cols
entry_column m c i s h l =
    let a : m.first (suc i) ≤ m.first m.rows = first_rises m c (suc i) m.rows h (omega arith) in
    c.column (m.first i + s) (omega (arith, a, l))

pub stay : ColumnsStayInside
stay m c i s h l = by _ refl
  where
    by : (b : Bool) → nat_lt s (count m i) ≡ b → (if b then m.col (m.first i + s) else 0) < m.cols
    by true e = entry_column m c i s h (grind (arith, e))
    by false e = let r = some_row m m.rows s l in let q : m.col (m.first r.0 + s) < m.cols = entry_column m c r.0 s r.1 r.2 in omega (arith, q)
