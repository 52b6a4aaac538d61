-- Cells of grids: one is written, and rows of zeros are appended.
use Rattle.std.proofs.Common.{ℕ, zero, suc, ◌+◌, ◌*◌, ◌/◌, ◌<◌, ◌≤◌, ◌≡◌, ℤ, pos, negsuc, unsigned_abs, int_le, int_lt, Bool, true, false, ◌&&◌, List, [], ◌∷◌, length, map, replicate, get_or, slice_set, if◌then◌else◌, refl, sym, ap, ◌∙◌, subst, ◌⊎◌, inl, inr, arith}
use Rattle.std.specs.Prelude.{◌≢◌}
use Rattle.std.proofs.lemmas.Int.{ints}
use Rattle.std.proofs.lemmas.Nat.{div-mul-add}
use Rattle.std.proofs.lemmas.List.{get_or_append_left, get_or-set_same, get_or-set_other, get_or-append_right}
use Rattle.std.proofs.lemmas.Bool.{cases_lt}
use Rattle.c_meaning.specs.Names.{same_numbers}
use Rattle.c_meaning.specs.Value.{is_inside}
use Rattle.c_meaning.proofs.Fitting.{and_left, and_right}
use Rattle.c_meaning.proofs.Spots.{numbers_are, numbers_self}
use Rattle.raw_store.specs.Rows.{Rows, IsInside, place}
use Rattle.c_run.specs.Arrays.{extents_of_rows, cell_in, grown_rows}

-- a subscript that is inside
record Natural (x : ℤ) (a : ℕ) : Type 0 where
  value : ℕ
  is : x ≡ pos value
  below : value < a

natural : (x : ℤ) (a : ℕ) → (int_le (pos 0) x && int_lt x (pos a)) ≡ true → Natural x a
natural (pos n) a h = record { value = n; is = refl; below = below_of n a (and_right (int_le (pos 0) (pos n)) (int_lt (pos n) (pos a)) h) }
  where
    below_of : (n a : ℕ) → int_lt (pos n) (pos a) ≡ true → n < a
    below_of n a h = grind (arith, ints)
natural (negsuc n) a h = absurd (none n (and_left (int_le (pos 0) (negsuc n)) (int_lt (negsuc n) (pos a)) h))
  where
    none : (n : ℕ) → int_le (pos 0) (negsuc n) ≡ true → ⊥
    none n h = grind (arith, ints)

-- three subscripts that are inside
pub record Triple (at : List ℤ) (a b c : ℕ) : Type 0 where
  pub i : ℕ
  pub j : ℕ
  pub k : ℕ
  pub is : at ≡ pos i ∷ pos j ∷ pos k ∷ []
  pub row : i < a
  pub line : j < b
  pub cell : k < c

pub triple : (at : List ℤ) (a b c : ℕ) → is_inside at (pos a ∷ pos b ∷ pos c ∷ []) ≡ true → Triple at a b c
triple [] a b c h = cc
triple (x ∷ []) a b c h = absurd (no (int_le (pos 0) x && int_lt x (pos a)) h)
  where
    no : (p : Bool) → (p && false) ≡ true → ⊥
    no p h = let e = and_right p false h in cc
triple (x ∷ y ∷ []) a b c h = absurd (no (int_le (pos 0) x && int_lt x (pos a)) (int_le (pos 0) y && int_lt y (pos b)) h)
  where
    no : (p q : Bool) → (p && (q && false)) ≡ true → ⊥
    no p q h = let e = and_right q false (and_right p (q && false) h) in cc
triple (x ∷ y ∷ z ∷ []) a b c h =
    let p = int_le (pos 0) x && int_lt x (pos a) in
    let q = int_le (pos 0) y && int_lt y (pos b) in
    let r = int_le (pos 0) z && int_lt z (pos c) in
    let u = natural x a (and_left p (q && (r && true)) h) in
    let v = natural y b (and_left q (r && true) (and_right p (q && (r && true)) h)) in
    let w = natural z c (and_left r true (and_right q (r && true) (and_right p (q && (r && true)) h))) in
    record { i = u.value; j = v.value; k = w.value; is = three u.is v.is w.is; row = u.below; line = v.below; cell = w.below }
  where
    three : {x y z x' y' z' : ℤ} → x ≡ x' → y ≡ y' → z ≡ z' → x ∷ y ∷ z ∷ [] ≡ x' ∷ y' ∷ z' ∷ []
    three e f g = cc
triple (x ∷ y ∷ z ∷ t ∷ ts) a b c h = absurd (no (int_le (pos 0) x && int_lt x (pos a)) (int_le (pos 0) y && int_lt y (pos b)) (int_le (pos 0) z && int_lt z (pos c)) h)
  where
    no : (p q r : Bool) → (p && (q && (r && false))) ≡ true → ⊥
    no p q r h = let e = and_right r false (and_right q (r && false) (and_right p (q && (r && false)) h)) in cc

inside_of : (i a : ℕ) → i < a → (int_le (pos 0) (pos i) && int_lt (pos i) (pos a)) ≡ true
inside_of i a h = grind (arith, ints)

-- numbers in mixed radix
row_apart : (i i' d r r' : ℕ) → r < d → r' < d → i * d + r ≡ i' * d + r' → i ≡ i'
row_apart i i' d r r' h k e = sym (div-mul-add i d r h) ∙ ap (λ n. n / d) e ∙ div-mul-add i' d r' k

rest_apart : (x r r' : ℕ) → x + r ≡ x + r' → r ≡ r'
rest_apart x r r' e = omega arith

below_product : (i a d r : ℕ) → i < a → r < d → i * d + r < a * d
below_product i a d r h k =
    let e : i * d + d ≡ (i + 1) * d = grind arith in
    let le : i + 1 ≤ a = omega arith in
    let m : (i + 1) * d ≤ a * d = grind (arith, le) in
    omega arith

module _ (a b c : ℕ) where
  pub place_of : ℕ → ℕ → ℕ → ℕ
  place_of i j k = i * (b * c) + (j * c + k)

  pub places_apart : (i j k i' j' k' : ℕ) → j < b → k < c → j' < b → k' < c → i * (b * c) + (j * c + k) ≡ i' * (b * c) + (j' * c + k') → pos i ∷ pos j ∷ pos k ∷ [] ≡ pos i' ∷ pos j' ∷ pos k' ∷ []
  places_apart i j k i' j' k' hj hk hj' hk' e =
      let inner : j * c + k < b * c = below_product j b c k hj hk in
      let inner' : j' * c + k' < b * c = below_product j' b c k' hj' hk' in
      let ei : i ≡ i' = row_apart i i' (b * c) (j * c + k) (j' * c + k') inner inner' e in
      let er : j * c + k ≡ j' * c + k' = rest_apart (i' * (b * c)) (j * c + k) (j' * c + k') (ap (λ n. n * (b * c) + (j * c + k)) (sym ei) ∙ e) in
      let ej : j ≡ j' = row_apart j j' c k k' hk hk' er in
      let ek : k ≡ k' = rest_apart (j' * c) k k' (ap (λ n. n * c + k) (sym ej) ∙ er) in
      cc

  pub place_below : (i j k : ℕ) → i < a → j < b → k < c → i * (b * c) + (j * c + k) < a * (b * c)
  place_below i j k hi hj hk = below_product i a (b * c) (j * c + k) hi (below_product j b c k hj hk)

  pub place_above : (i j k : ℕ) → a ≤ i → a * (b * c) ≤ i * (b * c) + (j * c + k)
  place_above i j k h = let m : a * (b * c) ≤ i * (b * c) = grind (arith, h) in omega arith

choice : {A : Type 0} (p : Bool) (x y : A) → p ≡ true → (if p then x else y) ≡ x
choice p x y h = ap (λ p. if p then x else y) h

other : {A : Type 0} (p : Bool) (x y : A) → p ≡ false → (if p then x else y) ≡ y
other p x y h = ap (λ p. if p then x else y) h

-- the places of subscripts that are inside
pub is_grid_inside : (g : Rows) (at : List ℤ) → is_inside at (extents_of_rows g) ≡ true → IsInside g (map unsigned_abs at)
is_grid_inside g at h =
    let t = triple at g.first g.deep g.wide h in
    subst (λ at. IsInside g (map unsigned_abs at)) (sym t.is) (record { row = t.row; line = t.line; cell = t.cell })

abbrev pub written_rows : Rows → List ℤ → ℕ → Rows
written_rows g at v = record g { cells = slice_set g.cells (place g (map unsigned_abs at)) v }

module _ (g : Rows) (at : List ℤ) (v : ℕ) (whole : length g.cells ≡ g.first * (g.deep * g.wide)) (inside : is_inside at (extents_of_rows g) ≡ true) where
  place_in : (q : List ℤ) → is_inside q (extents_of_rows g) ≡ true → place g (map unsigned_abs q) < length g.cells
  place_in q h =
      let t = triple q g.first g.deep g.wide h in
      subst (λ n. place g (map unsigned_abs q) < n) (sym whole)
      (subst (λ q. place g (map unsigned_abs q) < g.first * (g.deep * g.wide)) (sym t.is) (place_below g.first g.deep g.wide t.i t.j t.k t.row t.line t.cell))

  apart : (q : List ℤ) → is_inside q (extents_of_rows g) ≡ true → same_numbers at q ≡ false → place g (map unsigned_abs q) ≢ place g (map unsigned_abs at)
  apart q h n e =
      let t = triple at g.first g.deep g.wide inside in
      let u = triple q g.first g.deep g.wide h in
      let f : u.i * (g.deep * g.wide) + (u.j * g.wide + u.k) ≡ t.i * (g.deep * g.wide) + (t.j * g.wide + t.k) =
      sym (ap (λ q. place g (map unsigned_abs q)) u.is) ∙ e ∙ ap (λ q. place g (map unsigned_abs q)) t.is in
      let same : q ≡ at = u.is ∙ places_apart g.first g.deep g.wide u.i u.j u.k t.i t.j t.k u.line u.cell t.line t.cell f ∙ sym t.is in
      let yes : same_numbers at q ≡ true = ap (same_numbers at) same ∙ numbers_self at in
      cc

  at_case : (q : List ℤ) (b : Bool) → same_numbers at q ≡ b → cell_in (written_rows g at v) q ≡ (if b then v else cell_in g q)
  at_case q true h =
      let e : q ≡ at = sym (numbers_are at q h) in
      ap (cell_in (written_rows g at v)) e ∙ choice (is_inside at (extents_of_rows g)) _ 0 inside ∙ get_or-set_same g.cells (place g (map unsigned_abs at)) v 0 (place_in at inside)
  at_case q false h = by (is_inside q (extents_of_rows g)) refl
    where
      by : (p : Bool) → is_inside q (extents_of_rows g) ≡ p → cell_in (written_rows g at v) q ≡ cell_in g q
      by true k = ap (λ n. if is_inside q (extents_of_rows g) then n else 0) (get_or-set_other g.cells (place g (map unsigned_abs at)) (place g (map unsigned_abs q)) v 0 (apart q k h))
      by false k = other (is_inside q (extents_of_rows g)) _ 0 k ∙ sym (other (is_inside q (extents_of_rows g)) _ 0 k)

  -- one cell is written, and the others are as before
  pub cell_written : (q : List ℤ) → cell_in (written_rows g at v) q ≡ (if same_numbers at q then v else cell_in g q)
  cell_written q = at_case q (same_numbers at q) refl

module _ (g : Rows) (n : ℕ) (whole : length g.cells ≡ g.first * (g.deep * g.wide)) where
  zeros : (m i : ℕ) → ◌≡◌ {A = ℕ} (get_or (replicate m 0) i 0) 0
  zeros zero i = refl
  zeros (suc m) zero = refl
  zeros (suc m) (suc i) = zeros m i

  within : (q : List ℤ) (t : Triple q (g.first + n) g.deep g.wide) → t.i < g.first → is_inside q (extents_of_rows g) ≡ true
  within q t h =
      ap (λ q. is_inside q (extents_of_rows g)) t.is
      ∙ ap (λ p. p && (int_le (pos 0) (pos t.j) && int_lt (pos t.j) (pos g.deep) && (int_le (pos 0) (pos t.k) && int_lt (pos t.k) (pos g.wide) && true))) (inside_of t.i g.first h)
      ∙ ap (λ p. p && (int_le (pos 0) (pos t.k) && int_lt (pos t.k) (pos g.wide) && true)) (inside_of t.j g.deep t.line)
      ∙ ap (λ p. p && true) (inside_of t.k g.wide t.cell)

  beyond : (q : List ℤ) (t : Triple q (g.first + n) g.deep g.wide) → g.first ≤ t.i → is_inside q (extents_of_rows g) ≡ false
  beyond q t h = ap (λ q. is_inside q (extents_of_rows g)) t.is ∙ ap (λ p. p && (int_le (pos 0) (pos t.j) && int_lt (pos t.j) (pos g.deep) && (int_le (pos 0) (pos t.k) && int_lt (pos t.k) (pos g.wide) && true))) (past t.i g.first h)
    where
      past : (i a : ℕ) → a ≤ i → (int_le (pos 0) (pos i) && int_lt (pos i) (pos a)) ≡ false
      past i a h = grind (arith, ints)

  old_place : (q : List ℤ) (t : Triple q (g.first + n) g.deep g.wide) → place g (map unsigned_abs q) ≡ t.i * (g.deep * g.wide) + (t.j * g.wide + t.k)
  old_place q t = ap (λ q. place g (map unsigned_abs q)) t.is

  new_case : (q : List ℤ) → is_inside q (extents_of_rows (grown_rows n g)) ≡ true → get_or (grown_rows n g).cells (place g (map unsigned_abs q)) 0 ≡ cell_in g q
  new_case q h = by (cases_lt t.i g.first)
    where
      t : Triple q (g.first + n) g.deep g.wide
      t = triple q (g.first + n) g.deep g.wide h

      by : (t.i < g.first) ⊎ (g.first ≤ t.i) → get_or (grown_rows n g).cells (place g (map unsigned_abs q)) 0 ≡ cell_in g q
      by (inl lt) =
          let below : place g (map unsigned_abs q) < length g.cells =
          subst (λ m. place g (map unsigned_abs q) < m) (sym whole) (subst (λ p. p < g.first * (g.deep * g.wide)) (sym (old_place q t)) (place_below g.first g.deep g.wide t.i t.j t.k lt t.line t.cell)) in
          get_or_append_left g.cells (replicate (n * (g.deep * g.wide)) 0) 0 (place g (map unsigned_abs q)) below ∙ sym (choice (is_inside q (extents_of_rows g)) _ 0 (within q t lt))
      by (inr le) =
          let above : g.first * (g.deep * g.wide) ≤ place g (map unsigned_abs q) = subst (λ p. g.first * (g.deep * g.wide) ≤ p) (sym (old_place q t)) (place_above g.first g.deep g.wide t.i t.j t.k le) in
          get_or-append_right g.cells (replicate (n * (g.deep * g.wide)) 0) (g.first * (g.deep * g.wide)) (place g (map unsigned_abs q)) 0 whole above ∙ zeros (n * (g.deep * g.wide)) _ ∙ sym (other (is_inside q (extents_of_rows g)) _ 0 (beyond q t le))

  -- new cells hold 0, as cells outside do
  pub cell_grown : (q : List ℤ) → cell_in (grown_rows n g) q ≡ cell_in g q
  cell_grown q = by (is_inside q (extents_of_rows (grown_rows n g))) refl
    where
      wider : is_inside q (extents_of_rows g) ≡ true → is_inside q (extents_of_rows (grown_rows n g)) ≡ true
      wider h =
          let t = triple q g.first g.deep g.wide h in
          let lt : t.i < g.first + n = omega (arith, t.row) in
          ap (λ q. is_inside q (extents_of_rows (grown_rows n g))) t.is
          ∙ ap (λ p. p && (int_le (pos 0) (pos t.j) && int_lt (pos t.j) (pos g.deep) && (int_le (pos 0) (pos t.k) && int_lt (pos t.k) (pos g.wide) && true))) (inside_of t.i (g.first + n) lt)
          ∙ ap (λ p. p && (int_le (pos 0) (pos t.k) && int_lt (pos t.k) (pos g.wide) && true)) (inside_of t.j g.deep t.line)
          ∙ ap (λ p. p && true) (inside_of t.k g.wide t.cell)

      outside : is_inside q (extents_of_rows (grown_rows n g)) ≡ false → is_inside q (extents_of_rows g) ≡ false
      outside h = still (is_inside q (extents_of_rows g)) refl
        where
          still : (p : Bool) → is_inside q (extents_of_rows g) ≡ p → is_inside q (extents_of_rows g) ≡ false
          still true k = let e = wider k in absurd (cc)
          still false k = k

      by : (p : Bool) → is_inside q (extents_of_rows (grown_rows n g)) ≡ p → cell_in (grown_rows n g) q ≡ cell_in g q
      by true h = choice (is_inside q (extents_of_rows (grown_rows n g))) _ 0 h ∙ new_case q h
      by false h = other (is_inside q (extents_of_rows (grown_rows n g))) _ 0 h ∙ sym (other (is_inside q (extents_of_rows g)) _ 0 (outside h))
