-- Where blocks and diagonals store an entry.
use Rattle.std.proofs.Common.{◌≡◌, refl, sym, ap, ◌∙◌, ℕ, ◌+◌, ◌*◌, ◌/◌, ◌%◌, ◌≤◌, ◌<◌, ◌^◌, ℤ, pos, ◌+ℤ◌, ◌-ℤ◌, ◌*ℤ◌, Bool, true, false, cond, [], ◌∷◌, arith}
use Rattle.std.proofs.lemmas.Int.{ints}
use Rattle.std.proofs.lemmas.Nat.{div-add-mod'}
use Rattle.std.proofs.Math.Nat.{mod-one, mod-lt, mul_comm, mul-le-mul, mul-le-mul_right, mul-one}
use Rattle.std.proofs.Math.IntN.{zero-*ℤ}
use Rattle.std.specs.Int.{int_div_euclid}
use Rattle.std.specs.Ordering.{int_eq}
use Rattle.std.proofs.lemmas.Bool.Decides.{Decides-int_eq}
use Rattle.c_tree.specs.declared.program.Matrix.{Matrix}
use Rattle.c_tree.specs.declared.program.Kind.TheVariants.{Number}
use Rattle.c_tree.specs.declared.index.Index.TheVariants.{Const, Var, Minus, Times, Floor}
use Rattle.c_tree.specs.declared.index.Subscripts.TheVariants.{Two, Three}
use Rattle.c_meaning.specs.Names.{Name}
use Rattle.c_meaning.specs.Weighed.{greatest}
use Rattle.c_meaning.specs.Value.{Sight}
use Rattle.c_meaning.specs.Memory.{Memory, Env, sight_of}
use Rattle.inspectors.specs.Trees.{row_name}
use Rattle.inspectors.specs.Expressions.{column, value}
use Rattle.inspectors.specs.Layouts.{row_in_block, column_in_block}
use Rattle.sparse_marks.specs.Matrices.{Csr}
use Rattle.sparse_marks.specs.Forms.{value_at}
use Rattle.sparse_layouts.specs.Layouts.{blocks, in_block, diagonals, in_diagonal}
use Rattle.inspector_runs.specs.Texts.{Arrays}
use Rattle.inspector_runs.proofs.Values.{value_const}
use Rattle.inspector_runs.proofs.Targets.{subscripts_two, subscripts_three, inside_two, inside_three, declare_one, declare_two}
use Rattle.inspector_laws.specs.Ready.{IsSmallForm, Holds, compacted}
use Rattle.inspector_laws.proofs.Bounded.{Bounded, bounded_as, bounded_const, bounded_minus, bounded_times, bounded_floor, bounded_var, value_bounded}
use Rattle.inspector_laws.proofs.Sums.{part, large}
use Rattle.inspector_laws.proofs.Expressions.{SeesAll, value_has}
use Rattle.inspector_laws.proofs.Compacting.{text_of}
use Rattle.inspector_laws.proofs.Storing.{place_text, Store}

pub blocks_small : (rows cols : ℕ) → 0 < cols → IsSmallForm (blocks rows cols)
blocks_small rows cols h = record { c = omega arith; s0 = omega arith; divisor = h }

pub diagonals_small : IsSmallForm diagonals
diagonals_small = record { c = omega arith; s0 = omega arith; divisor = omega arith }

is_one : (n : ℕ) → pos n ≡ pos 1 → n ≡ 1
is_one n q = cc

-- what is left of a number by a divisor
rest_of : (i d : ℕ) → pos i -ℤ (pos d *ℤ pos (i / d)) ≡ pos (i % d)
rest_of i d = by i (d * (i / d)) (i % d) (let p : i / d * d + i % d ≡ i = div-add-mod' i d in let q : d * (i / d) ≡ i / d * d = mul_comm d (i / d) in omega (arith, p, q))
  where
    by : (i y z : ℕ) → y + z ≡ i → pos i -ℤ pos y ≡ pos z
    by i y z h = grind (arith, ints, h)

rest_of_one : (i d : ℕ) → d ≡ 1 → pos 0 ≡ pos (i % d)
rest_of_one i d e = ap pos (sym (ap (λ d. i % d) e ∙ mod-one i))

-- the row in a block
row_has : (d i w : ℕ) (s : Sight) → d ≤ 64 → Bounded (Var row_name) s (pos i) w → Bounded (row_in_block (pos d)) s (pos (i % d)) (w + 64 * w)
row_has d i w s h b = by _ refl
  where
    by : (c : Bool) → int_eq (pos d) (pos 1) ≡ c → Bounded (cond c (Const (pos 0)) (Minus (Var row_name) (Times (pos d) (Floor (Var row_name) (pos d))))) s (pos (i % d)) (w + 64 * w)
    by true q = bounded_as (Const (pos 0)) s (pos 0) (pos (i % d)) 0 (w + 64 * w) (rest_of_one i d (is_one d ((Decides-int_eq (pos d) (pos 1)).0 q))) (omega arith) (bounded_const (pos 0) s 0 (omega arith))
    by false q =
        bounded_as _ s _ (pos (i % d)) (w + 64 * w) (w + 64 * w) (rest_of i d) (omega arith)
        (bounded_minus (Var row_name) _ s (pos i) (pos d *ℤ pos (i / d)) w (64 * w) b
        (bounded_times (pos d) (Floor (Var row_name) (pos d)) s (pos (i / d)) w (64 * w) (mul-le-mul_right w h) (bounded_floor (Var row_name) d s (pos i) w b)))

-- the value of an entry by blocks is its column divided
block_value : (rows cols i j : ℕ) → value_at (blocks rows cols) i j ≡ pos (j / cols)
block_value rows cols i j = ap (λ y. int_div_euclid y (pos cols)) (by (pos 0 *ℤ pos i) (zero-*ℤ (pos i)))
  where
    by : (y : ℤ) → y ≡ pos 0 → (pos j +ℤ y) +ℤ pos 0 ≡ pos j
    by y h = omega (arith, ints, h)

column_has : (x : Matrix) (cols_first : Bool) (rows cols r n k j : ℕ) (s : Sight) → 0 < cols → cols ≤ 64 → SeesAll x s r n k j
    → Bounded (column_in_block (compacted x cols_first (blocks rows cols)) (pos cols)) s (pos (j % cols)) (large + 64 * (5 * part))
column_has x cols_first rows cols r n k j s z h e = by _ refl
  where
    by : (c : Bool) → int_eq (pos cols) (pos 1) ≡ c
        → Bounded (cond c (Const (pos 0)) (Minus (column x) (Times (pos cols) (value (compacted x cols_first (blocks rows cols)))))) s (pos (j % cols)) (large + 64 * (5 * part))
    by true q =
        bounded_as (Const (pos 0)) s (pos 0) (pos (j % cols)) 0 (large + 64 * (5 * part)) (rest_of_one j cols (is_one cols ((Decides-int_eq (pos cols) (pos 1)).0 q))) (omega arith) (bounded_const (pos 0) s 0 (omega arith))
    by false q =
        bounded_as _ s _ (pos (j % cols)) (large + 64 * (5 * part)) (large + 64 * (5 * part)) (ap (λ y. pos j -ℤ (pos cols *ℤ y)) (block_value rows cols r j) ∙ rest_of j cols) (omega arith)
        (bounded_minus (column x) _ s (pos j) (pos cols *ℤ value_at (blocks rows cols) r j) large (64 * (5 * part)) e.column
        (bounded_times (pos cols) _ s (value_at (blocks rows cols) r j) (5 * part) (64 * (5 * part)) (mul-le-mul_right (5 * part) h) (value_has x cols_first (blocks rows cols) s r n k j (blocks_small rows cols z) e)))

rows_fit : large + 64 * large ≤ greatest
rows_fit = omega arith

columns_fit : large + 64 * (5 * part) ≤ greatest
columns_fit = omega arith

large_fits : large ≤ greatest
large_fits = omega arith

up : (a b c : ℕ) → a ≤ b → b ≤ c → a ≤ c
up a b c p q = omega (arith, p, q)

pub block_store : (x : Matrix) (cols_first : Bool) (rows cols : ℕ) (b : Arrays) (lay : Name) (c : Env) (a : Csr) → 0 < rows → rows ≤ 64 → 0 < cols → cols ≤ 64
    → Store x b (text_of x cols_first (blocks rows cols)) lay c a (in_block rows cols) [] (Const (pos rows) ∷ Const (pos cols) ∷ [])
    (Three (place_text b (text_of x cols_first (blocks rows cols))) (row_in_block (pos rows)) (column_in_block (compacted x cols_first (blocks rows cols)) (pos cols))) rows cols
block_store x cols_first rows cols b lay c a p q r s = record {
  declares = λ m. declare_two lay Number (Const (pos rows)) (Const (pos cols)) c m rows cols (value_const (pos rows) _ (side_fits rows q)) (value_const (pos cols) _ (side_fits cols s)) (up (rows * (cols * 1)) (2 ^ 24) greatest cells_small (omega arith));
  subscripts = λ i j y m l e z h.
      subscripts_three _ _ _ _ (pos y) (pos (i % rows)) (pos (a.col (a.first i + j) % cols)) h
      (value_bounded _ _ _ (large + 64 * large) (row_has rows i large _ q z.row) rows_fit)
      (value_bounded _ _ _ (large + 64 * (5 * part)) (column_has x cols_first rows cols i a.rows a.cols (a.col (a.first i + j)) _ r s z) columns_fit);
  inside = λ i j y n l e h. inside_three y (i % rows) (a.col (a.first i + j) % cols) n rows cols h (mod-lt i p) (mod-lt (a.col (a.first i + j)) r);
  small = cells_small;
}
  where
    side_fits : (n : ℕ) → n ≤ 64 → n ≤ greatest
    side_fits n h = up n 64 greatest h (omega arith)

    cells_small : rows * (cols * 1) ≤ 2 ^ 24
    cells_small =
        let y : cols * 1 ≤ 64 = let z : cols * 1 ≡ cols = mul-one cols in omega (arith, z, s) in
        let z : rows * (cols * 1) ≤ 64 * 64 = mul-le-mul q y in
        up (rows * (cols * 1)) (64 * 64) (2 ^ 24) z (omega arith)

pub diagonal_store : (x : Matrix) (cols_first : Bool) (b : Arrays) (lay : Name) (c : Env) (m : Memory) (a : Csr) → Holds x c m a
    → Store x b (text_of x cols_first diagonals) lay c a in_diagonal (pos 0 ∷ []) (Var x.rows ∷ []) (Two (place_text b (text_of x cols_first diagonals)) (Var row_name)) a.rows 1
diagonal_store x cols_first b lay c m a h = record {
  declares = λ m'. declare_one lay Number (Var x.rows) c m' a.rows (value_bounded _ _ (pos a.rows) large (bounded_var x.rows (sight_of c m') a.rows large h.rows h.rows_small) large_fits) (let z = h.rows_small in up a.rows large greatest z large_fits);
  subscripts = λ i j y m' l e z g. subscripts_two _ _ _ (pos y) (pos i) g (value_bounded _ _ (pos i) large z.row large_fits);
  inside = λ i j y n l e g. inside_two y i n a.rows g l;
  small = let z = h.rows_small in let y : a.rows * (1 * 1) ≡ a.rows = mul-one a.rows in omega (arith, y, z);
}
