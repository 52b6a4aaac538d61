-- The values of an inspector's expressions in a turn.
use Rattle.std.proofs.Common.{◌≡◌, refl, sym, ap, ◌∙◌, ℕ, zero, suc, ◌+◌, ◌-◌, ◌*◌, ◌/◌, ◌<◌, ℤ, pos, ◌+ℤ◌, ◌-ℤ◌, ◌*ℤ◌, neg_ℤ, Bool, true, false, cond, arith, if◌then◌else◌}
use Rattle.std.proofs.lemmas.Int.{ints}
use Rattle.std.specs.Int.{int_div_euclid, int_min, int_max}
use Rattle.std.specs.Ordering.{int_eq}
use Rattle.std.proofs.lemmas.Bool.Decides.{Decides-int_eq}
use Rattle.std.proofs.Math.Nat.{div-one, zero-div, div-eq_of_lt}
use Rattle.c_tree.specs.declared.program.Matrix.{Matrix}
use Rattle.c_tree.specs.declared.index.Index.{Index}
use Rattle.c_tree.specs.declared.index.Index.TheVariants.{Const, Var, Minus, Floor, Ceil}
use Rattle.c_meaning.specs.Names.{Name, same_name}
use Rattle.c_meaning.specs.Value.{Sight}
use Rattle.c_meaning.specs.Memory.{Env}
use Rattle.inspectors.specs.declared.numbers.Sum.{Sum}
use Rattle.inspectors.specs.Numbers.{IsSmall, value_sum, low_sum, high_sum, offset_sum, width_sum, falling, rising}
use Rattle.inspectors.specs.Trees.{row_name, entry_name, plus_one}
use Rattle.inspectors.specs.Expressions.{column, is_square, sum_text, text_of, quotient, value, offset, width, rows_below, rows_above, group, next_group, pointers}
use Rattle.sparse_marks.specs.Matrices.{Csr}
use Rattle.sparse_marks.specs.Forms.{Form, group_by, groups_by, value_at, least_value, greatest_value}
use Rattle.sparse_marks.proofs.Telling.{groups_above}
use Rattle.inspector_runs.specs.Texts.{Loops}
use Rattle.inspector_runs.specs.Shown.{row_env, turn_env}
use Rattle.inspector_laws.specs.Ready.{IsSmallForm, group_of, value_count, mark_count, compacted}
use Rattle.inspector_laws.proofs.Bounded.{Bounded, natural, not_negative, bounded_as, bounded_const, bounded_plus, bounded_minus, bounded_floor, bounded_ceil}
use Rattle.inspector_laws.proofs.Sums.{part, large, sum_value, text_has}
use Rattle.inspector_laws.proofs.Numbers.{kept, falling_is, rising_is, value_small, low_small, high_small, offset_small, width_small, value_is, low_is, high_is, offset_is, width_is, low_any, high_any, width_any, by_one}

-- the loops over a matrix
abbrev pub loops_of : Matrix → Loops
loops_of x = record { rows = x.rows; index = x.index; row = row_name; entry = entry_name }

-- the names' values in a turn
pub row_there : (x : Matrix) (c : Env) (i first j : ℕ) → turn_env (loops_of x) c i first j row_name ≡ pos i
row_there x c i first j = let e : pos 0 +ℤ pos i ≡ pos i = grind (arith, ints) in e

pub entry_there : (x : Matrix) (c : Env) (i first j : ℕ) → turn_env (loops_of x) c i first j entry_name ≡ pos (first + j)
entry_there x c i first j = refl

pub other_there : (x : Matrix) (c : Env) (i first j : ℕ) (y : Name) → same_name entry_name y ≡ false → same_name row_name y ≡ false → turn_env (loops_of x) c i first j y ≡ c y
other_there x c i first j y h k = ap (λ b. if b then pos first +ℤ pos j else row_env (loops_of x) c i y) h ∙ ap (λ b. if b then pos 0 +ℤ pos i else c y) k

pub row_in_row : (x : Matrix) (c : Env) (i : ℕ) → row_env (loops_of x) c i row_name ≡ pos i
row_in_row x c i = let e : pos 0 +ℤ pos i ≡ pos i = grind (arith, ints) in e

-- a divisor 1 isn't printed
divided : (x : Matrix) (cols_first : Bool) (f : Form) (e g : Index) (s : Sight) (v : ℤ) (w : ℕ) → (f.divisor ≡ 1 → Bounded e s v w) → Bounded g s v w → Bounded (cond (int_eq (pos f.divisor) (pos 1)) e g) s v w
divided x cols_first f e g s v w h k = by _ refl
  where
    number : (n : ℕ) → pos n ≡ pos 1 → n ≡ 1
    number n q = cc

    by : (b : Bool) → int_eq (pos f.divisor) (pos 1) ≡ b → Bounded (cond b e g) s v w
    by true q = h (number f.divisor ((Decides-int_eq (pos f.divisor) (pos 1)).0 q))
    by false q = k

-- what an expression outside the loops sees, and in a turn
pub record SeesAll (x : Matrix) (s : Sight) (r n k j : ℕ) : Type 0 where
  pub row : Bounded (Var row_name) s (pos r) large
  pub rows : Bounded (Var x.rows) s (pos n) large
  pub cols : Bounded (Var x.cols) s (pos k) large
  pub column : Bounded (column x) s (pos j) large
  pub square : is_square x ≡ true → n ≡ k

-- a quotient by 1 is the number
one_quotient : (v : ℤ) (t : ℕ) → t ≡ 1 → v ≡ int_div_euclid v (pos t)
one_quotient v t h = sym (by_one v) ∙ ap (λ u. int_div_euclid v (pos u)) (sym h)

less_one : (m : ℕ) → suc m - 1 ≡ m
less_one m = omega arith

pub value_has : (x : Matrix) (cols_first : Bool) (f : Form) (s : Sight) (r n k j : ℕ) → IsSmallForm f → SeesAll x s r n k j → Bounded (value (compacted x cols_first f)) s (value_at f r j) (5 * part)
unfolding value
value_has x cols_first f s r n k j h e =
    let t : Bounded (text_of (compacted x cols_first f) (value_sum (kept f))) s ((pos j +ℤ (f.c *ℤ pos r)) +ℤ f.s0) (5 * part) =
    bounded_as _ s _ _ (5 * part) (5 * part) (value_is f r n k j) (omega arith)
    (text_has x cols_first s (value_sum (kept f)) r n k j (record { row = λ _. e.row; rows = e.rows; cols = e.cols; column = λ _. e.column; square = e.square; small = value_small f h })) in
    divided x cols_first f _ _ s (value_at f r j) (5 * part)
    (λ q. bounded_as _ s _ _ (5 * part) (5 * part) (one_quotient _ f.divisor q) (omega arith) t)
    (bounded_floor _ f.divisor s _ (5 * part) t)

-- the least value as a quotient, in m + 1 rows
least_is : (f : Form) (a : Csr) (m : ℕ) → a.rows ≡ suc m → int_div_euclid (f.s0 +ℤ (falling f.c *ℤ pos m)) (pos f.divisor) ≡ least_value f a
least_is f a m h = ap (λ y. int_div_euclid (f.s0 +ℤ (y *ℤ pos m)) (pos f.divisor)) (falling_is f.c) ∙ ap (λ y. int_div_euclid (f.s0 +ℤ (int_min (pos 0) f.c *ℤ pos y)) (pos f.divisor)) (sym (ap (λ z. z - 1) h ∙ less_one m))

greatest_is : (f : Form) (a : Csr) (m : ℕ) → a.rows ≡ suc m → int_div_euclid (((pos a.cols -ℤ pos 1) +ℤ f.s0) +ℤ (rising f.c *ℤ pos m)) (pos f.divisor) ≡ greatest_value f a
greatest_is f a m h =
    ap (λ y. int_div_euclid (((pos a.cols -ℤ pos 1) +ℤ f.s0) +ℤ (y *ℤ pos m)) (pos f.divisor)) (rising_is f.c)
    ∙ ap (λ y. int_div_euclid (((pos a.cols -ℤ pos 1) +ℤ f.s0) +ℤ (int_max (pos 0) f.c *ℤ pos y)) (pos f.divisor)) (sym (ap (λ z. z - 1) h ∙ less_one m))

-- the low sum needs no row and no column
low_text : (x : Matrix) (cols_first : Bool) (f : Form) (s : Sight) (r m k j : ℕ) → IsSmallForm f → Bounded (Var x.rows) s (pos (suc m)) large → Bounded (Var x.cols) s (pos k) large → (is_square x ≡ true → suc m ≡ k)
    → Bounded (text_of (compacted x cols_first f) (low_sum (kept f))) s (f.s0 +ℤ (falling f.c *ℤ pos m)) (5 * part)
low_text x cols_first f s r m k j h n l q =
    bounded_as _ s _ _ (5 * part) (5 * part) (low_is f r m k j) (omega arith)
    (text_has x cols_first s (low_sum (kept f)) r (suc m) k j (record { row = λ z. absurd (z refl); rows = n; cols = l; column = λ z. absurd (z refl); square = q; small = low_small f h }))

high_text : (x : Matrix) (cols_first : Bool) (f : Form) (s : Sight) (r m k j : ℕ) → IsSmallForm f → Bounded (Var x.rows) s (pos (suc m)) large → Bounded (Var x.cols) s (pos k) large → (is_square x ≡ true → suc m ≡ k)
    → Bounded (text_of (compacted x cols_first f) (high_sum (kept f))) s (((pos k -ℤ pos 1) +ℤ f.s0) +ℤ (rising f.c *ℤ pos m)) (5 * part)
high_text x cols_first f s r m k j h n l q =
    bounded_as _ s _ _ (5 * part) (5 * part) (high_is f r m k j) (omega arith)
    (text_has x cols_first s (high_sum (kept f)) r (suc m) k j (record { row = λ z. absurd (z refl); rows = n; cols = l; column = λ z. absurd (z refl); square = q; small = high_small f h }))

pub offset_has : (x : Matrix) (cols_first : Bool) (f : Form) (a : Csr) (s : Sight) (r m j : ℕ) → a.rows ≡ suc m → IsSmallForm f → SeesAll x s r (suc m) a.cols j
    → Bounded (offset (compacted x cols_first f)) s (value_at f r j -ℤ least_value f a) (10 * part)
unfolding offset
offset_has x cols_first f a s r m j g h e =
    divided x cols_first f _ _ s (value_at f r j -ℤ least_value f a) (10 * part)
    (λ q. bounded_as _ s _ _ (5 * part) (10 * part)
    (offset_is f r m a.cols j ∙ ap (λ y. y -ℤ (f.s0 +ℤ (falling f.c *ℤ pos m))) (one_quotient _ f.divisor q) ∙ ap (λ y. value_at f r j -ℤ y) (one_quotient _ f.divisor q ∙ least_is f a m g)) (omega arith)
    (text_has x cols_first s (offset_sum (kept f)) r (suc m) a.cols j (record { row = λ _. e.row; rows = e.rows; cols = e.cols; column = λ _. e.column; square = e.square; small = offset_small f h })))
    (bounded_as _ s _ _ (5 * part + 5 * part) (10 * part) (ap (λ y. value_at f r j -ℤ y) (least_is f a m g)) (omega arith)
    (bounded_minus _ _ s _ _ (5 * part) (5 * part)
    (bounded_floor _ f.divisor s _ (5 * part) (bounded_as _ s _ _ (5 * part) (5 * part) (value_is f r (suc m) a.cols j) (omega arith)
    (text_has x cols_first s (value_sum (kept f)) r (suc m) a.cols j (record { row = λ _. e.row; rows = e.rows; cols = e.cols; column = λ _. e.column; square = e.square; small = value_small f h }))))
    (bounded_floor _ f.divisor s _ (5 * part) (low_text x cols_first f s r m a.cols j h e.rows e.cols e.square))))

pub width_has : (x : Matrix) (cols_first : Bool) (f : Form) (a : Csr) (s : Sight) (m : ℕ) → a.rows ≡ suc m → IsSmallForm f
    → Bounded (Var x.rows) s (pos (suc m)) large → Bounded (Var x.cols) s (pos a.cols) large → (is_square x ≡ true → suc m ≡ a.cols)
    → Bounded (width (compacted x cols_first f)) s ((greatest_value f a -ℤ least_value f a) +ℤ pos 1) (10 * part + 1)
unfolding width
width_has x cols_first f a s m g h n l e =
    divided x cols_first f _ _ s ((greatest_value f a -ℤ least_value f a) +ℤ pos 1) (10 * part + 1)
    (λ q. bounded_as _ s _ _ (5 * part) (10 * part + 1)
    (width_is f 0 m a.cols 0 ∙ ap (λ y. (y -ℤ (f.s0 +ℤ (falling f.c *ℤ pos m))) +ℤ pos 1) (one_quotient _ f.divisor q ∙ greatest_is f a m g) ∙ ap (λ y. (greatest_value f a -ℤ y) +ℤ pos 1) (one_quotient _ f.divisor q ∙ least_is f a m g)) (omega arith)
    (text_has x cols_first s (width_sum (kept f)) 0 (suc m) a.cols 0 (record { row = λ z. absurd (z refl); rows = n; cols = l; column = λ z. absurd (z refl); square = e; small = width_small f h })))
    (bounded_as _ s _ _ (5 * part + 5 * part + 1) (10 * part + 1) (ap (λ y. (y -ℤ int_div_euclid (f.s0 +ℤ (falling f.c *ℤ pos m)) (pos f.divisor)) +ℤ pos 1) (greatest_is f a m g) ∙ ap (λ y. (greatest_value f a -ℤ y) +ℤ pos 1) (least_is f a m g)) (omega arith)
    (bounded_plus _ (Const (pos 1)) s _ (pos 1) (5 * part + 5 * part) 1
    (bounded_minus _ _ s _ _ (5 * part) (5 * part) (bounded_floor _ f.divisor s _ (5 * part) (high_text x cols_first f s 0 m a.cols 0 h n l e)) (bounded_floor _ f.divisor s _ (5 * part) (low_text x cols_first f s 0 m a.cols 0 h n l e)))
    (bounded_const (pos 1) s 1 (omega arith))))

-- for any number of rows it has some value
abbrev pub any_width : Form → ℕ → ℕ → ℤ
any_width f n k =
    cond (int_eq (pos f.divisor) (pos 1)) (sum_value (width_sum (kept f)) 0 n k 0)
    ((int_div_euclid (sum_value (high_sum (kept f)) 0 n k 0) (pos f.divisor) -ℤ int_div_euclid (sum_value (low_sum (kept f)) 0 n k 0) (pos f.divisor)) +ℤ pos 1)

pub width_some : (x : Matrix) (cols_first : Bool) (f : Form) (s : Sight) (n k : ℕ) → IsSmallForm f
    → Bounded (Var x.rows) s (pos n) large → Bounded (Var x.cols) s (pos k) large → (is_square x ≡ true → n ≡ k) → Bounded (width (compacted x cols_first f)) s (any_width f n k) (10 * part + 1)
unfolding width
width_some x cols_first f s n k h p l e = by _
  where
    text : (z : Sum) → z.row ≡ pos 0 → z.column ≡ pos 0 → IsSmall z → Bounded (sum_text x cols_first z) s (sum_value z 0 n k 0) (5 * part)
    text z a b i = text_has x cols_first s z 0 n k 0 (record { row = λ q. absurd (q a); rows = p; cols = l; column = λ q. absurd (q b); square = e; small = i })

    by : (b : Bool) → Bounded (cond b (text_of (compacted x cols_first f) (width_sum (kept f))) (plus_one (Minus (quotient (compacted x cols_first f) (high_sum (kept f))) (quotient (compacted x cols_first f) (low_sum (kept f)))))) s
        (cond b (sum_value (width_sum (kept f)) 0 n k 0) ((int_div_euclid (sum_value (high_sum (kept f)) 0 n k 0) (pos f.divisor) -ℤ int_div_euclid (sum_value (low_sum (kept f)) 0 n k 0) (pos f.divisor)) +ℤ pos 1)) (10 * part + 1)
    by true = bounded_as _ s _ _ (5 * part) (10 * part + 1) refl (omega arith) (text (width_sum (kept f)) refl refl (width_small f h))
    by false =
        bounded_as _ s _ _ (5 * part + 5 * part + 1) (10 * part + 1) refl (omega arith)
        (bounded_plus _ (Const (pos 1)) s _ (pos 1) (5 * part + 5 * part) 1
        (bounded_minus _ _ s _ _ (5 * part) (5 * part) (bounded_floor _ f.divisor s _ (5 * part) (text (high_sum (kept f)) refl refl (high_small f h))) (bounded_floor _ f.divisor s _ (5 * part) (text (low_sum (kept f)) refl refl (low_small f h))))
        (bounded_const (pos 1) s 1 (omega arith)))

-- rows by groups
below_has : (k : ℕ) (y : Name) (s : Sight) (i w : ℕ) → Bounded (Var y) s (pos i) w → Bounded (rows_below (pos (suc k)) y) s (pos (i / suc k)) w
below_has k y s i w b = by _ refl
  where
    one : pos (suc k) ≡ pos 1 → i ≡ i / suc k
    one q = let e : suc k ≡ 1 = cc in sym (ap (λ n. i / n) e ∙ div-one i)

    by : (c : Bool) → int_eq (pos (suc k)) (pos 1) ≡ c → Bounded (cond c (Var y) (Floor (Var y) (pos (suc k)))) s (pos (i / suc k)) w
    by true q = bounded_as (Var y) s (pos i) (pos (i / suc k)) w w (ap pos (one ((Decides-int_eq (pos (suc k)) (pos 1)).0 q))) (omega arith) b
    by false q = bounded_floor (Var y) (suc k) s (pos i) w b

pub group_has : (k : ℕ) (s : Sight) (i w : ℕ) → Bounded (Var row_name) s (pos i) w → Bounded (group (group_of k)) s (pos (group_by k i)) w
group_has zero s i w b = bounded_const (pos 0) s w (omega arith)
group_has (suc k) s i w b = below_has k row_name s i w b

pub next_has : (k : ℕ) (s : Sight) (i w : ℕ) → Bounded (Var row_name) s (pos i) w → Bounded (next_group (group_of k)) s (pos (suc (group_by k i))) (w + 1)
next_has zero s i w b = bounded_const (pos 1) s (w + 1) (omega arith)
next_has (suc k) s i w b = bounded_as _ s _ _ (w + 1) (w + 1) (let e : pos (i / suc k) +ℤ pos 1 ≡ pos (suc (i / suc k)) = grind (arith, ints) in e) (omega arith) (bounded_plus _ (Const (pos 1)) s (pos (i / suc k)) (pos 1) w 1 (below_has k row_name s i w b) (bounded_const (pos 1) s 1 (omega arith)))

-- the rows divided upwards are the groups
above_is : (k n : ℕ) → neg_ℤ (int_div_euclid (neg_ℤ (pos n)) (pos (suc k))) ≡ pos (groups_by (suc k) n)
above_is k zero = ap (λ n. neg_ℤ (pos n)) (zero-div (suc k)) ∙ ap pos (sym (ap (λ n. n / suc k) (let e : 0 + k ≡ k = omega arith in e) ∙ div-eq_of_lt (let l : k < suc k = omega arith in l)))
above_is k (suc n) = ap pos (sym (groups_above (suc k) n))

above_has : (k : ℕ) (y : Name) (s : Sight) (n w : ℕ) → Bounded (Var y) s (pos n) w → Bounded (rows_above (pos (suc k)) y) s (pos (groups_by (suc k) n)) w
above_has k y s n w b = by _ refl
  where
    one : pos (suc k) ≡ pos 1 → n ≡ groups_by (suc k) n
    one q = let e : suc k ≡ 1 = cc in let z : k ≡ 0 = omega (arith, e) in sym (ap (λ t. (n + k) / t) e ∙ div-one (n + k) ∙ (let u : n + k ≡ n = omega (arith, z) in u))

    by : (c : Bool) → int_eq (pos (suc k)) (pos 1) ≡ c → Bounded (cond c (Var y) (Ceil (Var y) (pos (suc k)))) s (pos (groups_by (suc k) n)) w
    by true q = bounded_as (Var y) s (pos n) (pos (groups_by (suc k) n)) w w (ap pos (one ((Decides-int_eq (pos (suc k)) (pos 1)).0 q))) (omega arith) b
    by false q = bounded_as _ s _ _ w w (above_is k n) (omega arith) (bounded_ceil (Var y) (suc k) s (pos n) w b)

pub pointers_has : (x : Matrix) (k : ℕ) (s : Sight) (n w : ℕ) → Bounded (Var x.rows) s (pos n) w → Bounded (pointers x (group_of k)) s (pos (suc (groups_by k n))) (w + 2)
pointers_has x zero s n w b = bounded_const (pos 2) s (w + 2) (omega arith)
pointers_has x (suc k) s n w b =
    bounded_as _ s _ _ (w + 1) (w + 2) (let e : pos (groups_by (suc k) n) +ℤ pos 1 ≡ pos (suc (groups_by (suc k) n)) = grind (arith, ints) in e) (omega arith)
    (bounded_plus _ (Const (pos 1)) s (pos (groups_by (suc k) n)) (pos 1) w 1 (above_has k x.rows s n w b) (bounded_const (pos 1) s 1 (omega arith)))

-- it is how many values there are from the least to the greatest one
pub any_is : (f : Form) (a : Csr) → any_width f a.rows a.cols ≡ value_count f a
any_is f a = by _ refl
  where
    from_least : (int_div_euclid (((pos a.cols -ℤ pos 1) +ℤ f.s0) +ℤ (rising f.c *ℤ (pos a.rows -ℤ pos 1))) (pos f.divisor) -ℤ int_div_euclid (f.s0 +ℤ (falling f.c *ℤ (pos a.rows -ℤ pos 1))) (pos f.divisor)) +ℤ pos 1 ≡ value_count f a
    from_least =
        ap (λ z. (int_div_euclid (((pos a.cols -ℤ pos 1) +ℤ f.s0) +ℤ (z *ℤ (pos a.rows -ℤ pos 1))) (pos f.divisor) -ℤ int_div_euclid (f.s0 +ℤ (falling f.c *ℤ (pos a.rows -ℤ pos 1))) (pos f.divisor)) +ℤ pos 1) (rising_is f.c)
        ∙ ap (λ z. (int_div_euclid (((pos a.cols -ℤ pos 1) +ℤ f.s0) +ℤ (int_max (pos 0) f.c *ℤ (pos a.rows -ℤ pos 1))) (pos f.divisor) -ℤ int_div_euclid (f.s0 +ℤ (z *ℤ (pos a.rows -ℤ pos 1))) (pos f.divisor)) +ℤ pos 1) (falling_is f.c)

    by : (b : Bool) → int_eq (pos f.divisor) (pos 1) ≡ b
        → cond b (sum_value (width_sum (kept f)) 0 a.rows a.cols 0) ((int_div_euclid (sum_value (high_sum (kept f)) 0 a.rows a.cols 0) (pos f.divisor) -ℤ int_div_euclid (sum_value (low_sum (kept f)) 0 a.rows a.cols 0) (pos f.divisor)) +ℤ pos 1) ≡ value_count f a
    by true q =
        let t : f.divisor ≡ 1 = number f.divisor ((Decides-int_eq (pos f.divisor) (pos 1)).0 q) in
        width_any f a.rows a.cols
        ∙ ap (λ y. (y -ℤ (f.s0 +ℤ (falling f.c *ℤ (pos a.rows -ℤ pos 1)))) +ℤ pos 1) (one_quotient (((pos a.cols -ℤ pos 1) +ℤ f.s0) +ℤ (rising f.c *ℤ (pos a.rows -ℤ pos 1))) f.divisor t)
        ∙ ap (λ y. (int_div_euclid (((pos a.cols -ℤ pos 1) +ℤ f.s0) +ℤ (rising f.c *ℤ (pos a.rows -ℤ pos 1))) (pos f.divisor) -ℤ y) +ℤ pos 1) (one_quotient (f.s0 +ℤ (falling f.c *ℤ (pos a.rows -ℤ pos 1))) f.divisor t)
        ∙ from_least
      where
        number : (n : ℕ) → pos n ≡ pos 1 → n ≡ 1
        number n e = cc
    by false q =
        ap (λ y. (int_div_euclid y (pos f.divisor) -ℤ int_div_euclid (sum_value (low_sum (kept f)) 0 a.rows a.cols 0) (pos f.divisor)) +ℤ pos 1) (high_any f a.rows a.cols)
        ∙ ap (λ y. (int_div_euclid (((pos a.cols -ℤ pos 1) +ℤ f.s0) +ℤ (rising f.c *ℤ (pos a.rows -ℤ pos 1))) (pos f.divisor) -ℤ int_div_euclid y (pos f.divisor)) +ℤ pos 1) (low_any f a.rows a.cols)
        ∙ from_least

-- and in some rows
pub some_is : (f : Form) (a : Csr) (m : ℕ) → a.rows ≡ suc m → (greatest_value f a -ℤ least_value f a) +ℤ pos 1 ≡ value_count f a
some_is f a m h =
    let less : pos (a.rows - 1) ≡ pos a.rows -ℤ pos 1 = by_rows a.rows m h in
    ap (λ y. (int_div_euclid (((pos a.cols -ℤ pos 1) +ℤ f.s0) +ℤ (int_max (pos 0) f.c *ℤ y)) (pos f.divisor) -ℤ least_value f a) +ℤ pos 1) less
    ∙ ap (λ y. (int_div_euclid (((pos a.cols -ℤ pos 1) +ℤ f.s0) +ℤ (int_max (pos 0) f.c *ℤ (pos a.rows -ℤ pos 1))) (pos f.divisor) -ℤ int_div_euclid (f.s0 +ℤ (int_min (pos 0) f.c *ℤ y)) (pos f.divisor)) +ℤ pos 1) less
  where
    by_rows : (n m : ℕ) → n ≡ suc m → pos (n - 1) ≡ pos n -ℤ pos 1
    by_rows n m e = ap (λ k. pos (k - 1)) e ∙ ap pos (less_one m) ∙ (let l : pos m ≡ pos (suc m) -ℤ pos 1 = grind (arith, ints) in l) ∙ ap (λ k. pos k -ℤ pos 1) (sym e)

-- as many marks as are made
pub any_marks : (f : Form) (a : Csr) → pos (natural (any_width f a.rows a.cols)) ≡ mark_count f a
any_marks f a = sym (not_negative (any_width f a.rows a.cols)) ∙ ap (λ v. int_max (pos 0) v) (any_is f a)

pub some_marks : (f : Form) (a : Csr) (m : ℕ) → a.rows ≡ suc m → pos (natural ((greatest_value f a -ℤ least_value f a) +ℤ pos 1)) ≡ mark_count f a
some_marks f a m h = sym (not_negative ((greatest_value f a -ℤ least_value f a) +ℤ pos 1)) ∙ ap (λ v. int_max (pos 0) v) (some_is f a m h)
