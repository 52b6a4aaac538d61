-- The values of the sums that an inspector speaks of.
use Rattle.std.proofs.Common.{◌≡◌, refl, ap, ◌∙◌, ℕ, ◌+◌, ◌*◌, ◌≤◌, ◌^◌, ℤ, pos, ◌+ℤ◌, ◌*ℤ◌, Bool, true, false, cond, Option, None, arith, unsigned_abs}
use Rattle.std.proofs.lemmas.Int.{ints}
use Rattle.std.proofs.Math.Nat.{mul-le-mul_right}
use Rattle.chill_base.proofs.Ring.{sum_times}
use Rattle.c_tree.specs.declared.program.Matrix.{Matrix}
use Rattle.c_tree.specs.declared.index.Index.{Index}
use Rattle.c_tree.specs.declared.index.Index.TheVariants.{Var}
use Rattle.c_meaning.specs.Value.{Sight}
use Rattle.inspectors.specs.declared.numbers.Sum.{Sum}
use Rattle.inspectors.specs.Numbers.{IsSmall}
use Rattle.inspectors.specs.Trees.{row_name, with_multiple}
use Rattle.inspectors.specs.Expressions.{column, is_square, with_sizes, sum_text}
use Rattle.inspector_laws.proofs.Bounded.{Bounded, HasSum, bounded_as, sum_as, has_multiple, has_constant}

-- what a part of a sum weighs at most
abbrev pub part : ℕ
part = 2 ^ 46

abbrev pub large : ℕ
large = 2 ^ 24

-- what the factors of a sum are: the row r, n rows, k columns and the column j
pub record Sees (x : Matrix) (s : Sight) (z : Sum) (r n k j : ℕ) : Type 0 where
  pub row : (z.row ≡ pos 0 → ⊥) → Bounded (Var row_name) s (pos r) large
  pub rows : Bounded (Var x.rows) s (pos n) large
  pub cols : Bounded (Var x.cols) s (pos k) large
  pub column : (z.column ≡ pos 0 → ⊥) → Bounded (column x) s (pos j) large
  pub square : is_square x ≡ true → n ≡ k
  pub small : IsSmall z

part_small : (z : ℤ) → unsigned_abs z ≤ 2 ^ 21 → unsigned_abs z * large ≤ part
part_small z h = let k : unsigned_abs z * large ≤ 2 ^ 21 * large = mul-le-mul_right large h in let l : 2 ^ 21 * large ≤ part = omega arith in omega (arith, k, l)

two_small : (y z : ℤ) → unsigned_abs y ≤ 2 ^ 21 → unsigned_abs z ≤ 2 ^ 21 → unsigned_abs (y +ℤ z) * large ≤ part
two_small y z h k =
    let a : unsigned_abs (y +ℤ z) ≤ 2 ^ 22 = within (unsigned_abs (y +ℤ z)) (unsigned_abs y) (unsigned_abs z) (sum_size y z) h k in
    let l : unsigned_abs (y +ℤ z) * large ≤ 2 ^ 22 * large = mul-le-mul_right large a in
    let m : 2 ^ 22 * large ≤ part = omega arith in
    omega (arith, l, m)
  where
    sum_size : (y z : ℤ) → unsigned_abs (y +ℤ z) ≤ unsigned_abs y + unsigned_abs z
    sum_size y z = grind (arith, ints)

    within : (s a b : ℕ) → s ≤ a + b → a ≤ 2 ^ 21 → b ≤ 2 ^ 21 → s ≤ 2 ^ 22
    within s a b p q r = omega (arith, p, q, r)

large_part : large ≤ part
large_part = omega arith

-- the multiples of both sizes, whichever stands first
sizes_has : (x : Matrix) (cols_first : Bool) (s : Sight) (z : Sum) (r n k j : ℕ) → Sees x s z r n k j → (o : Option Index) (v : ℤ) (w : ℕ) → HasSum o s v w
    → HasSum (with_sizes x cols_first z o) s (v +ℤ ((z.rows *ℤ pos n) +ℤ (z.cols *ℤ pos k))) (w + part + part)
unfolding with_sizes
sizes_has x cols_first s z r n k j e o v w h = by (is_square x) cols_first refl
  where
    together : n ≡ k → v +ℤ ((z.rows +ℤ z.cols) *ℤ pos n) ≡ v +ℤ ((z.rows *ℤ pos n) +ℤ (z.cols *ℤ pos k))
    together q = ap (λ y. v +ℤ y) (sum_times z.rows z.cols (pos n)) ∙ ap (λ y. v +ℤ ((z.rows *ℤ pos n) +ℤ (z.cols *ℤ pos y))) q

    regroup : (v y u : ℤ) → (v +ℤ y) +ℤ u ≡ v +ℤ (u +ℤ y)
    regroup v y u = omega (arith, ints)

    group : (v y u : ℤ) → (v +ℤ y) +ℤ u ≡ v +ℤ (y +ℤ u)
    group v y u = omega (arith, ints)

    by : (b f : Bool) → is_square x ≡ b → HasSum (cond b (with_multiple o (z.rows +ℤ z.cols) (Var x.rows)) (cond f (with_multiple (with_multiple o z.cols (Var x.cols)) z.rows (Var x.rows)) (with_multiple (with_multiple o z.rows (Var x.rows)) z.cols (Var x.cols)))) s (v +ℤ ((z.rows *ℤ pos n) +ℤ (z.cols *ℤ pos k))) (w + part + part)
    by true f q =
        sum_as (with_multiple o (z.rows +ℤ z.cols) (Var x.rows)) s _ _ (w + part) (w + part + part) (together (e.square q)) (omega arith)
        (has_multiple o (z.rows +ℤ z.cols) (Var x.rows) s v n w large part (two_small z.rows z.cols (e.small).rows (e.small).cols) large_part h (λ _. e.rows))
    by false true q =
        sum_as (with_multiple (with_multiple o z.cols (Var x.cols)) z.rows (Var x.rows)) s _ _ (w + part + part) (w + part + part) (regroup v (z.cols *ℤ pos k) (z.rows *ℤ pos n)) (omega arith)
        (has_multiple (with_multiple o z.cols (Var x.cols)) z.rows (Var x.rows) s _ n (w + part) large part (part_small z.rows (e.small).rows) large_part
        (has_multiple o z.cols (Var x.cols) s v k w large part (part_small z.cols (e.small).cols) large_part h (λ _. e.cols)) (λ _. e.rows))
    by false false q =
        sum_as (with_multiple (with_multiple o z.rows (Var x.rows)) z.cols (Var x.cols)) s _ _ (w + part + part) (w + part + part) (group v (z.rows *ℤ pos n) (z.cols *ℤ pos k)) (omega arith)
        (has_multiple (with_multiple o z.rows (Var x.rows)) z.cols (Var x.cols) s _ k (w + part) large part (part_small z.cols (e.small).cols) large_part
        (has_multiple o z.rows (Var x.rows) s v n w large part (part_small z.rows (e.small).rows) large_part h (λ _. e.rows)) (λ _. e.cols))

abbrev pub sum_value : Sum → ℕ → ℕ → ℕ → ℕ → ℤ
sum_value z r n k j = (((pos 0 +ℤ (z.row *ℤ pos r)) +ℤ ((z.rows *ℤ pos n) +ℤ (z.cols *ℤ pos k))) +ℤ (z.column *ℤ pos j)) +ℤ z.constant

-- a whole sum
pub text_has : (x : Matrix) (cols_first : Bool) (s : Sight) (z : Sum) (r n k j : ℕ) → Sees x s z r n k j → Bounded (sum_text x cols_first z) s (sum_value z r n k j) (5 * part)
unfolding sum_text
text_has x cols_first s z r n k j e =
    bounded_as _ s _ _ (0 + part + part + part + part + part) (5 * part) refl (omega arith)
    (has_constant _ z.constant s _ _ part (let c = (e.small).constant in let l : 2 ^ 21 ≤ part = omega arith in omega (arith, c, l))
    (has_multiple _ z.column (column x) s _ j _ large part (part_small z.column (e.small).column) large_part
    (sizes_has x cols_first s z r n k j e _ _ _
    (has_multiple None z.row (Var row_name) s (pos 0) r 0 large part (part_small z.row (e.small).row) large_part refl e.row))
    e.column))
