-- The width is the length of the longest row.
use Rattle.std.proofs.Common.{◌≡◌, refl, sym, subst, ℕ, zero, suc, ◌≤◌, ◌<◌, max, Bool, true, false, nat_lt, arith}
use Rattle.sparse_marks.specs.Matrices.{Csr, count}
use Rattle.sparse_layouts.specs.Padded.{longest}
use Rattle.sparse_layouts.specs.Laws.{WidthIsOfLongestRow}

max_left : (a b : ℕ) → a ≤ max a b
max_left a b = grind arith

max_right : (a b : ℕ) → b ≤ max a b
max_right a b = grind arith

max_least : (a b k : ℕ) → a ≤ k → b ≤ k → max a b ≤ k
max_least a b k h i = grind arith

pub covers : (m : Csr) (n i : ℕ) → i < n → count m i ≤ longest m n
covers m zero i h = absurd (omega (arith, h))
covers m (suc n) i h = by _ refl (covers m n i)
  where
    last : (i : ℕ) → i ≡ n → count m i ≤ max (longest m n) (count m n)
    last i e = subst (λ i. count m i ≤ max (longest m n) (count m n)) (sym e) (max_right (longest m n) (count m n))

    by : (b : Bool) → nat_lt i n ≡ b → (i < n → count m i ≤ longest m n) → count m i ≤ max (longest m n) (count m n)
    by true e f = let a : count m i ≤ longest m n = f (grind (arith, e)) in let c : longest m n ≤ max (longest m n) (count m n) = max_left (longest m n) (count m n) in omega (arith, a, c)
    by false e f = last i (grind (arith, e, h))

pub least : (m : Csr) (n k : ℕ) → ((i : ℕ) → i < n → count m i ≤ k) → longest m n ≤ k
least m zero k f = omega arith
least m (suc n) k f = max_least (longest m n) (count m n) k (least m n k (λ i h. f i (omega (arith, h)))) (f n (omega arith))

pub of_longest : WidthIsOfLongestRow
of_longest m = record { covers = covers m m.rows; least = least m m.rows }
