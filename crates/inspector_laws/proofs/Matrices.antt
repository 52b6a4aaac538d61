-- Where the rows of a matrix begin, its groups, and its sizes.
use Rattle.std.proofs.Common.{◌≡◌, refl, sym, ap, ◌∙◌, subst, ℕ, zero, suc, ◌+◌, ◌*◌, ◌/◌, ◌≤◌, ◌<◌, ℤ, pos, negsuc, ◌≤ℤ◌, ◌<ℤ◌, Bool, true, false, nat_lt, arith}
use Rattle.std.proofs.lemmas.Int.{ints}
use Rattle.std.proofs.lemmas.Nat.{le-div}
use Rattle.std.proofs.Math.Nat.{div-mul-le_self}
use Rattle.sparse_marks.specs.Matrices.{Csr, IsCsr, count}
use Rattle.sparse_marks.specs.Forms.{group_by, groups_by}
use Rattle.sparse_marks.specs.Walks.{sum_below}
use Rattle.sparse_marks.proofs.Telling.{groups_above}
use Rattle.inspector_laws.proofs.Bounded.{natural}

is_next : (i n : ℕ) → nat_lt n i ≡ true → i ≤ suc n → i ≡ suc n
is_next i n e k = grind (arith, e, k)

not_next : (i n : ℕ) → nat_lt n i ≡ false → i ≤ n
not_next i n e = grind (arith, e)

pub first_rises : (a : Csr) → IsCsr a → (i n : ℕ) → i ≤ n → n ≤ a.rows → a.first i ≤ a.first n
first_rises a h i zero k l = let e : i ≡ 0 = omega (arith, k) in subst (λ i. a.first i ≤ a.first 0) (sym e) (omega arith)
first_rises a h i (suc n) k l = by _ refl (first_rises a h i n)
  where
    last : (i : ℕ) → i ≡ suc n → a.first i ≤ a.first (suc n)
    last i e = subst (λ i. a.first i ≤ a.first (suc n)) (sym e) (omega arith)

    by : (b : Bool) → nat_lt n i ≡ b → (i ≤ n → n ≤ a.rows → a.first i ≤ a.first n) → a.first i ≤ a.first (suc n)
    by true e f = last i (is_next i n e k)
    by false e f = let p : a.first i ≤ a.first n = f (not_next i n e) (let z : n ≤ a.rows = omega (arith, l) in z) in let q : a.first n ≤ a.first (suc n) = h.rises n (omega (arith, l)) in omega (arith, p, q)

pub next_first : (a : Csr) → IsCsr a → (i : ℕ) → i < a.rows → a.first i + count a i ≡ a.first (suc i)
next_first a h i k = let p : a.first i ≤ a.first (suc i) = h.rises i k in omega (arith, p)

-- a place of a row is a place of the matrix
pub place_in : (a : Csr) → IsCsr a → (i j : ℕ) → i < a.rows → j < count a i → a.first i + j < a.first a.rows
place_in a h i j k l =
    let p : a.first i + count a i ≡ a.first (suc i) = next_first a h i k in
    let q : a.first (suc i) ≤ a.first a.rows = first_rises a h (suc i) a.rows k (omega arith) in
    omega (arith, p, q, l)

-- the rows have all entries
pub all_entries : (a : Csr) → IsCsr a → (n : ℕ) → n ≤ a.rows → sum_below (count a) n ≡ a.first n
all_entries a h zero k = sym h.begins
all_entries a h (suc n) k =
    let p : sum_below (count a) n ≡ a.first n = all_entries a h n (omega (arith, k)) in
    let q : a.first n + count a n ≡ a.first (suc n) = next_first a h n k in
    ap (λ s. s + count a n) p ∙ q

-- a row's group is among the groups
group_rises : (k i m : ℕ) → i ≤ m → group_by k i ≤ group_by k m
group_rises zero i m h = omega arith
group_rises (suc k) i m h = le-div (i / suc k) m (suc k) (omega arith) (let q : i / suc k * suc k ≤ i = div-mul-le_self i (suc k) in omega (arith, q, h))

pub group_inside : (k i n : ℕ) → i < n → group_by k i < groups_by k n
group_inside k i zero h = absurd (omega (arith, h))
group_inside k i (suc m) h =
    let p : group_by k i ≤ group_by k m = group_rises k i m (omega (arith, h)) in
    let q : groups_by k (suc m) ≡ suc (group_by k m) = groups_above k m in
    omega (arith, p, q)

pub below_natural : (d w : ℤ) → pos 0 ≤ℤ d → d <ℤ w → d <ℤ pos (natural w)
below_natural d (pos n) h k = k
below_natural d (negsuc n) h k = absurd (grind (arith, ints, h, k))
