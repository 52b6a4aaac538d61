-- What is read of begins and values is what they have.
use Rattle.std.proofs.Common.{◌≡◌, refl, ap, subst, ℕ, zero, suc, ◌+◌, ◌*◌, ◌/◌, ◌≤◌, ◌<◌, ℤ, Bool, true, false, List, map, length, nat_lt, arith, mul_comm}
use Rattle.std.proofs.lemmas.Nat.{le-div}
use Rattle.std.proofs.Math.Nat.{mul-div-le, mul-le-mul_left}
use Rattle.sparse_marks.specs.Matrices.{Csr, Entry, entries}
use Rattle.sparse_marks.specs.Kept.{Placed, start}
use Rattle.sparse_marks.specs.Forms.{Form, group_by, groups_by, groups, placed}
use Rattle.sparse_marks.specs.Extents.{values_extent, IsBegin, IsBetween, ExtentsFitReads}
use Rattle.sparse_marks.proofs.Ranges.{div_rises}
use Rattle.sparse_marks.proofs.Standing.{start_rises}
use Rattle.sparse_marks.proofs.Telling.{groups_above, finds}

begin_in : (k n e : ℕ) → IsBegin k n e → e < suc (groups_by k n)
begin_in zero n e h = omega (arith, h)
begin_in (suc k) n e h =
    let q : e ≤ (n + k) / suc k = le-div e (n + k) (suc k) (omega arith) (subst (λ x. x ≤ n + k) (mul_comm (suc k) e) h) in
    omega (arith, q)

begin_of : (k n e : ℕ) → e < suc (groups_by k n) → IsBegin k n e
begin_of zero n e h = omega (arith, h)
begin_of (suc k) n e h =
    let l : suc k * e ≤ suc k * ((n + k) / suc k) = mul-le-mul_left (suc k) (let q : e ≤ (n + k) / suc k = omega (arith, h) in q) in
    let u : suc k * ((n + k) / suc k) ≤ n + k = mul-div-le (n + k) (suc k) in
    omega (arith, l, u)

group_rises : (k r n : ℕ) → r ≤ n → group_by k r ≤ group_by k n
group_rises zero r n h = omega arith
group_rises (suc k) r n h = div_rises r n (suc k) (omega arith) h

pub group_in : (k r n : ℕ) → r < n → group_by k r < groups_by k n
group_in k r zero h = absurd (omega (arith, h))
group_in k r (suc n) h =
    let q : group_by k r ≤ group_by k n = group_rises k r n (omega (arith, h)) in
    omega (arith, q, groups_above k n)

-- a position below a start is of an earlier group
between : (es : List Placed) (n p : ℕ) → p < start n es → (g : ℕ) × IsBetween es n g p
between es zero p h = absurd (omega (arith, h))
between es (suc n) p h = by _ refl (between es n p)
  where
    by : (b : Bool) → nat_lt p (start n es) ≡ b → (p < start n es → (g : ℕ) × IsBetween es n g p) → (g : ℕ) × IsBetween es (suc n) g p
    by true e f = let i = f (grind (arith, e)) in (i.0, record { group = (let q : i.0 < n = (i.1).group in omega (arith, q)); from = (i.1).from; to = (i.1).to })
    by false e f = (n, record { group = omega arith; from = grind (arith, e); to = h })

pub extent_is : (f : Form) (rest : Entry → List ℤ) (m : Csr) → values_extent f rest m ≡ start (groups f m) (map (placed f rest) (entries m))
extent_is f rest m = ap length (finds f rest m).val

pub fit : ExtentsFitReads
fit f rest m = record {
  begin_inside = λ e h. begin_in f.rows m.rows e h;
  each_begin = λ e h. begin_of f.rows m.rows e h;
  group = λ r h. group_in f.rows r m.rows h;
  value_inside = λ g p b. inside g p b;
  each_value = λ p h. between es (groups f m) p (subst (λ n. p < n) (extent_is f rest m) h);
}
  where
    es : List Placed
    es = map (placed f rest) (entries m)

    inside : (g p : ℕ) → IsBetween (map (placed f rest) (entries m)) (groups f m) g p → p < values_extent f rest m
    inside g p b =
        let l : start (suc g) (map (placed f rest) (entries m)) ≤ start (groups f m) (map (placed f rest) (entries m)) = start_rises (suc g) (groups f m) _ b.group in
        let t : p < start (suc g) (map (placed f rest) (entries m)) = b.to in
        omega (arith, l, t, extent_is f rest m)
