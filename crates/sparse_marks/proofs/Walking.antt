-- The marks after the rows.
use Rattle.std.proofs.Common.{◌≡◌, ◌⊎◌, inl, inr, refl, sym, ap, ◌∙◌, subst, ℕ, zero, suc, ◌+◌, ◌/◌, ◌*◌, ◌≤◌, ◌<◌, ℤ, List, [], ◌∷◌, ◌++◌, length, nat_eq, nat_lt, Bool, false, ◌%◌, if◌then◌else◌, true, arith, append_assoc, length-append}
use Rattle.std.proofs.lemmas.List.{append-nil}
use Rattle.std.proofs.lemmas.Nat.{div-add-mod'}
use Rattle.std.proofs.Math.Nat.{add-div_right, zero-div, mod-lt, suc-mul}
use Rattle.std.proofs.lemmas.Nat.{div_below, le-div}
use Rattle.sparse_marks.specs.Kept.{Placed, kept, kept_before, start}
use Rattle.sparse_marks.specs.Marks.{Marks, unmarked, marked, see, close, Follows}
use Rattle.sparse_marks.specs.Walks.{Walk, met, row_met, met_before, seeing, marks_in, marks_of, Rising, sum_below}
use Rattle.sparse_marks.proofs.Marking.{begins, sees, closes, goes_on}

-- behind j entries of a row
pub row_follows : (a : Walk) (i j : ℕ) → Follows (met_before a i) (a.group i) (marks_of a i) → Follows (met_before a i ++ row_met a i j) (a.group i) (marks_in a i j)
row_follows a i zero f = subst (λ l. Follows l (a.group i) (marks_of a i)) (sym (append-nil (met_before a i))) f
row_follows a i (suc j) f =
    subst (λ l. Follows l (a.group i) (marks_in a i (suc j))) (append_assoc (met_before a i) (row_met a i j) (met a i j ∷ []))
    (sees (met_before a i ++ row_met a i j) (a.group i) (marks_in a i j) (a.value i j) (a.rest i j) (a.worth i j) (row_follows a i j f))

closed_ptr : (g : ℕ) (s : Marks) → (close g s).ptr (suc g) ≡ length s.val
closed_ptr g s = let e : nat_eq (suc g) (suc g) ≡ true = grind arith in ap (λ b. if b then length s.val else s.ptr (suc g)) e

-- the next row is of the same group or of the next one
turns_to : (es : List Placed) (g h : ℕ) (s : Marks) → (h ≡ g) ⊎ (h ≡ suc g) → Follows es g (close g s) → Follows es h (close g s)
turns_to es g h s (inl e) f = subst (λ h. Follows es h (close g s)) (sym e) f
turns_to es g h s (inr e) f = subst (λ h. Follows es h (close g s)) (sym e) (goes_on es g (close g s) f (closed_ptr g s))

-- the marks before row i
pub between : (a : Walk) → Rising a.group → (i : ℕ) → Follows (met_before a i) (a.group i) (marks_of a i)
between a r zero = subst (λ g. Follows [] g unmarked) (sym r.begin) begins
between a r (suc i) = turns_to (met_before a (suc i)) (a.group i) (a.group (suc i)) (marks_in a i (a.count i)) (r.next i) (closes _ (a.group i) _ (row_follows a i (a.count i) (between a r i)))

-- in row i behind j of its entries
pub within : (a : Walk) → Rising a.group → (i j : ℕ) → Follows (met_before a i ++ row_met a i j) (a.group i) (marks_in a i j)
within a r i j = row_follows a i j (between a r i)

-- behind all rows, of which the last one is of the last group
pub at_end : (a : Walk) → Rising a.group → (i : ℕ) → Follows (met_before a (suc i)) (suc (a.group i)) (marks_of a (suc i))
at_end a r i = turns_to (met_before a (suc i)) (a.group i) (suc (a.group i)) (marks_in a i (a.count i)) (inr refl) (closes _ (a.group i) _ (row_follows a i (a.count i) (between a r i)))

-- what a turn needs: the mark and the start of the group are at most the number of values, and that at most the number of entries
pub start_bound : (es : List Placed) (g : ℕ) (s : Marks) → Follows es g s → s.ptr g ≤ length s.val
start_bound es g s f =
    let p : s.ptr g ≡ start g es = f.ptr g (omega arith) in
    let q : length s.val ≡ start g es + length (kept g es) = ap length f.val ∙ length-append (kept_before g es) (kept g es) in
    omega (arith, p, q)

see_bound : (g : ℕ) (s : Marks) (w : ℤ) → length (see g s w).val ≤ suc (length s.val)
see_bound g s w = by _
  where
    by : (b : Bool) → length (let t : Marks = if b then record { mark = marked s.mark w (suc (length s.val)); ptr = s.ptr; val = s.val ++ w ∷ [] } else s in t.val) ≤ suc (length s.val)
    by true = let e : length (s.val ++ w ∷ []) ≡ length s.val + 1 = length-append s.val (w ∷ []) in omega (arith, e)
    by false = omega arith

seeing_bound : (g : ℕ) (v : ℕ → ℤ) (s : Marks) (j : ℕ) → length (seeing g v s j).val ≤ length s.val + j
seeing_bound g v s zero = omega arith
seeing_bound g v s (suc j) = omega (arith, see_bound g (seeing g v s j) (v j), seeing_bound g v s j)

rows_bound : (a : Walk) (i : ℕ) → length (marks_of a i).val ≤ sum_below a.count i
rows_bound a zero = omega arith
rows_bound a (suc i) = omega (arith, rows_bound a i, seeing_bound (a.group i) (a.value i) (marks_of a i) (a.count i))

sum_rises : (f : ℕ → ℕ) (i n : ℕ) → i < n → sum_below f i + f i ≤ sum_below f n
sum_rises f i zero h = absurd (omega (arith, h))
sum_rises f i (suc n) h = by _ refl (sum_rises f i n)
  where
    by : (b : Bool) → nat_lt i n ≡ b → (i < n → sum_below f i + f i ≤ sum_below f n) → sum_below f i + f i ≤ sum_below f n + f n
    by true e k = let q : sum_below f i + f i ≤ sum_below f n = k (grind (arith, e)) in omega (arith, q)
    by false e k = let q : n ≡ i = grind (arith, e, h) in subst (λ i. sum_below f i + f i ≤ sum_below f n + f n) q (omega arith)

-- there are at most as many values as entries
pub values_bound : (a : Walk) (n i j : ℕ) → i < n → j ≤ a.count i → length (marks_in a i j).val ≤ sum_below a.count n
values_bound a n i j h k =
    let p : length (marks_in a i j).val ≤ length (marks_of a i).val + j = seeing_bound (a.group i) (a.value i) (marks_of a i) j in
    omega (arith, p, rows_bound a i, sum_rises a.count i n h, k)

-- groups of r rows
either : (n q : ℕ) → q ≤ n → n < suc (suc q) → (n ≡ q) ⊎ (n ≡ suc q)
either n q a b = either_by n q a b _ refl
  where
    either_by : (n q : ℕ) → q ≤ n → n < suc (suc q) → (c : Bool) → nat_eq n q ≡ c → (n ≡ q) ⊎ (n ≡ suc q)
    either_by n q a b true e = inl (grind arith)
    either_by n q a b false e = inr (grind arith)

step_by : (r i q m : ℕ) → 0 < r → i ≡ m + q * r → m < r → (suc i / r ≡ q) ⊎ (suc i / r ≡ suc q)
step_by r i q m p e l =
    let u : suc q * r ≡ q * r + r = suc-mul q r in
    let v : suc (suc q) * r ≡ suc q * r + r = suc-mul (suc q) r in
    either (suc i / r) q (le-div q (suc i) r p (omega (arith, e))) (div_below (suc i) r (suc (suc q)) p (omega (arith, e, l, p, u, v)))

pub groups_rise : (r : ℕ) → 0 < r → Rising (λ i. i / r)
groups_rise r p = record { begin = zero-div r; next = λ i. step_by r i (i / r) (i % r) p (let h : i / r * r + i % r ≡ i = div-add-mod' i r in omega (arith, h)) (mod-lt i p) }

pub last_group : (r i : ℕ) → 0 < r → (i + r) / r ≡ suc (i / r)
last_group r i p = let h : (i + r) / r ≡ i / r + 1 = add-div_right i p in omega (arith, h)
