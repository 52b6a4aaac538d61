-- A run of neighbours is one assignment with the sum as its factor, and an assignment with the factor 0 is none.
use Rattle.std.proofs.Common.{◌≡◌, ◌⊎◌, inl, inr, refl, sym, ap, ◌∙◌, subst, ℕ, ◌+◌, ◌-◌, ◌*◌, ◌^◌, ◌<◌, ◌≤◌, Bool, true, false, ◌||◌, List, [], ◌∷◌, ◌++◌, length, arith, nat_lt, if◌then◌else◌}
use Rattle.std.proofs.Math.Nat.{mod-add-mod, mod-lt, mod-eq_of_lt, mul-one, mul_comm, mul_assoc, add-mul, add-mod, add-mod_right, zero-mul}
use Rattle.std.proofs.lemmas.Nat.{mul-mod_second}
use Rattle.std.specs.List.{list_all}
use Rattle.c_tree.specs.declared.statement.How.{How}
use Rattle.c_tree.specs.declared.statement.How.TheVariants.{Write, Add, Subtract}
use Rattle.c_meaning.specs.Memory.{Spot, same_spot, Cells}
use Rattle.c_meaning.specs.Ground.{Ground, load, wrapped, worth, Step, updated, written, perform, effect, reads, is_among, is_compound}
use Rattle.c_meaning.proofs.Spots.{pointwise_equal, unread_cell, worth_unread, cell_written, or_left, or_right, spot_is}
use Rattle.c_meaning.proofs.Fitting.{and_left, and_right}
use Rattle.sparse_padding.specs.Products.{Frame, hole, left, right, filled, others, frame_reads, with_factor, with_each, sum_of}
use Rattle.sparse_padding.specs.Positions.{Position, by_entry, padded, IsHarmless, AreHarmless, HoldSums, AreNumbers}
use Rattle.sparse_padding.specs.Laws.{RunIsOneAssignment, OneEntryIsOneAssignment, ZeroChangesNothing, PaddedListKeepsEffect}

write_over : (s : Cells) (x : Spot) (v w : ℕ) → written (written s x v) x w ≡ written s x w
write_over s x v w = pointwise_equal _ _ (λ z. over (same_spot x z) (s z))
  where
    over : (b : Bool) (n : ℕ) → (if b then w else (if b then v else n)) ≡ (if b then w else n)
    over true n = refl
    over false n = refl

wrapped-add : (m n : ℕ) → wrapped (wrapped m + n) ≡ wrapped (m + n)
wrapped-add m n = mod-add-mod m (2 ^ 64) n

is_among-append : (x : Spot) (ys zs : List Spot) → is_among x (ys ++ zs) ≡ (is_among x ys || is_among x zs)
is_among-append x [] zs = refl
is_among-append x (y ∷ ys) zs = grind (arith, is_among-append x ys zs)

effect-append : (ts us : List Step) (s : Cells) → effect (ts ++ us) s ≡ effect us (effect ts s)
effect-append [] us s = refl
effect-append (t ∷ ts) us s = effect-append ts us (perform t s)

wrapped-mul-right : (m n : ℕ) → wrapped (m * wrapped n) ≡ wrapped (m * n)
wrapped-mul-right m n = mul-mod_second m n (2 ^ 64)

wrapped-mul-left : (m n : ℕ) → wrapped (wrapped m * n) ≡ wrapped (m * n)
wrapped-mul-left m n = ap wrapped (mul_comm (wrapped m) n) ∙ wrapped-mul-right n m ∙ ap wrapped (mul_comm n m)

wrapped-again : (n : ℕ) → wrapped (wrapped n) ≡ wrapped n
wrapped-again n = mod-eq_of_lt (mod-lt n (let p : 0 < 2 ^ 64 = omega arith in p))

-- the factor comes out of the product
pub filled_is : (k : Frame) (e : Ground) (s : Cells) → wrapped (worth (filled k e) s) ≡ wrapped (worth e s * others k s)
filled_is hole e s = ap wrapped (sym (mul-one (worth e s)))
filled_is (left k b) e s =
    wrapped-again (worth (filled k e) s * worth b s) ∙ sym (wrapped-mul-left (worth (filled k e) s) (worth b s)) ∙ ap (λ n. wrapped (n * worth b s)) (filled_is k e s)
    ∙ wrapped-mul-left (worth e s * others k s) (worth b s) ∙ ap wrapped (mul_assoc (worth e s) (others k s) (worth b s))
filled_is (right a k) e s =
    wrapped-again (worth a s * worth (filled k e) s) ∙ sym (wrapped-mul-right (worth a s) (worth (filled k e) s)) ∙ ap (λ n. wrapped (worth a s * n)) (filled_is k e s)
    ∙ wrapped-mul-right (worth a s) (worth e s * others k s) ∙ ap wrapped (sym (mul_assoc (worth a s) (worth e s) (others k s)) ∙ ap (λ n. n * others k s) (mul_comm (worth a s) (worth e s)) ∙ mul_assoc (worth e s) (worth a s) (others k s))

-- what a compound form adds
abbrev gain : How → ℕ → ℕ
gain Subtract p = 2 ^ 64 - wrapped p
gain f p = p

positive : 0 < 2 ^ 64
positive = omega arith

low : (n : ℕ) → wrapped n < 2 ^ 64
low n = mod-lt n positive

carry_by : (a b : ℕ) (c : Bool) → a < 2 ^ 64 → b < 2 ^ 64 → nat_lt (a + b) (2 ^ 64) ≡ c → wrapped (a + b) ≡ (if c then a + b else (a + b) - 2 ^ 64)
carry_by a b true h k e = mod-eq_of_lt (let q : a + b < 2 ^ 64 = grind arith in q)
carry_by a b false h k e =
    let q : 2 ^ 64 ≤ a + b = grind arith in
    let r : a + b ≡ ((a + b) - 2 ^ 64) + 2 ^ 64 = omega (arith, q) in
    ap wrapped r ∙ add-mod_right ((a + b) - 2 ^ 64) (2 ^ 64) ∙ mod-eq_of_lt (let l : (a + b) - 2 ^ 64 < 2 ^ 64 = omega (arith, h, k) in l)

less_by : (v a b m : ℕ) (c : Bool) → a < 2 ^ 64 → b < 2 ^ 64 → nat_lt (a + b) (2 ^ 64) ≡ c → m ≡ (if c then a + b else (a + b) - 2 ^ 64) → wrapped (v + (2 ^ 64 - a) + (2 ^ 64 - b)) ≡ wrapped (v + (2 ^ 64 - m))
less_by v a b m true h k e q =
    let l : a + b < 2 ^ 64 = grind (arith, e) in
    let r : v + (2 ^ 64 - a) + (2 ^ 64 - b) ≡ (v + (2 ^ 64 - m)) + 2 ^ 64 = omega (arith, l, q) in
    ap wrapped r ∙ add-mod_right (v + (2 ^ 64 - m)) (2 ^ 64)
less_by v a b m false h k e q =
    let l : 2 ^ 64 ≤ a + b = grind (arith, e) in
    ap wrapped (let r : v + (2 ^ 64 - a) + (2 ^ 64 - b) ≡ v + (2 ^ 64 - m) = omega (arith, l, q, h, k) in r)

once_more : (f : How) (v p q : ℕ) → is_compound f ≡ true → wrapped (wrapped (v + gain f p) + gain f q) ≡ wrapped (v + gain f (p + q))
once_more Write v p q h = cc
once_more Add v p q h = wrapped-add (v + p) q ∙ ap wrapped (let e : (v + p) + q ≡ v + (p + q) = omega arith in e)
once_more Subtract v p q h =
    wrapped-add (v + (2 ^ 64 - wrapped p)) (2 ^ 64 - wrapped q)
    ∙ less_by v (wrapped p) (wrapped q) (wrapped (p + q)) _ (low p) (low q) refl (add-mod p q (2 ^ 64) ∙ carry_by (wrapped p) (wrapped q) _ (low p) (low q) refl)

-- an update by a product
gained : (f : How) (v p q : ℕ) → is_compound f ≡ true → p < 2 ^ 64 → wrapped p ≡ wrapped q → updated f v p ≡ wrapped (v + gain f q)
gained Write v p q h b e = cc
gained Add v p q h b e = add-mod v p (2 ^ 64) ∙ ap (λ n. wrapped (wrapped v + n)) e ∙ sym (add-mod v q (2 ^ 64))
gained Subtract v p q h b e = ap (λ n. wrapped (v + (2 ^ 64 - n))) (sym (mod-eq_of_lt b) ∙ e)

same_gain : (f : How) (v p q : ℕ) → is_compound f ≡ true → wrapped p ≡ wrapped q → wrapped (v + gain f p) ≡ wrapped (v + gain f q)
same_gain Write v p q h e = cc
same_gain Add v p q h e = add-mod v p (2 ^ 64) ∙ ap (λ n. wrapped (wrapped v + n)) e ∙ sym (add-mod v q (2 ^ 64))
same_gain Subtract v p q h e = ap (λ n. wrapped (v + (2 ^ 64 - n))) e

filled_low : (k : Frame) (a : Spot) (s : Cells) → s a < 2 ^ 64 → worth (filled k (load a)) s < 2 ^ 64
filled_low hole a s h = h
filled_low (left k b) a s h = low (worth (filled k (load a)) s * worth b s)
filled_low (right b k) a s h = low (worth b s * worth (filled k (load a)) s)

frame_unread : (k : Frame) (s : Cells) (x : Spot) (v : ℕ) → is_among x (frame_reads k) ≡ false → others k (written s x v) ≡ others k s
frame_unread hole s x v h = refl
frame_unread (left k b) s x v h = let e = sym (is_among-append x (frame_reads k) (reads b)) ∙ h in
    ap (λ n. n * worth b (written s x v)) (frame_unread k s x v (or_left _ _ e)) ∙ ap (λ n. others k s * n) (worth_unread b s x v (or_right _ _ e))
frame_unread (right a k) s x v h = let e = sym (is_among-append x (reads a) (frame_reads k)) ∙ h in
    ap (λ n. n * others k (written s x v)) (worth_unread a s x v (or_left _ _ e)) ∙ ap (λ n. worth a s * n) (frame_unread k s x v (or_right _ _ e))

no_gain : (f : How) (v n : ℕ) → is_compound f ≡ true → v < 2 ^ 64 → wrapped (v + gain f (0 * n)) ≡ v
no_gain Write v n h b = cc
no_gain Add v n h b = ap wrapped (let e : v + 0 * n ≡ v = ap (λ m. v + m) (zero-mul n) ∙ omega arith in e) ∙ mod-eq_of_lt b
no_gain Subtract v n h b = ap (λ m. wrapped (v + (2 ^ 64 - wrapped m))) (zero-mul n) ∙ add-mod_right v (2 ^ 64) ∙ mod-eq_of_lt b

-- a write of what the cell holds
same_write : (s : Cells) (x : Spot) → s ≡ written s x (s x)
same_write s x = pointwise_equal _ _ (λ y. by y _ refl)
  where
    by : (y : Spot) (b : Bool) → same_spot x y ≡ b → s y ≡ (if b then s x else s y)
    by y true e = ap s (sym (spot_is x y e))
    by y false e = refl

-- one assignment of the run, where the target holds v
one_of : (x : Spot) (f : How) (k : Frame) (a : Spot) (s : Cells) (v : ℕ) → s a < 2 ^ 64 → is_compound f ≡ true → is_among x (frame_reads k) ≡ false → same_spot x a ≡ false
    → perform (with_factor x f k a) (written s x v) ≡ written s x (wrapped (v + gain f (s a * others k s)))
one_of x f k a s v z h i j =
    ap (λ n. written (written s x v) x (updated f n (worth (filled k (load a)) (written s x v)))) (cell_written s x v)
    ∙ write_over s x v (updated f v (worth (filled k (load a)) (written s x v)))
    ∙ ap (written s x) (gained f v (worth (filled k (load a)) (written s x v)) (s a * others k s) h (filled_low k a (written s x v) (subst (λ n. n < 2 ^ 64) (sym (unread_cell s x a v j)) z))
    (filled_is k (load a) (written s x v) ∙ ap (λ n. wrapped (n * others k (written s x v))) (unread_cell s x a v j) ∙ ap (λ n. wrapped (s a * n)) (frame_unread k s x v i)))

run_of : (x : Spot) (f : How) (k : Frame) (ys : List Spot) (s : Cells) (v : ℕ) → AreNumbers s → is_compound f ≡ true → is_among x (frame_reads k) ≡ false → is_among x ys ≡ false → v < 2 ^ 64
    → effect (with_each x f k ys) (written s x v) ≡ written s x (wrapped (v + gain f (sum_of s ys * others k s)))
run_of x f k [] s v z h i j b = ap (written s x) (sym (no_gain f v (others k s) h b))
run_of x f k (a ∷ ys) s v z h i j b =
    let p : ℕ = s a * others k s in
    let q : ℕ = sum_of s ys * others k s in
    ap (effect (with_each x f k ys)) (one_of x f k a s v (z.below a) h i (or_left _ _ j))
    ∙ run_of x f k ys s (wrapped (v + gain f p)) z h i (or_right (same_spot x a) _ j) (low (v + gain f p))
    ∙ ap (written s x) (once_more f v p q h ∙ ap (λ n. wrapped (v + gain f n)) (sym (add-mul (s a) (sum_of s ys) (others k s))))

-- a run of assignments to one cell is the one assignment whose factor is the sum; an empty run is an assignment with factor 0
pub summed : (x b : Spot) (f : How) (k : Frame) (ys : List Spot) (s : Cells) → AreNumbers s → is_compound f ≡ true → is_among x (frame_reads k) ≡ false → is_among x ys ≡ false
    → same_spot x b ≡ false → s b ≡ wrapped (sum_of s ys) → effect (with_each x f k ys) s ≡ perform (with_factor x f k b) s
summed x b f k ys s fits h i j e q =
    ap (effect (with_each x f k ys)) (same_write s x)
    ∙ run_of x f k ys s (s x) fits h i j (fits.below x)
    ∙ ap (written s x) (same_gain f (s x) _ _ h (sym (ap (λ n. wrapped (n * others k s)) q ∙ wrapped-mul-left (sum_of s ys) (others k s))))
    ∙ sym (ap (perform (with_factor x f k b)) (same_write s x) ∙ one_of x f k b s (s x) (fits.below b) h i e)

-- cells of the matrix and the layout differ from a target
apart_from : (matrix : Spot → Bool) (x y : Spot) → matrix x ≡ false → matrix y ≡ true → same_spot x y ≡ false
apart_from matrix x y h k = by _ refl
  where
    by : (b : Bool) → same_spot x y ≡ b → same_spot x y ≡ false
    by true e = absurd (let q : matrix x ≡ true = ap matrix (spot_is x y e) ∙ k in grind (arith, q, h))
    by false e = e

none_among : (matrix : Spot → Bool) (x : Spot) (ys : List Spot) → matrix x ≡ false → list_all matrix ys ≡ true → is_among x ys ≡ false
none_among matrix x [] h k = refl
none_among matrix x (y ∷ ys) h k =
    let a : same_spot x y ≡ false = apart_from matrix x y h (and_left (matrix y) _ k) in
    let b : is_among x ys ≡ false = none_among matrix x ys h (and_right (matrix y) _ k) in
    grind (arith, a, b)

sum_kept : (matrix : Spot → Bool) (s : Cells) (x : Spot) (v : ℕ) (ys : List Spot) → matrix x ≡ false → list_all matrix ys ≡ true → sum_of (written s x v) ys ≡ sum_of s ys
sum_kept matrix s x v [] h k = refl
sum_kept matrix s x v (y ∷ ys) h k =
    ap (λ n. n + sum_of (written s x v) ys) (unread_cell s x y v (apart_from matrix x y h (and_left (matrix y) _ k))) ∙ ap (λ n. s y + n) (sum_kept matrix s x v ys h (and_right (matrix y) _ k))

summed_kept : (matrix : Spot → Bool) (s : Cells) (x : Spot) (v : ℕ) (ps : List Position) → matrix x ≡ false → AreHarmless matrix ps → HoldSums s ps → HoldSums (written s x v) ps
summed_kept matrix s x v [] h k e = tt
summed_kept matrix s x v (p ∷ ps) h k e = (
  unread_cell s x p.cell v (apart_from matrix x p.cell h (k.0).cell_in) ∙ e.0 ∙ ap wrapped (sym (sum_kept matrix s x v p.entries h (k.0).entries_in)),
  summed_kept matrix s x v ps h (k.1) (e.1),
)

updated_low : (f : How) (n v : ℕ) → is_compound f ≡ true → updated f n v < 2 ^ 64
updated_low Write n v h = cc
updated_low Add n v h = low (n + v)
updated_low Subtract n v h = low (n + (2 ^ 64 - v))

fits_written : (s : Cells) (x : Spot) (v : ℕ) → AreNumbers s → v < 2 ^ 64 → AreNumbers (written s x v)
fits_written s x v f h = record { below = λ y. by y (same_spot x y) }
  where
    by : (y : Spot) (b : Bool) → (if b then v else s y) < 2 ^ 64
    by y true = h
    by y false = f.below y

-- one entry or none: then the product may read its target
at_once : (x : Spot) (f : How) (k : Frame) (a : Spot) (s : Cells) → s a < 2 ^ 64 → is_compound f ≡ true → perform (with_factor x f k a) s ≡ written s x (wrapped (s x + gain f (s a * others k s)))
at_once x f k a s z h = ap (written s x) (gained f (s x) (worth (filled k (load a)) s) (s a * others k s) h (filled_low k a s z) (filled_is k (load a) s))

pub summed_few : (x b : Spot) (f : How) (k : Frame) (ys : List Spot) (s : Cells) → AreNumbers s → is_compound f ≡ true → length ys ≤ 1 → s b ≡ wrapped (sum_of s ys) → effect (with_each x f k ys) s ≡ perform (with_factor x f k b) s
summed_few x b f k [] s fits h l q =
    same_write s x ∙ ap (written s x) (sym (no_gain f (s x) (others k s) h (fits.below x)) ∙ same_gain f (s x) _ _ h (ap (λ n. wrapped (n * others k s)) (sym q))) ∙ sym (at_once x f k b s (fits.below b) h)
summed_few x b f k (a ∷ []) s fits h l q =
    at_once x f k a s (fits.below a) h
    ∙ ap (written s x) (same_gain f (s x) _ _ h (ap (λ n. wrapped (n * others k s)) (let e : s a ≡ s a + 0 = omega arith in e) ∙ sym (wrapped-mul-left (s a + 0) (others k s)) ∙ ap (λ n. wrapped (n * others k s)) (sym q)))
    ∙ sym (at_once x f k b s (fits.below b) h)
summed_few x b f k (a ∷ a' ∷ ys) s fits h l q = absurd (omega (arith, l))

summed_either : (matrix : Spot → Bool) (p : Position) (s : Cells) → IsHarmless matrix p → AreNumbers s → s p.cell ≡ wrapped (sum_of s p.entries) → (is_among p.target (frame_reads p.product) ≡ false) ⊎ (length p.entries ≤ 1)
    → effect (with_each p.target p.how p.product p.entries) s ≡ perform (with_factor p.target p.how p.product p.cell) s
summed_either matrix p s h f q (inl u) = summed p.target p.cell p.how p.product p.entries s f h.compound u (none_among matrix p.target p.entries h.outside h.entries_in) (apart_from matrix p.target p.cell h.outside h.cell_in) q
summed_either matrix p s h f q (inr l) = summed_few p.target p.cell p.how p.product p.entries s f h.compound l q

-- the padded list has the effect of the source's list by position
pub padded_effect : (matrix : Spot → Bool) (ps : List Position) (s : Cells) → AreHarmless matrix ps → HoldSums s ps → AreNumbers s → effect (by_entry ps) s ≡ effect (padded ps) s
padded_effect matrix [] s k e f = refl
padded_effect matrix (p ∷ ps) s k e f =
    let h : IsHarmless matrix p = k.0 in
    effect-append (with_each p.target p.how p.product p.entries) (by_entry ps) s
    ∙ ap (effect (by_entry ps)) (summed_either matrix p s h f (e.0) h.unread)
    ∙ padded_effect matrix ps (perform (with_factor p.target p.how p.product p.cell) s) (k.1)
    (summed_kept matrix s p.target _ ps h.outside (k.1) (e.1))
    (fits_written s p.target _ f (updated_low p.how _ _ h.compound))

pub run_is_one : RunIsOneAssignment
run_is_one x y how k ys s f c u v e q = summed x y how k ys s f c u v e q

pub one_is_one : OneEntryIsOneAssignment
one_is_one x y how k ys s f c l q = summed_few x y how k ys s f c l q

pub zero_is_nothing : ZeroChangesNothing
zero_is_nothing x y how k s f c q = sym (summed_few x y how k [] s f c (let z : length {A = Spot} [] ≤ 1 = omega arith in z) q)

pub keeps_effect : PaddedListKeepsEffect
keeps_effect matrix ps s h q f = sym (padded_effect matrix ps s h q f)
