-- On which cell of the matrix an entry of a block or a diagonal falls.
use Rattle.std.proofs.Common.{◌≡◌, refl, sym, ap, ◌∙◌, subst, ℕ, zero, suc, ◌+◌, ◌*◌, ◌/◌, ◌%◌, ◌<◌, ℤ, pos, negsuc, ◌+ℤ◌, ◌-ℤ◌, ◌*ℤ◌, Bool, true, false, ◌&&◌, List, [], ◌∷◌, map, if◌then◌else◌, nat_eq, arith}
use Rattle.std.proofs.lemmas.Int.{ints}
use Rattle.std.specs.Int.{int_div_euclid}
use Rattle.std.proofs.lemmas.Nat.{div-add-mod', div-mul-add, mod-mul-add}
use Rattle.std.proofs.Math.Nat.{zero-mul, div-one}
use Rattle.sparse_marks.specs.Matrices.{Csr, Entry, wrapped, is_at, entries}
use Rattle.sparse_marks.specs.Matrices.{total as entry_total}
use Rattle.sparse_marks.specs.Kept.{same, is_among, Placed, kept, position}
use Rattle.sparse_marks.specs.Forms.{group_by, placed}
use Rattle.sparse_marks.specs.Walks.{met_before, walk}
use Rattle.sparse_marks.proofs.Values.{same_is, same_self}
use Rattle.sparse_marks.proofs.Telling.{met_is, rising_by}
use Rattle.sparse_layouts.specs.Layouts.{layout, falls, total, blocks, in_block, diagonals, in_diagonal}
use Rattle.sparse_layouts.specs.Laws.{HoldsSums, BlocksHoldTheMatrix, DiagonalsHoldTheMatrix, cell_at}
use Rattle.sparse_layouts.proofs.Laying.{holds_all}

-- a number's digits
digits : (r R g u : ℕ) → u < R → (nat_eq (r / R) g && nat_eq (r % R) u) ≡ nat_eq r (g * R + u)
digits r R g u h = by _ refl
  where
    by : (b : Bool) → nat_eq r (g * R + u) ≡ b → (nat_eq (r / R) g && nat_eq (r % R) u) ≡ b
    by true e =
        let q : r ≡ g * R + u = grind arith in
        let d : r / R ≡ g = ap (λ n. n / R) q ∙ div-mul-add g R u h in
        let m : r % R ≡ u = ap (λ n. n % R) q ∙ mod-mul-add g R u h in
        grind (arith, d, m)
    by false e = no _ _ refl refl
      where
        no : (c d : Bool) → nat_eq (r / R) g ≡ c → nat_eq (r % R) u ≡ d → (c && d) ≡ false
        no true true x y =
            let d : r / R ≡ g = grind arith in
            let m : r % R ≡ u = grind arith in
            absurd (let q : r ≡ g * R + u = sym (div-add-mod' r R) ∙ ap (λ n. n * R + r % R) d ∙ ap (λ n. g * R + n) m in grind (arith, q, e))
        no true false x y = refl
        no false d x y = refl

pub same_pos : (m n : ℕ) → same (pos m) (pos n) ≡ nat_eq m n
same_pos m n = grind (arith, ints)

-- sums over entries, and over what a form makes of them
same_total : (q : Placed → Bool) (p : Entry → Bool) (f : Entry → Placed) (es : List Entry) → ((e : Entry) → q (f e) ≡ p e) → ((e : Entry) → (f e).worth ≡ e.worth) → total q (map f es) ≡ entry_total p es
same_total q p f [] h k = refl
same_total q p f (e ∷ es) h k =
    let i : total q (map f es) ≡ entry_total p es = same_total q p f es h k in
    ap (λ b. if b then (f e).worth + total q (map f es) else total q (map f es)) (h e)
    ∙ ap (λ n. if p e then n + total q (map f es) else total q (map f es)) (k e)
    ∙ ap (λ n. if p e then e.worth + n else n) i

-- blocks
pub group_is : (R r : ℕ) → 0 < R → group_by R r ≡ r / R
group_is zero r h = absurd (omega (arith, h))
group_is (suc k) r h = refl

pub plain_value : (C r c : ℕ) → 0 < C → int_div_euclid ((pos c +ℤ (pos 0 *ℤ pos r)) +ℤ pos 0) (pos C) ≡ pos (c / C)
plain_value C r c h =
    ap (λ x. int_div_euclid ((pos c +ℤ x) +ℤ pos 0) (pos C)) (ap pos (zero-mul r))
    ∙ ap (λ x. int_div_euclid x (pos C)) (let e : (pos c +ℤ pos 0) +ℤ pos 0 ≡ pos c = grind (arith, ints) in e)

falls_block : (R C g w u v : ℕ) → u < R → v < C → (e : Entry) → falls g (pos w) (pos u ∷ pos v ∷ []) (placed (blocks R C) (in_block R C) e) ≡ is_at (g * R + u) (w * C + v) e
falls_block R C g w u v h k e =
    shuffle (nat_eq (group_by R e.row) g) _ _ _ _ _ _ _ (ap (λ n. nat_eq n g) (group_is R e.row (let l : 0 < R = omega (arith, h) in l)))
    (ap (λ x. same x (pos w)) (plain_value C e.row e.col (let l : 0 < C = omega (arith, k) in l)) ∙ same_pos (e.col / C) w) (same_pos (e.row % R) u) (same_pos (e.col % C) v)
    ∙ ap (λ b. b && (nat_eq (e.col / C) w && nat_eq (e.col % C) v)) (digits e.row R g u h) ∙ ap (λ b. nat_eq e.row (g * R + u) && b) (digits e.col C w v k)
  where
    shuffle : (p q s t p' q' s' t' : Bool) → p ≡ p' → q ≡ q' → s ≡ s' → t ≡ t' → (p && (q && (s && (t && true)))) ≡ ((p' && s') && (q' && t'))
    shuffle p q s t p' q' s' t' d e f i = grind (arith, d, e, f, i)

pub of_blocks : BlocksHoldTheMatrix
of_blocks R C m g w u v h k i =
    let f : HoldsSums (met_before (walk (blocks R C) (in_block R C) m) m.rows) (layout (walk (blocks R C) (in_block R C) m) m.rows) _ = holds_all (walk (blocks R C) (in_block R C) m) (rising_by R) m.rows in
    subst (λ es. is_among (pos w) (kept g es) ≡ true → layout (walk (blocks R C) (in_block R C) m) m.rows (position g (pos w) es) (pos u ∷ pos v ∷ []) ≡ wrapped (total (falls g (pos w) (pos u ∷ pos v ∷ [])) es))
    (met_is (blocks R C) (in_block R C) m m.rows) (λ j. f.sums g (pos w) (pos u ∷ pos v ∷ []) j) i
    ∙ ap wrapped (same_total (falls g (pos w) (pos u ∷ pos v ∷ [])) (is_at (g * R + u) (w * C + v)) (placed (blocks R C) (in_block R C)) (entries m) (falls_block R C g w u v h k) (λ x. refl))

-- diagonals
pub diagonal_value : (r c : ℕ) → int_div_euclid ((pos c +ℤ (negsuc 0 *ℤ pos r)) +ℤ pos 0) (pos 1) ≡ pos c -ℤ pos r
diagonal_value r c =
    ap (λ x. int_div_euclid x (pos 1)) (let e : (pos c +ℤ (negsuc 0 *ℤ pos r)) +ℤ pos 0 ≡ pos c -ℤ pos r = grind (arith, ints) in e) ∙ by_one (pos c -ℤ pos r)
  where
    by_one : (x : ℤ) → int_div_euclid x (pos 1) ≡ x
    by_one (pos a) = ap pos (div-one a)
    by_one (negsuc a) = ap negsuc (div-one a)

abbrev at_column : ℕ → ℤ → Entry → Bool
at_column i (pos j) e = is_at i j e
at_column i (negsuc k) e = false

column_is : (c r i j : ℕ) (w : ℤ) → pos i +ℤ w ≡ pos j → pos c -ℤ pos r ≡ w → pos r ≡ pos i → (r ≡ i) × (c ≡ j)
column_is c r i j w h e f = (omega (arith, ints, f), omega (arith, ints, h, e, f))

value_is : (c r i j : ℕ) (w : ℤ) → pos i +ℤ w ≡ pos j → r ≡ i → c ≡ j → pos c -ℤ pos r ≡ w
value_is c r i j w h e f = omega (arith, ints, h, e, f)

not_before : (c r i k : ℕ) (w : ℤ) → pos i +ℤ w ≡ negsuc k → pos c -ℤ pos r ≡ w → pos r ≡ pos i → ⊥
not_before c r i k w h e f = omega (arith, ints, h, e, f)

falls_diagonal : (w : ℤ) (i : ℕ) (e : Entry) → falls 0 w (pos i ∷ []) (placed diagonals in_diagonal e) ≡ at_column i (pos i +ℤ w) e
falls_diagonal w i e = ap (λ x. same x w && (same (pos e.row) (pos i) && true)) (diagonal_value e.row e.col) ∙ by (pos i +ℤ w) refl _ _ refl refl
  where
    inside : (j : ℕ) → pos i +ℤ w ≡ pos j → (p q r s : Bool) → same (pos e.col -ℤ pos e.row) w ≡ p → same (pos e.row) (pos i) ≡ q → nat_eq e.row i ≡ r → nat_eq e.col j ≡ s → (p && (q && true)) ≡ (r && s)
    inside j h true true r s x y z t =
        let k = column_is e.col e.row i j w h (same_is _ _ x) (same_is _ _ y) in
        let k0 : e.row ≡ i = k.0 in let k1 : e.col ≡ j = k.1 in
        grind (arith, k0, k1, z, t)
    inside j h true false true s x y z t = absurd (let k : nat_eq e.row i ≡ false = sym (same_pos e.row i) ∙ y in grind (arith, k, z))
    inside j h false true true true x y z t =
        absurd (let k : same (pos e.col -ℤ pos e.row) w ≡ true = ap (λ u. same u w) (value_is e.col e.row i j w h (grind (arith, z)) (grind (arith, t))) ∙ same_self w in grind (arith, k, x))
    inside j h true false false s x y z t = refl
    inside j h false q false s x y z t = refl
    inside j h false q true false x y z t = refl
    inside j h false false true true x y z t = absurd (let k : nat_eq e.row i ≡ false = sym (same_pos e.row i) ∙ y in grind (arith, k, z))

    by : (x : ℤ) → pos i +ℤ w ≡ x → (p q : Bool) → same (pos e.col -ℤ pos e.row) w ≡ p → same (pos e.row) (pos i) ≡ q → (p && (q && true)) ≡ at_column i x e
    by (pos j) h p q y z = inside j h p q _ _ y z refl refl
    by (negsuc k) h true true y z = absurd (not_before e.col e.row i k w h (same_is _ _ y) (same_is _ _ z))
    by (negsuc k) h true false y z = refl
    by (negsuc k) h false q y z = refl

at_column_sum : (m : Csr) (i : ℕ) (x : ℤ) → wrapped (entry_total (at_column i x) (entries m)) ≡ cell_at m i x
at_column_sum m i (pos j) = refl
at_column_sum m i (negsuc k) = ap wrapped (none (entries m))
  where
    none : (es : List Entry) → entry_total (at_column i (negsuc k)) es ≡ 0
    none [] = refl
    none (e ∷ es) = none es

pub of_diagonals : DiagonalsHoldTheMatrix
of_diagonals m w i h =
    let f : HoldsSums (met_before (walk diagonals in_diagonal m) m.rows) (layout (walk diagonals in_diagonal m) m.rows) _ = holds_all (walk diagonals in_diagonal m) (rising_by 0) m.rows in
    subst (λ es. is_among w (kept 0 es) ≡ true → layout (walk diagonals in_diagonal m) m.rows (position 0 w es) (pos i ∷ []) ≡ wrapped (total (falls 0 w (pos i ∷ [])) es)) (met_is diagonals in_diagonal m m.rows) (λ j. f.sums 0 w (pos i ∷ []) j) h
    ∙ ap wrapped (same_total (falls 0 w (pos i ∷ [])) (at_column i (pos i +ℤ w)) (placed diagonals in_diagonal) (entries m) (falls_diagonal w i) (λ x. refl))
    ∙ at_column_sum m i (pos i +ℤ w)
