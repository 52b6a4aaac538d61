-- The rows of orders, as they are pushed.
use Rattle.std.proofs.Common.{◌≡◌, ◌⊎◌, inl, inr, ℕ, zero, suc, arith, ◌+◌, ◌-◌, ◌<◌, ◌≤◌, ◌≢◌, min, true, false, List, [], ◌∷◌, ◌++◌, length, drop, get_or, refl, sym, ap, ◌∙◌, drop-cons, add-one, pos}
use Rattle.std.proofs.lemmas.List.{drop_all}
use Rattle.std.proofs.lemmas.List.Folds.{list_all-append}
use Rattle.std.specs.Prelude.{IsTrue}
use Rattle.std.specs.List.{list_all}
use Rattle.int_rows.specs.declared.row.Aff.{Aff}
use Rattle.int_rows.specs.declared.row.Row.{Row}
use Rattle.nest_systems.specs.Owns.{row_has_vars}
use Rattle.depend_test.specs.Orders.{difference_row, equal_rows, smaller_rows, order_rows}

-- the rows stay as wide as they are
pub rows-push : (vars : ℕ) (old new : List Row) (r : Row) → new ≡ old ++ r ∷ [] → IsTrue (list_all (row_has_vars vars) old) → IsTrue (row_has_vars vars r) → IsTrue (list_all (row_has_vars vars) new)
rows-push vars old new r e a b = rw (e, list_all-append (row_has_vars vars) old (r ∷ []), a, b) refl

pub equal-none : (vars : ℕ) (xs ys : List Aff) → equal_rows vars 0 xs ys ≡ []
unfolding equal_rows
equal-none vars xs ys = refl

-- a row more
equal-more : (vars n : ℕ) (xs ys : List Aff) (x y : Aff) → n < length xs → n < length ys → x ≡ get_or xs n x → y ≡ get_or ys n y
    → equal_rows vars (suc n) xs ys ≡ equal_rows vars n xs ys ++ difference_row vars true x y (pos 0) ∷ []
unfolding equal_rows
equal-more vars n [] ys x y a b d e = absurd (omega arith)
equal-more vars n (z ∷ xs) [] x y a b d e = absurd (omega arith)
equal-more vars zero (z ∷ xs) (w ∷ ys) x y a b d e = rw (d, e) refl
equal-more vars (suc n) (z ∷ xs) (w ∷ ys) x y a b d e = ap (λ (rows : List Row). difference_row vars true z w (pos 0) ∷ rows) (equal-more vars n xs ys x y (omega arith) (omega arith) d e)

pub equal-push : (vars n : ℕ) (xs ys : List Aff) (x y : Aff) (old new : List Row) (r : Row) → n < length xs → n < length ys → x ≡ get_or xs n x → y ≡ get_or ys n y
    → new ≡ old ++ r ∷ [] → r ≡ difference_row vars true x y (pos 0) → old ≡ equal_rows vars n xs ys → new ≡ equal_rows vars (n + 1) xs ys
equal-push vars n xs ys x y old new r a b d e f g h = rw (f, g, h, add-one n) (sym (equal-more vars n xs ys x y a b d e))

-- the count stops where a list ends
pub equal-end : (vars k n : ℕ) (xs ys : List Aff) → k ≡ min (min n (length xs)) (length ys) → equal_rows vars k xs ys ≡ equal_rows vars n xs ys
unfolding equal_rows
equal-end vars zero zero xs ys e = refl
equal-end vars (suc k) zero xs ys e = absurd (omega arith)
equal-end vars zero (suc n) [] ys e = refl
equal-end vars (suc k) (suc n) [] ys e = refl
equal-end vars zero (suc n) (x ∷ xs) [] e = refl
equal-end vars (suc k) (suc n) (x ∷ xs) [] e = refl
equal-end vars zero (suc n) (x ∷ xs) (y ∷ ys) e = absurd (omega arith)
equal-end vars (suc k) (suc n) (x ∷ xs) (y ∷ ys) e = ap (λ (rows : List Row). difference_row vars true x y (pos 0) ∷ rows) (equal-end vars k n xs ys (omega arith))

pub smaller-one : (vars level : ℕ) (es ls : List Aff) (e l : Aff) → level < length es → level < length ls → e ≡ get_or es level e → l ≡ get_or ls level l
    → smaller_rows vars (drop level es) (drop level ls) ≡ difference_row vars false l e (pos 1) ∷ []
smaller-one vars level es ls e l a b d f =
    let p : drop level es ≡ e ∷ drop (suc level) es = drop-cons es level e a ∙ ap (λ (x : Aff). x ∷ drop (suc level) es) (sym d) in
    let q : drop level ls ≡ l ∷ drop (suc level) ls = drop-cons ls level l b ∙ ap (λ (x : Aff). x ∷ drop (suc level) ls) (sym f) in
    rw (p, q) refl

smaller-nil : (vars : ℕ) (es : List Aff) → smaller_rows vars es [] ≡ []
smaller-nil vars [] = refl
smaller-nil vars (e ∷ es) = refl

pub smaller-none : (vars level : ℕ) (es ls : List Aff) → (length es ≤ level) ⊎ (length ls ≤ level) → smaller_rows vars (drop level es) (drop level ls) ≡ []
smaller-none vars level es ls (inl h) = rw (drop_all level es h) refl
smaller-none vars level es ls (inr h) = rw (drop_all level ls h) (smaller-nil vars (drop level es))

pub order-text : (vars carrier shared : ℕ) (early late : List Aff) → carrier ≡ 0 → equal_rows vars shared late early ≡ order_rows vars carrier shared early late
unfolding order_rows
order-text vars carrier shared early late e = rw e refl

pub order-loop : (vars carrier level shared : ℕ) (early late : List Aff) (more : List Row) → carrier ≢ 0 → level ≡ carrier - 1 → smaller_rows vars (drop level early) (drop level late) ≡ more
    → equal_rows vars level late early ++ more ≡ order_rows vars carrier shared early late
unfolding order_rows
order-loop vars carrier level shared early late more n e m =
    let k : carrier ≡ suc level = omega arith in
    rw (k, ← m) refl

-- the rows where both have the level
pub order-pushed : (vars carrier level shared : ℕ) (early late : List Aff) (rows old new : List Row) (r : Row) (e l : Aff) → carrier ≢ 0 → level ≡ carrier - 1
    → rows ≡ new → new ≡ old ++ r ∷ [] → old ≡ equal_rows vars level late early → r ≡ difference_row vars false l e (pos 1) → level < length early → level < length late → e ≡ get_or early level e → l ≡ get_or late level l
    → rows ≡ order_rows vars carrier shared early late
order-pushed vars carrier level shared early late rows old new r e l n k a b c d f g h i =
    a ∙ b ∙ ap (λ (xs : List Row). xs ++ r ∷ []) c ∙ order-loop vars carrier level shared early late (r ∷ []) n k (smaller-one vars level early late e l f g h i ∙ ap (λ (x : Row). x ∷ []) (sym d))

append-none : (rows : List Row) → rows ++ [] ≡ rows
append-none [] = refl
append-none (r ∷ rows) = ap (λ (xs : List Row). r ∷ xs) (append-none rows)

-- the rows where one of them lacks it
pub order-left : (vars carrier level shared : ℕ) (early late : List Aff) (rows old : List Row) → carrier ≢ 0 → level ≡ carrier - 1
    → rows ≡ old → old ≡ equal_rows vars level late early → (length early ≤ level) ⊎ (length late ≤ level) → rows ≡ order_rows vars carrier shared early late
order-left vars carrier level shared early late rows old n k a b h =
    a ∙ b ∙ sym (append-none (equal_rows vars level late early)) ∙ order-loop vars carrier level shared early late [] n k (smaller-none vars level early late h)
