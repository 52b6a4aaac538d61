-- What padded rows hold while they are filled, entry by entry.
use Rattle.std.proofs.Common.{◌≡◌, refl, sym, ap, ◌∙◌, subst, ℕ, suc, ◌+◌, ◌<◌, Bool, true, false, ◌&&◌, arith, nat_eq, nat_lt, if◌then◌else◌}
use Rattle.sparse_marks.specs.Matrices.{Csr, count}

-- cell s of row r, behind j entries of row i
abbrev pub shown : (ℕ → ℕ) → Csr → ℕ → ℕ → ℕ → ℕ → ℕ
shown f a i j r s =
    if nat_lt r i then (if nat_lt s (count a r) then f (a.first r + s) else 0) else
    (if nat_eq r i && nat_lt s j then f (a.first i + s) else 0)

abbrev full : (ℕ → ℕ) → Csr → ℕ → ℕ → ℕ
full f a r s = if nat_lt s (count a r) then f (a.first r + s) else 0

pub shown_first : (f : ℕ → ℕ) (a : Csr) (r s : ℕ) → shown f a 0 0 r s ≡ 0
shown_first f a r s =
    ap (λ b. if b then full f a r s else (if nat_eq r 0 && nat_lt s 0 then f (a.first 0 + s) else 0)) (let e : nat_lt r 0 ≡ false = grind arith in e)
    ∙ ap (λ b. if b then f (a.first 0 + s) else 0) (let e : (nat_eq r 0 && nat_lt s 0) ≡ false = grind arith in e)

pub shown_here : (f : ℕ → ℕ) (a : Csr) (i j : ℕ) → shown f a i j i j ≡ 0
shown_here f a i j =
    ap (λ b. if b then full f a i j else (if nat_eq i i && nat_lt j j then f (a.first i + j) else 0)) (let e : nat_lt i i ≡ false = grind arith in e)
    ∙ ap (λ b. if b then f (a.first i + j) else 0) (let e : (nat_eq i i && nat_lt j j) ≡ false = grind arith in e)

pub shown_more : (f : ℕ → ℕ) (a : Csr) (i j r s : ℕ) → (if nat_eq i r && nat_eq j s then f (a.first i + j) else shown f a i j r s) ≡ shown f a i (suc j) r s
shown_more f a i j r s = by _ refl
  where
    by : (b : Bool) → (nat_eq i r && nat_eq j s) ≡ b → (if b then f (a.first i + j) else shown f a i j r s) ≡ shown f a i (suc j) r s
    by true e = sym
        (ap (λ b. if b then full f a r s else (if nat_eq r i && nat_lt s (suc j) then f (a.first i + s) else 0)) (let q : nat_lt r i ≡ false = grind (arith, e) in q)
        ∙ ap (λ b. if b then f (a.first i + s) else 0) (let q : (nat_eq r i && nat_lt s (suc j)) ≡ true = grind (arith, e) in q)
        ∙ ap (λ s. f (a.first i + s)) (let q : s ≡ j = grind (arith, e) in q))
    by false e = ap (λ b. if nat_lt r i then full f a r s else (if b then f (a.first i + s) else 0)) (let q : (nat_eq r i && nat_lt s j) ≡ (nat_eq r i && nat_lt s (suc j)) = grind (arith, e) in q)

pub shown_next : (f : ℕ → ℕ) (a : Csr) (i r s : ℕ) → shown f a i (count a i) r s ≡ shown f a (suc i) 0 r s
shown_next f a i r s = by _ _ refl refl
  where
    at_row : (r : ℕ) → r ≡ i → (if nat_lt s (count a i) then f (a.first i + s) else 0) ≡ full f a r s
    at_row r e = subst (λ i. (if nat_lt s (count a i) then f (a.first i + s) else 0) ≡ full f a r s) e refl

    by : (b c : Bool) → nat_lt r i ≡ b → nat_eq r i ≡ c → shown f a i (count a i) r s ≡ shown f a (suc i) 0 r s
    by true c e g =
        ap (λ b. if b then full f a r s else (if nat_eq r i && nat_lt s (count a i) then f (a.first i + s) else 0)) e
        ∙ sym (ap (λ b. if b then full f a r s else (if nat_eq r (suc i) && nat_lt s 0 then f (a.first (suc i) + s) else 0)) (let q : nat_lt r (suc i) ≡ true = grind (arith, e) in q))
    by false true e g =
        ap (λ b. if b then full f a r s else (if nat_eq r i && nat_lt s (count a i) then f (a.first i + s) else 0)) e
        ∙ ap (λ b. if b && nat_lt s (count a i) then f (a.first i + s) else 0) g
        ∙ at_row r (let q : r ≡ i = grind (arith, g) in q)
        ∙ sym (ap (λ b. if b then full f a r s else (if nat_eq r (suc i) && nat_lt s 0 then f (a.first (suc i) + s) else 0)) (let q : nat_lt r (suc i) ≡ true = grind (arith, g) in q))
    by false false e g =
        ap (λ b. if b then full f a r s else (if nat_eq r i && nat_lt s (count a i) then f (a.first i + s) else 0)) e
        ∙ ap (λ b. if b && nat_lt s (count a i) then f (a.first i + s) else 0) g
        ∙ sym
        (ap (λ b. if b then full f a r s else (if nat_eq r (suc i) && nat_lt s 0 then f (a.first (suc i) + s) else 0)) (let q : nat_lt r (suc i) ≡ false = grind (arith, e, g) in q)
        ∙ ap (λ b. if b then f (a.first (suc i) + s) else 0) (let q : (nat_eq r (suc i) && nat_lt s 0) ≡ false = grind arith in q))

pub shown_end : (f : ℕ → ℕ) (a : Csr) (r s : ℕ) → r < a.rows → shown f a a.rows 0 r s ≡ (if nat_lt s (count a r) then f (a.first r + s) else 0)
shown_end f a r s h = ap (λ b. if b then full f a r s else (if nat_eq r a.rows && nat_lt s 0 then f (a.first a.rows + s) else 0)) (let e : nat_lt r a.rows ≡ true = grind (arith, h) in e)
