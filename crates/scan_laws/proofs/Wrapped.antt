-- A tree in which each assignment that stands without a test gets one that is true: it performs the same.
use Rattle.std.proofs.Common.{◌≡◌, ℕ, suc, ◌+◌, List, [], ◌∷◌, ◌++◌, map, refl, ◌∙◌, ap, arith, ℤ, ◌-ℤ◌, Bool, true, false, if◌then◌else◌}
use Rattle.nest_tree.specs.Places.{Item}
use Rattle.nest_tree.specs.Loops.{Levels, Loops, stop, assign, loop, guard, width, above_zero, turns, inside, performed}

-- whether an assignment here is wrapped: under a test it isn't
abbrev pub wrapped : {T : Type 0} → Bool → Loops T → Loops T
wrapped b stop = stop
wrapped true (assign f rest) = guard (λ e. true) (assign f stop) (wrapped true rest)
wrapped false (assign f rest) = assign f (wrapped false rest)
wrapped b (loop low high body rest) = loop low high (wrapped true body) (wrapped b rest)
wrapped b (guard test body rest) = guard test (wrapped false body) (wrapped b rest)

width-wrapped : {T : Type 0} (b : Bool) (t : Loops T) → width (wrapped b t) ≡ width t
width-wrapped true stop = refl
width-wrapped false stop = refl
width-wrapped true (assign f rest) = let w = width-wrapped true rest in omega arith
width-wrapped false (assign f rest) = ap suc (width-wrapped false rest)
width-wrapped true (loop low high body rest) = ap suc (width-wrapped true rest)
width-wrapped false (loop low high body rest) = ap suc (width-wrapped false rest)
width-wrapped true (guard test body rest) = let v = width-wrapped false body in let w = width-wrapped true rest in omega arith
width-wrapped false (guard test body rest) = let v = width-wrapped false body in let w = width-wrapped false rest in omega arith

turns-same : {X : Type 0} (k : ℕ) (v : ℤ) (f g : ℤ → List X) → ((w : ℤ) → f w ≡ g w) → turns k v f ≡ turns k v g
turns-same {X} k v f g h = ap (λ (F : ℤ → List X). turns k v F) (λ i. λ w. h w i)

same_loop : {T : Type 0} (low high : Levels → ℤ) (body body' rest rest' : Loops T) (e : Levels) (n : ℕ) → ((v : ℤ) → performed body' (e ++ v ∷ []) 0 ≡ performed body (e ++ v ∷ []) 0) → performed rest' e (suc n) ≡ performed rest e (suc n)
    → performed (loop low high body' rest') e n ≡ performed (loop low high body rest) e n
same_loop {T} low high body body' rest rest' e n h k =
    ap (λ (xs : List (Item T)). xs ++ performed rest' e (suc n))
    (turns-same (above_zero (high e -ℤ low e)) (low e) (λ v. map (inside n v) (performed body' (e ++ v ∷ []) 0)) (λ v. map (inside n v) (performed body (e ++ v ∷ []) 0)) (λ v. ap (map (inside n v)) (h v)))
    ∙ ap (λ (ys : List (Item T)). turns (above_zero (high e -ℤ low e)) (low e) (λ v. map (inside n v) (performed body (e ++ v ∷ []) 0)) ++ ys) k

same_guard : {T : Type 0} (test : Levels → Bool) (body body' rest rest' : Loops T) (e : Levels) (n : ℕ) → width body' ≡ width body → performed body' e n ≡ performed body e n → performed rest' e (n + width body) ≡ performed rest e (n + width body)
    → performed (guard test body' rest') e n ≡ performed (guard test body rest) e n
same_guard {T} test body body' rest rest' e n w h k =
    ap (λ (xs : List (Item T)). (if test e then xs else []) ++ performed rest' e (n + width body')) h
    ∙ ap (λ (m : ℕ). (if test e then performed body e n else []) ++ performed rest' e (n + m)) w
    ∙ ap (λ (ys : List (Item T)). (if test e then performed body e n else []) ++ ys) k

pub performed-wrapped : {T : Type 0} (b : Bool) (t : Loops T) (e : Levels) (n : ℕ) → performed (wrapped b t) e n ≡ performed t e n
performed-wrapped true stop e n = refl
performed-wrapped false stop e n = refl
performed-wrapped {T} true (assign f rest) e n =
    let one : n + 1 ≡ suc n = omega arith in
    ap (λ (m : ℕ). performed (assign f stop) e n ++ performed (wrapped true rest) e m) one
    ∙ ap (λ (ys : List (Item T)). performed (assign f stop) e n ++ ys) (performed-wrapped true rest e (suc n))
performed-wrapped {T} false (assign f rest) e n = ap (λ (ys : List (Item T)). performed (assign f stop) e n ++ ys) (performed-wrapped false rest e (suc n))
performed-wrapped true (loop low high body rest) e n = same_loop low high body (wrapped true body) rest (wrapped true rest) e n (λ v. performed-wrapped true body (e ++ v ∷ []) 0) (performed-wrapped true rest e (suc n))
performed-wrapped false (loop low high body rest) e n = same_loop low high body (wrapped true body) rest (wrapped false rest) e n (λ v. performed-wrapped true body (e ++ v ∷ []) 0) (performed-wrapped false rest e (suc n))
performed-wrapped true (guard test body rest) e n = same_guard test body (wrapped false body) rest (wrapped true rest) e n (width-wrapped false body) (performed-wrapped false body e n) (performed-wrapped true rest e (n + width body))
performed-wrapped false (guard test body rest) e n = same_guard test body (wrapped false body) rest (wrapped false rest) e n (width-wrapped false body) (performed-wrapped false body e n) (performed-wrapped false rest e (n + width body))
