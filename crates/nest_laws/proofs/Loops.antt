-- The list that loops, guards and assignments perform is sorted by place, and its items are known loop by loop.
use Rattle.std.proofs.Common.{◌≡◌, ◌⊎◌, inl, inr, ℕ, zero, suc, ◌+◌, ◌<◌, ◌≤◌, List, [], ◌∷◌, ◌++◌, map, refl, sym, ap, subst, arith, ℤ, pos, negsuc, ◌+ℤ◌, ◌-ℤ◌, ◌≤ℤ◌, ◌<ℤ◌, Bool, true, false, if◌then◌else◌}
use Rattle.std.proofs.lemmas.Int.{ints}
use Rattle.nest_tree.specs.Places.{IsBefore, Item, Precedes}
use Rattle.nest_tree.specs.Lists.{IsIn, IsStrictlySorted, IsListOf}
use Rattle.nest_tree.specs.Loops.{Levels, Loops, stop, assign, loop, guard, width, above_zero, turns, inside, performed, IsPerformed}
use Rattle.nest_laws.proofs.Lists.{in_append, in_append-left, in_append-right, sorted-append}

pub in_map : {A B : Type 0} (f : A → B) (y : B) (xs : List A) → IsIn y (map f xs) → (x : A) × IsIn x xs × (y ≡ f x)
in_map f y [] h = absurd h
in_map f y (x ∷ xs) (inl e) = (x, inl refl, e)
in_map f y (x ∷ xs) (inr h) = let r = in_map f y xs h in (r.0, inr r.1, r.2)

pub map_in : {A B : Type 0} (f : A → B) (x : A) (xs : List A) → IsIn x xs → IsIn (f x) (map f xs)
map_in f x [] h = absurd h
map_in f x (y ∷ ys) (inl e) = inl (ap f e)
map_in f x (y ∷ ys) (inr h) = inr (map_in f x ys h)

pub in_turns : {X : Type 0} (x : X) (k : ℕ) (v : ℤ) (f : ℤ → List X) → IsIn x (turns k v f) → (w : ℤ) × (v ≤ℤ w) × (w <ℤ (v +ℤ pos k)) × IsIn x (f w)
in_turns x zero v f h = absurd h
in_turns x (suc k) v f h =
    elim (in_append x (f v) (turns k (v +ℤ pos 1) f) h) [
      | inl a ↦ (v, omega (arith, ints), omega (arith, ints), a)
      | inr b ↦ let r = in_turns x k (v +ℤ pos 1) f b in let l = r.1 in let u = r.2 in (r.0, omega (arith, ints), omega (arith, ints), r.3)
    ]

first_or_later : (v w : ℤ) → v ≤ℤ w → (w ≡ v) ⊎ ((v +ℤ pos 1) ≤ℤ w)
first_or_later v w h = grind (arith, ints)

pub turns_in : {X : Type 0} (x : X) (k : ℕ) (v : ℤ) (f : ℤ → List X) (w : ℤ) → v ≤ℤ w → w <ℤ (v +ℤ pos k) → IsIn x (f w) → IsIn x (turns k v f)
turns_in x zero v f w l u h = absurd (omega (arith, ints))
turns_in x (suc k) v f w l u h =
    elim (first_or_later v w l) [
      | inl e ↦ in_append-left x (f v) (turns k (v +ℤ pos 1) f) (subst (λ (z : ℤ). IsIn x (f z)) e h)
      | inr m ↦ in_append-right x (f v) (turns k (v +ℤ pos 1) f) (turns_in x k (v +ℤ pos 1) f w m (omega (arith, ints)) h)
    ]

pub sorted-turns : {X : Type 0} (R : X → X → Type 0) (k : ℕ) (v : ℤ) (f : ℤ → List X) → ((w : ℤ) → IsStrictlySorted R (f w)) → ((w z : ℤ) (x y : X) → w <ℤ z → IsIn x (f w) → IsIn y (f z) → R x y) → IsStrictlySorted R (turns k v f)
sorted-turns R zero v f p h = tt
sorted-turns R (suc k) v f p h =
    sorted-append R (f v) (turns k (v +ℤ pos 1) f) (p v) (sorted-turns R k (v +ℤ pos 1) f p h)
    (λ x y a b. let r = in_turns y k (v +ℤ pos 1) f b in let l = r.1 in h v r.0 x y (omega (arith, ints)) a r.3)

sorted-inside : {T : Type 0} (n : ℕ) (v : ℤ) (xs : List (Item T)) → IsStrictlySorted Precedes xs → IsStrictlySorted Precedes (map (inside n v) xs)
sorted-inside n v [] p = tt
sorted-inside n v (x ∷ xs) p =
    (λ y m. let r = in_map (inside n v) y xs m in subst (Precedes (inside n v x)) (sym r.2) (inr (refl, inr (refl, p.0 r.0 r.1))), sorted-inside n v xs p.1)

-- the child position of an item, from n on and below m
abbrev HasChild : {T : Type 0} → ℕ → ℕ → Item T → Type 0
HasChild n m i = (k : ℕ) × (r : List ℤ) × (n ≤ k) × (k < m) × (i.place ≡ pos k ∷ r)

by_child : {T : Type 0} (n m l : ℕ) (i j : Item T) → HasChild n m i → HasChild m l j → Precedes i j
by_child n m l i j a b =
    let low = a.3 in let high = b.2 in
    let h : IsBefore (pos a.0 ∷ a.1) (pos b.0 ∷ b.1) = inl (omega (arith, ints)) in
    subst (λ p. IsBefore p j.place) (sym a.4) (subst (λ p. IsBefore (pos a.0 ∷ a.1) p) (sym b.4) h)

child_of : {T : Type 0} (t : Loops T) (e : Levels) (n : ℕ) (i : Item T) → IsPerformed t e n i → HasChild n (n + width t) i
child_of stop e n i h = absurd h
child_of (assign f rest) e n i (inl q) = (n, [], omega arith, omega arith, ap (λ j. j.place) q)
child_of (assign f rest) e n i (inr h) = let c = child_of rest e (suc n) i h in let l = c.2 in let u = c.3 in (c.0, c.1, omega arith, omega arith, c.4)
child_of (loop low high body rest) e n i (inl h) = (n, h.0 ∷ (h.1).place, omega arith, omega arith, ap (λ j. j.place) h.5)
child_of (loop low high body rest) e n i (inr h) = let c = child_of rest e (suc n) i h in let l = c.2 in let u = c.3 in (c.0, c.1, omega arith, omega arith, c.4)
child_of (guard test body rest) e n i (inl h) = let c = child_of body e n i h.1 in let l = c.2 in let u = c.3 in (c.0, c.1, omega arith, omega arith, c.4)
child_of (guard test body rest) e n i (inr h) = let c = child_of rest e (n + width body) i h in let l = c.2 in let u = c.3 in (c.0, c.1, omega arith, omega arith, c.4)

count_at : (l h v d : ℤ) → d ≡ h -ℤ l → l ≤ℤ v → v <ℤ (l +ℤ pos (above_zero d)) → v <ℤ h
count_at l h v (pos k) e p q = omega (arith, ints)
count_at l h v (negsuc k) e p q = omega (arith, ints)

bound_at : (l h v d : ℤ) → d ≡ h -ℤ l → l ≤ℤ v → v <ℤ h → v <ℤ (l +ℤ pos (above_zero d))
bound_at l h v (pos k) e p q = omega (arith, ints)
bound_at l h v (negsuc k) e p q = omega (arith, ints)

pub count_of : (l h v : ℤ) → l ≤ℤ v → v <ℤ (l +ℤ pos (above_zero (h -ℤ l))) → v <ℤ h
count_of l h v p q = count_at l h v (h -ℤ l) refl p q

bound_of : (l h v : ℤ) → l ≤ℤ v → v <ℤ h → v <ℤ (l +ℤ pos (above_zero (h -ℤ l)))
bound_of l h v p q = bound_at l h v (h -ℤ l) refl p q

-- the items of one turn, and of all turns
abbrev turn : {T : Type 0} → Loops T → Levels → ℕ → ℤ → List (Item T)
turn body e n v = map (inside n v) (performed body (e ++ v ∷ []) 0)

abbrev all_turns : {T : Type 0} → (Levels → ℤ) → (Levels → ℤ) → Loops T → Levels → ℕ → List (Item T)
all_turns low high body e n = turns (above_zero (high e -ℤ low e)) (low e) (turn body e n)

in_all_turns : {T : Type 0} (low high : Levels → ℤ) (body : Loops T) (e : Levels) (n : ℕ) (i : Item T) → IsIn i (all_turns low high body e n)
    → (v : ℤ) × (j : Item T) × (low e ≤ℤ v) × (v <ℤ high e) × IsIn j (performed body (e ++ v ∷ []) 0) × (i ≡ inside n v j)
in_all_turns low high body e n i a =
    let r = in_turns i (above_zero (high e -ℤ low e)) (low e) (turn body e n) a in
    let m = in_map (inside n r.0) i (performed body (e ++ r.0 ∷ []) 0) r.3 in
    (r.0, m.0, r.1, count_of (low e) (high e) r.0 r.1 r.2, m.1, m.2)

all_turns_in : {T : Type 0} (low high : Levels → ℤ) (body : Loops T) (e : Levels) (n : ℕ) (v : ℤ) (j : Item T) → low e ≤ℤ v → v <ℤ high e → IsIn j (performed body (e ++ v ∷ []) 0) → IsIn (inside n v j) (all_turns low high body e n)
all_turns_in low high body e n v j l u m =
    turns_in (inside n v j) (above_zero (high e -ℤ low e)) (low e) (turn body e n) v l (bound_of (low e) (high e) v l u) (map_in (inside n v) j (performed body (e ++ v ∷ []) 0) m)

in_if : {X : Type 0} (x : X) (b : Bool) (xs : List X) → IsIn x (if b then xs else []) → (b ≡ true) × IsIn x xs
in_if x true xs h = (refl, h)
in_if x false xs h = absurd h

if_in : {X : Type 0} (x : X) (b : Bool) (xs : List X) → b ≡ true → IsIn x xs → IsIn x (if b then xs else [])
if_in x true xs e h = h
if_in x false xs e h = absurd (cc)

pub is_performed : {T : Type 0} (t : Loops T) (e : Levels) (n : ℕ) (i : Item T) → IsIn i (performed t e n) → IsPerformed t e n i
is_performed stop e n i h = h
is_performed (assign f rest) e n i (inl q) = inl q
is_performed (assign f rest) e n i (inr h) = inr (is_performed rest e (suc n) i h)
is_performed (loop low high body rest) e n i h =
    elim (in_append i (all_turns low high body e n) (performed rest e (suc n)) h) [
      | inl a ↦ let r = in_all_turns low high body e n i a in inl (r.0, r.1, r.2, r.3, is_performed body (e ++ r.0 ∷ []) 0 r.1 r.4, r.5)
      | inr b ↦ inr (is_performed rest e (suc n) i b)
    ]
is_performed (guard test body rest) e n i h =
    elim (in_append i (if test e then performed body e n else []) (performed rest e (n + width body)) h) [
      | inl a ↦ let r = in_if i (test e) _ a in inl (r.0, is_performed body e n i r.1)
      | inr b ↦ inr (is_performed rest e (n + width body) i b)
    ]

pub performed_is : {T : Type 0} (t : Loops T) (e : Levels) (n : ℕ) (i : Item T) → IsPerformed t e n i → IsIn i (performed t e n)
performed_is stop e n i h = h
performed_is (assign f rest) e n i (inl q) = inl q
performed_is (assign f rest) e n i (inr h) = inr (performed_is rest e (suc n) i h)
performed_is (loop low high body rest) e n i (inl h) =
    subst (λ j. IsIn j (performed (loop low high body rest) e n)) (sym h.5)
    (in_append-left (inside n h.0 h.1) (all_turns low high body e n) (performed rest e (suc n)) (all_turns_in low high body e n h.0 h.1 h.2 h.3 (performed_is body (e ++ h.0 ∷ []) 0 h.1 h.4)))
performed_is (loop low high body rest) e n i (inr h) = in_append-right i _ _ (performed_is rest e (suc n) i h)
performed_is (guard test body rest) e n i (inl h) = in_append-left i _ _ (if_in i (test e) _ h.0 (performed_is body e n i h.1))
performed_is (guard test body rest) e n i (inr h) = in_append-right i (if test e then performed body e n else []) _ (performed_is rest e (n + width body) i h)

sorted-if : {X : Type 0} (R : X → X → Type 0) (b : Bool) (xs : List X) → IsStrictlySorted R xs → IsStrictlySorted R (if b then xs else [])
sorted-if R true xs p = p
sorted-if R false xs p = tt

-- items of two turns of one loop
by_turn : {T : Type 0} (n : ℕ) (w z : ℤ) (xs ys : List (Item T)) (i j : Item T) → w <ℤ z → IsIn i (map (inside n w) xs) → IsIn j (map (inside n z) ys) → Precedes i j
by_turn n w z xs ys i j l a b =
    let r = in_map (inside n w) i xs a in
    let s = in_map (inside n z) j ys b in
    let h : Precedes (inside n w r.0) (inside n z s.0) = inr (refl, inl l) in
    subst (λ k. Precedes k j) (sym r.2) (subst (Precedes (inside n w r.0)) (sym s.2) h)

pub sorted-performed : {T : Type 0} (t : Loops T) (e : Levels) (n : ℕ) → IsStrictlySorted Precedes (performed t e n)
sorted-performed stop e n = tt
sorted-performed (assign f rest) e n = (
  λ j m. by_child n (suc n) (suc n + width rest) (record { place = pos n ∷ []; step = f e }) j (n, [], omega arith, omega arith, refl) (child_of rest e (suc n) j (is_performed rest e (suc n) j m)),
  sorted-performed rest e (suc n),
)
sorted-performed (loop low high body rest) e n =
    sorted-append Precedes (all_turns low high body e n) (performed rest e (suc n))
    (sorted-turns Precedes (above_zero (high e -ℤ low e)) (low e) (turn body e n) (λ v. sorted-inside n v (performed body (e ++ v ∷ []) 0) (sorted-performed body (e ++ v ∷ []) 0)) (λ w z i j l a b. by_turn n w z (performed body (e ++ w ∷ []) 0) (performed body (e ++ z ∷ []) 0) i j l a b))
    (sorted-performed rest e (suc n))
    (λ i j a b.
    let r = in_all_turns low high body e n i a in
    by_child n (suc n) (suc n + width rest) i j (n, r.0 ∷ (r.1).place, omega arith, omega arith, ap (λ k. k.place) r.5) (child_of rest e (suc n) j (is_performed rest e (suc n) j b)))
sorted-performed (guard test body rest) e n =
    sorted-append Precedes _ (performed rest e (n + width body))
    (sorted-if Precedes (test e) _ (sorted-performed body e n))
    (sorted-performed rest e (n + width body))
    (λ i j a b. by_child n (n + width body) (n + width body + width rest) i j
    (child_of body e n i (is_performed body e n i ((in_if i (test e) _ a).1)))
    (child_of rest e (n + width body) j (is_performed rest e (n + width body) j b)))

-- the list that the children perform is the list of the items that they perform
pub performed-list : {T : Type 0} (t : Loops T) (e : Levels) (n : ℕ) → IsListOf Precedes (IsPerformed t e n) (performed t e n)
performed-list t e n = record { sorted = sorted-performed t e n; each = is_performed t e n; all = performed_is t e n }
