-- The steps of the loop that counts positions anew.
use Rattle.std.proofs.Common.{◌≡◌, ℕ, zero, suc, arith, ◌<◌, ◌≤◌, ◌+◌, ◌-◌, Bool, true, false, ◌&&◌, nat_le, List, [], ◌∷◌, ◌++◌, take, drop, length, get_or, refl, sym, ap, ◌∙◌, drop-cons, add-one, append_assoc, append-nil, length-append, length-take, le-leb}
use Rattle.std.specs.Prelude.{IsTrue, replicate, slice_set}
use Rattle.std.specs.List.{list_all, AllByRecursion}
use Rattle.std.proofs.Math.Facts.{leb_yes}
use Rattle.std.proofs.Math.Seq.{take-suc-set}
use Rattle.std.proofs.lemmas.List.{drop_all, drop-set-lt, take_all, length-replicate}
use Rattle.nest_tree.specs.declared.kernel.Nest.{Nest}
use Rattle.nest_core.specs.Order.{HasPositions, next_positions, at_positions, numbered, numbered_after}
use Rattle.nest_tree.specs.Carriers.{shared}
use Rattle.nest_core.proofs.Sharing.{shared-first_below, shared-second_below}

abbrev pub at_most : ℕ → ℕ → Bool
at_most n p = nat_le p n

and : (x y : Bool) → x && y ≡ true → (x ≡ true) × (y ≡ true)
and true true e = (refl, refl)
and true false e = absurd cc
and false y e = absurd cc

pub get-at_most : (n : ℕ) (ps : List ℕ) (i : ℕ) → list_all (at_most n) ps ≡ true → get_or ps i 0 ≤ n
get-at_most n [] i e = omega arith
get-at_most n (p ∷ ps) zero e = leb_yes (rw (and (at_most n p) (list_all (at_most n) ps) e).0 tt)
get-at_most n (p ∷ ps) (suc i) e = get-at_most n ps i (and (at_most n p) (list_all (at_most n) ps) e).1

more-at_most : (n : ℕ) (ps : List ℕ) → list_all (at_most n) ps ≡ true → list_all (at_most (suc n)) ps ≡ true
more-at_most n [] e = refl
more-at_most n (p ∷ ps) e =
    let h = and (at_most n p) (list_all (at_most n) ps) e in
    let low : p ≤ n = leb_yes (rw h.0 tt) in
    rw (le-leb p (suc n) (omega (arith, low))) (more-at_most n ps h.1)

take-at_most : (n k : ℕ) (ps : List ℕ) → list_all (at_most n) ps ≡ true → list_all (at_most n) (take k ps) ≡ true
take-at_most n zero ps e = refl
take-at_most n (suc k) [] e = refl
take-at_most n (suc k) (p ∷ ps) e = let h = and (at_most n p) (list_all (at_most n) ps) e in rw h.0 (take-at_most n k ps h.1)

append-at_most : (n : ℕ) (ps qs : List ℕ) → list_all (at_most n) ps ≡ true → list_all (at_most n) qs ≡ true → list_all (at_most n) (ps ++ qs) ≡ true
append-at_most n [] qs e d = d
append-at_most n (p ∷ ps) qs e d = let h = and (at_most n p) (list_all (at_most n) ps) e in rw h.0 (append-at_most n ps qs h.1 d)

zeros-at_most : (n k : ℕ) → list_all (at_most n) (replicate k 0) ≡ true
zeros-at_most n zero = refl
zeros-at_most n (suc k) = rw (le-leb 0 n (omega arith)) (zeros-at_most n k)

pub next-at_most : (n common count : ℕ) (before : List ℕ) → list_all (at_most n) before ≡ true → list_all (at_most (suc n)) (next_positions common before count) ≡ true
unfolding next_positions
next-at_most n common count before e =
    let low : suc (get_or before common 0) ≤ suc n = omega (arith, get-at_most n before common e) in
    append-at_most (suc n) (take common before) (suc (get_or before common 0) ∷ replicate (count - suc common) 0)
    (take-at_most (suc n) common before (more-at_most n before e))
    (rw (le-leb (suc (get_or before common 0)) (suc n) low) (zeros-at_most (suc n) (count - suc common)))

-- as many positions as wanted
pub length-next_positions : (common count : ℕ) (before : List ℕ) → common < length before → common < count → length (next_positions common before count) ≡ count
unfolding next_positions
length-next_positions common count before l m = grind (arith, length-append, length-take, length-replicate)

pub record Counted (ns : List Nest) (i : ℕ) (now : List Nest) (old before : List ℕ) : Type 0 where
  pub rest : take i now ++ numbered_after old before (drop i now) ≡ numbered ns
  pub positions : AllByRecursion HasPositions (drop i now)
  pub some : 0 < length old
  pub same : length before ≡ length old
  pub room : IsTrue (list_all (at_most i) before)

pub counted-none : (ns : List Nest) → length ns ≡ 0 → ns ≡ numbered ns
unfolding numbered
counted-none [] e = refl
counted-none (n ∷ ns) e = absurd (omega (arith, e))

pub counted-start : (ns : List Nest) (n : Nest) (zs : List ℕ) → 0 < length ns → n ≡ get_or ns 0 n → zs ≡ replicate (length n.positions) 0 → AllByRecursion HasPositions ns → Counted ns 1 (slice_set ns 0 (at_positions n zs)) n.positions zs
unfolding numbered
counted-start [] n zs l e z p = absurd (omega (arith, l))
counted-start (m ∷ ns) n zs l e z p =
    let z' : zs ≡ replicate (length m.positions) 0 = z ∙ ap (λ (a : Nest). replicate (length a.positions) 0) e in
    rw (e, z') (record {
      rest = refl;
      positions = p.1;
      some = p.0;
      same = length-replicate (length m.positions) 0;
      room = zeros-at_most 1 (length m.positions);
    })

pub counted-more : (ns : List Nest) (i : ℕ) (now : List Nest) (old before : List ℕ) (n : Nest) (next : List ℕ) → i < length now → n ≡ get_or now i n → next ≡ next_positions (shared old n.positions) before (length n.positions)
    → Counted ns i now old before → Counted ns (i + 1) (slice_set now i (at_positions n next)) n.positions next
counted-more ns i now old before n next l e d c =
    let cons : drop i now ≡ n ∷ drop (suc i) now = drop-cons now i n l ∙ ap (λ (a : Nest). a ∷ drop (suc i) now) (sym e) in
    let p = rw cons at c.positions in
    let r = rw cons at c.rest in
    let low : shared old n.positions < length before = rw c.same (shared-first_below old n.positions c.some) in
    let high : shared old n.positions < length n.positions = shared-second_below old n.positions p.0 in
    rw (add-one i, d) (record {
      rest = rw (take-suc-set now i (at_positions n (next_positions (shared old n.positions) before (length n.positions))) l, drop-set-lt (suc i) now i (at_positions n (next_positions (shared old n.positions) before (length n.positions))) (omega arith), append_assoc) r;
      positions = rw (drop-set-lt (suc i) now i (at_positions n (next_positions (shared old n.positions) before (length n.positions))) (omega arith)) p.1;
      some = p.0;
      same = length-next_positions (shared old n.positions) (length n.positions) before low high;
      room = next-at_most i (shared old n.positions) (length n.positions) before c.room;
    })

same-got : {A : Type 0} (xs : List A) (i : ℕ) (x y : A) → i < length xs → x ≡ get_or xs i x → y ≡ get_or xs i y → x ≡ y
same-got [] i x y l d e = absurd (omega (arith, l))
same-got (z ∷ xs) zero x y l d e = d ∙ sym e
same-got (z ∷ xs) (suc i) x y l d e = same-got xs i x y (omega (arith, l)) d e

-- as the code has them: the element that is read, and the same one that is written
pub counted-init : (ns : List Nest) (n m new : Nest) (zs first old : List ℕ) → 0 < length ns → n ≡ get_or ns 0 n → m ≡ get_or ns 0 m → zs ≡ replicate (length n.positions) 0
    → first ≡ zs → new ≡ at_positions m first → old ≡ m.positions → AllByRecursion HasPositions ns → Counted ns 1 (slice_set ns 0 new) old zs
counted-init ns n m new zs first old l d e z f a o p =
    let same : n ≡ m = same-got ns 0 n m l d e in
    rw (a, f, o) (counted-start ns m zs l e (z ∙ ap (λ (x : Nest). replicate (length x.positions) 0) same) p)

pub counted-step : (ns : List Nest) (i : ℕ) (now : List Nest) (old before : List ℕ) (n m new : Nest) (next again was : List ℕ) → i < length now → n ≡ get_or now i n → m ≡ get_or now i m
    → next ≡ next_positions (shared old n.positions) before (length n.positions) → again ≡ next → new ≡ at_positions m next → was ≡ m.positions
    → Counted ns i now old before → Counted ns (i + 1) (slice_set now i new) was again
counted-step ns i now old before n m new next again was l d e h g a o c =
    let same : n ≡ m = same-got now i n m l d e in
    rw (a, o, g) (counted-more ns i now old before m next l e (h ∙ ap (λ (x : Nest). next_positions (shared old x.positions) before (length x.positions)) same) c)

pub counted-end : (ns : List Nest) (i : ℕ) (now : List Nest) (old before : List ℕ) → length now ≤ i → Counted ns i now old before → now ≡ numbered ns
counted-end ns i now old before l c = rw (drop_all i now l, take_all i now l, append-nil) at c.rest
