-- Where levels go.
use Rattle.std.proofs.Common.{◌≡◌, ℕ, suc, arith, ◌<◌, ◌≤◌, ◌+◌, Bool, true, false, ◌&&◌, nat_eq, nat_lt, nat_le, List, [], ◌∷◌, length, map, ◌++◌, refl, sym, subst, ℤ}
use Rattle.std.specs.Prelude.{IsTrue}
use Rattle.std.specs.List.{range_with_len, list_all}
use Rattle.std.proofs.lemmas.Bool.{cond_both, eqb-true}
use Rattle.std.proofs.Math.Facts.{leb_yes}
use Rattle.std.proofs.lemmas.List.FromFn.{map-range_with_len_more}
use Rattle.affine_moves.specs.declared.change.Change.{Change}
use Rattle.affine_moves.specs.declared.change.Change.TheVariants.{Stay, Order, Tile, Skew, Shift}
use Rattle.affine_moves.specs.Change.{is_level, suits, place_from, place_of, new_depth}

pub and : (x y : Bool) → x && y ≡ true → (x ≡ true) × (y ≡ true)
and true true e = (refl, refl)
and true false e = absurd cc
and false y e = absurd cc

place_from-below : (t : ℕ) (os : List ℕ) (l d : ℕ) → t + length os ≤ d → l < d → place_from t os l < d
place_from-below t [] l d h k = k
place_from-below t (o ∷ os) l d h k =
    cond_both (nat_eq o (suc l)) t (place_from (suc t) os l) (λ n. n < d) (λ e. omega (arith, h)) (λ e. place_from-below (suc t) os l d (omega (arith, h)) k)

-- a level goes to one of the new levels
pub place_of-below : (c : Change) (d l : ℕ) → IsTrue (suits d c) → l < d → place_of c l < new_depth c d
unfolding place_of
place_of-below Stay d l s h = h
place_of-below (Order order) d l s h =
    let a = and (nat_le (length order) d) (list_all (is_level d) order) s in
    let few : length order ≤ d = leb_yes (rw a.0 tt) in
    place_from-below 0 order l d (omega (arith, few)) h
place_of-below (Tile level size outer) d l s h = cond_both (nat_lt (suc l) outer) l (suc l) (λ n. n < suc d) (λ _. omega (arith, h)) (λ _. omega (arith, h))
place_of-below (Skew level coefs) d l s h = h
place_of-below (Shift level amount) d l s h = h

-- the levels before a skewed one are as many as its list has numbers
pub skew-before : (c : Change) (d l level : ℕ) (coefs : List ℤ) → IsTrue (suits d c) → c ≡ Skew level coefs → l + 1 ≡ level → length coefs ≡ l
skew-before c d l level coefs s e h =
    let t : suits d (Skew level coefs) ≡ true = subst (λ (x : Change). suits d x ≡ true) e s in
    let a = and (nat_eq level (suc (length coefs))) (nat_le level d) t in
    let b : level ≡ suc (length coefs) = eqb-true level (suc (length coefs)) a.0 in
    omega (arith, b, h)

-- one more of the values of a function on 0 and on
pub range-push : {X : Type 0} (f : ℕ → X) (n : ℕ) (old new : List X) (x : X) → new ≡ old ++ x ∷ [] → x ≡ f n → old ≡ map f (range_with_len 0 n) → new ≡ map f (range_with_len 0 (n + 1))
range-push f n old new x a b c = rw (a, b, c) (sym (map-range_with_len_more f 0 n n (omega arith)))
