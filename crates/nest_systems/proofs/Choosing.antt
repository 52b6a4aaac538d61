-- Terms that are chosen are terms of the statement.
use Rattle.std.proofs.Common.{◌≡◌, ℕ, zero, suc, arith, ◌<◌, ◌+◌, ◌^◌, Bool, true, false, ◌&&◌, List, [], ◌∷◌, ◌++◌, length, refl, ap, ◌∙◌, lt-ltb, ltb-true}
use Rattle.std.specs.Prelude.{Option, Some, None, slice_set, replicate}
use Rattle.std.specs.List.{list_all}
use Rattle.std.proofs.lemmas.List.{length-set}
use Rattle.nest_core.specs.Shapes.{is_below}
use Rattle.nest_systems.specs.declared.choose.Chosen.{Chosen}
use Rattle.nest_systems.specs.Chosen.{IsChosen, is_within}

pub and : (x y : Bool) → x && y ≡ true → (x ≡ true) × (y ≡ true)
and true true e = (refl, refl)
and true false e = absurd cc
and false y e = absurd cc

pub both : (x y : Bool) → x ≡ true → y ≡ true → x && y ≡ true
both x y e f = rw (e, f) refl

pub all-push : {X : Type 0} (p : X → Bool) (xs : List X) (x : X) → list_all p xs ≡ true → p x ≡ true → list_all p (xs ++ x ∷ []) ≡ true
all-push p [] x a b = both (p x) true b refl
all-push p (y ∷ xs) x a b = let h = and (p y) (list_all p xs) a in both (p y) (list_all p (xs ++ x ∷ [])) h.0 (all-push p xs x h.1 b)

pub all-set : {X : Type 0} (p : X → Bool) (xs : List X) (i : ℕ) (x : X) → list_all p xs ≡ true → p x ≡ true → list_all p (slice_set xs i x) ≡ true
all-set p [] i x a b = refl
all-set p (y ∷ xs) zero x a b = let h = and (p y) (list_all p xs) a in both (p x) (list_all p xs) b h.1
all-set p (y ∷ xs) (suc i) x a b = let h = and (p y) (list_all p xs) a in both (p y) (list_all p (slice_set xs i x)) h.0 (all-set p xs i x h.1 b)

all-wider : (n : ℕ) (xs : List ℕ) → list_all (is_within n) xs ≡ true → list_all (is_within (n + 1)) xs ≡ true
all-wider n [] a = refl
all-wider n (x ∷ xs) a =
    let h = and (is_within n x) (list_all (is_within n) xs) a in
    let l : x < n = ltb-true x n h.0 in
    both (is_within (n + 1) x) (list_all (is_within (n + 1)) xs) (lt-ltb x (n + 1) (omega (arith, l))) (all-wider n xs h.1)

below-wider : (n : ℕ) (o : Option ℕ) → is_below n o ≡ true → is_below (n + 1) o ≡ true
below-wider n None a = refl
below-wider n (Some x) a = let l : x < n = ltb-true x n a in lt-ltb x (n + 1) (omega (arith, l))

all-below-wider : (n : ℕ) (xs : List (Option ℕ)) → list_all (is_below n) xs ≡ true → list_all (is_below (n + 1)) xs ≡ true
all-below-wider n [] a = refl
all-below-wider n (x ∷ xs) a =
    let h = and (is_below n x) (list_all (is_below n) xs) a in
    both (is_below (n + 1) x) (list_all (is_below (n + 1)) xs) (below-wider n x h.0) (all-below-wider n xs h.1)

pub none-below : (n k : ℕ) → list_all (is_below n) (replicate k None) ≡ true
none-below n zero = refl
none-below n (suc k) = none-below n k

length-one : {X : Type 0} (xs : List X) (x : X) → length (xs ++ x ∷ []) ≡ length xs + 1
length-one [] x = omega arith
length-one (y ∷ xs) x = let h = length-one xs x in omega (arith, h)

module _ (f n : ℕ) (c : Chosen) (k : IsChosen f n c) where
  -- a term that stands for itself or is stood for
  pub same-kept : (new : Chosen) (t u : ℕ) → u < n → new.first ≡ c.first → new.order ≡ c.order → new.ends ≡ c.ends → new.same ≡ slice_set c.same t (Some u) → IsChosen f n new
  same-kept new t u h a b e s = record {
    place = a ∙ k.place;
    order = rw b k.order;
    ends = rw e k.ends;
    same = ap length s ∙ length-set c.same t (Some u) ∙ k.same;
    stands = rw s (all-set (is_below n) c.same t (Some u) k.stands (lt-ltb u n h));
    room = k.room;
  }

  pub order-kept : (new : Chosen) (t : ℕ) → t < n → new.first ≡ c.first → new.order ≡ c.order ++ t ∷ [] → new.ends ≡ c.ends → new.same ≡ c.same → IsChosen f n new
  order-kept new t h a b e s = record {
    place = a ∙ k.place;
    order = rw b (all-push (is_within n) c.order t k.order (lt-ltb t n h));
    ends = rw e k.ends;
    same = ap length s ∙ k.same;
    stands = rw s k.stands;
    room = k.room;
  }

  pub ends-kept : (new : Chosen) (t : ℕ) → t < n → new.first ≡ c.first → new.order ≡ c.order → new.ends ≡ c.ends ++ t ∷ [] → new.same ≡ c.same → IsChosen f n new
  ends-kept new t h a b e s = record {
    place = a ∙ k.place;
    order = rw b k.order;
    ends = rw e (all-push (is_within n) c.ends t k.ends (lt-ltb t n h));
    same = ap length s ∙ k.same;
    stands = rw s k.stands;
    room = k.room;
  }

  -- one more term, which stands for itself
  pub more-same : (new : Chosen) (t : ℕ) → t ≡ n → f + n + 1 < 2 ^ 64 → new.first ≡ c.first → new.order ≡ c.order → new.ends ≡ c.ends → new.same ≡ c.same ++ Some t ∷ [] → IsChosen f (n + 1) new
  more-same new t is h a b e s =
      let l : t < n + 1 = omega (arith, is) in
      record {
        place = a ∙ k.place;
        order = rw b (all-wider n c.order k.order);
        ends = rw e (all-wider n c.ends k.ends);
        same = ap length s ∙ length-one c.same (Some t) ∙ ap (λ (m : ℕ). m + 1) k.same;
        stands = rw s (all-push (is_below (n + 1)) c.same (Some t) (all-below-wider n c.same k.stands) (lt-ltb t (n + 1) l));
        room = omega (arith, h);
      }

-- no term yet
length-none : (n : ℕ) → length (replicate {A = Option ℕ} n None) ≡ n
length-none zero = refl
length-none (suc n) = ap suc (length-none n)

pub none-kept : (f n : ℕ) (c : Chosen) → f + n < 2 ^ 64 → c.first ≡ f → c.order ≡ [] → c.ends ≡ [] → c.same ≡ replicate n None → IsChosen f n c
none-kept f n c h p a b e = record {
  place = p;
  order = rw a refl;
  ends = rw b refl;
  same = ap length e ∙ length-none n;
  stands = rw e (none-below n n);
  room = h;
}
