-- The kept values of a group are those of its entries, each once, in order of first appearance.
use Rattle.std.proofs.Common.{◌≡◌, refl, sym, ap, ◌∙◌, subst, ℕ, suc, ◌+◌, ◌≤◌, ◌<◌, ℤ, Bool, true, false, ◌&&◌, ◌||◌, List, [], ◌∷◌, ◌++◌, length, if◌then◌else◌, nat_eq, arith, append_assoc}
use Rattle.std.proofs.lemmas.Int.{ints}
use Rattle.std.proofs.lemmas.List.{append-nil}
use Rattle.std.specs.List.{fold}
use Rattle.sparse_marks.specs.Kept.{same, is_among, add, Placed, values, kept, standing}
use Rattle.sparse_marks.specs.Laws.{AreDistinct, has, KeepsEach}
use Rattle.sparse_marks.proofs.Values.{same_is}

-- membership
pub among_add : (v w : ℤ) (ks : List ℤ) → is_among v (add ks w) ≡ (is_among v ks || same v w)
among_add v w ks = add_by v w ks _ refl
  where
    snoc : (v w : ℤ) (ks : List ℤ) → is_among v (ks ++ w ∷ []) ≡ (is_among v ks || same v w)
    snoc v w [] = grind arith
    snoc v w (k ∷ ks) = grind (arith, snoc v w ks)

    held : (v w : ℤ) (ks : List ℤ) (c : Bool) → same v w ≡ c → is_among w ks ≡ true → is_among v ks ≡ (is_among v ks || c)
    held v w ks true e h = let q : is_among v ks ≡ true = ap (λ u. is_among u ks) (same_is v w e) ∙ h in grind (arith, q)
    held v w ks false e h = grind arith

    add_by : (v w : ℤ) (ks : List ℤ) (b : Bool) → is_among w ks ≡ b → is_among v (if b then ks else ks ++ w ∷ []) ≡ (is_among v ks || same v w)
    add_by v w ks true e = held v w ks (same v w) refl e
    add_by v w ks false e = snoc v w ks

pub among_fold : (v : ℤ) (ws ks : List ℤ) → is_among v (fold add ks ws) ≡ (is_among v ks || is_among v ws)
among_fold v [] ks = grind arith
among_fold v (w ∷ ws) ks = among_fold v ws (add ks w) ∙ ap (λ b. b || is_among v ws) (among_add v w ks) ∙ grind arith

pub among_kept : (g : ℕ) (w : ℤ) (es : List Placed) → is_among w (kept g es) ≡ is_among w (values g es)
among_kept g w es = among_fold w (values g es) []

has_value : (g : ℕ) (w : ℤ) (es : List Placed) → is_among w (values g es) ≡ has g w es
has_value g w [] = refl
has_value g w (e ∷ es) = by _ refl (has_value g w es)
  where
    turned : (a b : ℤ) → same a b ≡ same b a
    turned a b = grind (arith, ints)

    by : (b : Bool) → nat_eq e.group g ≡ b → is_among w (values g es) ≡ has g w es → is_among w (if b then e.value ∷ values g es else values g es) ≡ ((b && same e.value w) || has g w es)
    by true h i = ap (λ c. c || is_among w (values g es)) (turned w e.value) ∙ ap (λ c. same e.value w || c) i
    by false h i = i

-- each once
distinct_snoc : (ks : List ℤ) (w : ℤ) → AreDistinct ks → is_among w ks ≡ false → AreDistinct (ks ++ w ∷ [])
distinct_snoc [] w d h = (refl, tt)
distinct_snoc (k ∷ ks) w d h =
    let n : is_among k (ks ++ w ∷ []) ≡ false = not_behind k w ks (d.0) (grind (arith, ints)) in
    (n, distinct_snoc ks w (d.1) (grind arith))
  where
    not_behind : (k w : ℤ) (ks : List ℤ) → is_among k ks ≡ false → same k w ≡ false → is_among k (ks ++ w ∷ []) ≡ false
    not_behind k w [] h e = grind arith
    not_behind k w (u ∷ ks) h e = grind (arith, not_behind k w ks)

distinct_add : (ks : List ℤ) (w : ℤ) (b : Bool) → is_among w ks ≡ b → AreDistinct ks → AreDistinct (if b then ks else ks ++ w ∷ [])
distinct_add ks w true e d = d
distinct_add ks w false e d = distinct_snoc ks w d e

distinct_fold : (ws ks : List ℤ) → AreDistinct ks → AreDistinct (fold add ks ws)
distinct_fold [] ks d = d
distinct_fold (w ∷ ws) ks d = distinct_fold ws (add ks w) (distinct_add ks w _ refl d)

-- in order of first appearance
standing_append : (w : ℤ) (ks ws : List ℤ) (b : Bool) → is_among w ks ≡ b → standing w (ks ++ ws) ≡ (if b then standing w ks else length ks + standing w ws)
standing_append w [] ws true e = cc
standing_append w [] ws false e = omega arith
standing_append w (k ∷ ks) ws b e = by _ b refl e (standing_append w ks ws)
  where
    by : (c b : Bool) → same w k ≡ c → (c || is_among w ks) ≡ b → ((b : Bool) → is_among w ks ≡ b → standing w (ks ++ ws) ≡ (if b then standing w ks else length ks + standing w ws)) → (if c then 0 else suc (standing w (ks ++ ws))) ≡ (if b then (if c then 0 else suc (standing w ks)) else suc (length ks) + standing w ws)
    by true true h e f = refl
    by true false h e f = cc
    by false true h e f = ap suc (f true e)
    by false false h e f = let q : standing w (ks ++ ws) ≡ length ks + standing w ws = f false e in omega (arith, q)

pub standing_bound : (w : ℤ) (ks : List ℤ) → standing w ks ≤ length ks
standing_bound w [] = omega arith
standing_bound w (k ∷ ks) = grind (arith, standing_bound w ks)

pub standing_inside : (w : ℤ) (ks : List ℤ) → is_among w ks ≡ true → standing w ks < length ks
standing_inside w [] h = cc
standing_inside w (k ∷ ks) h = grind (arith, standing_inside w ks)

-- a value that is there already may be left out
left_out : (v w x : ℤ) (ks ws : List ℤ) (b c : Bool) → is_among v ks ≡ b → is_among w ks ≡ c → is_among x ks ≡ true
    → standing v (ks ++ x ∷ ws) < standing w (ks ++ x ∷ ws) → standing v (ks ++ ws) < standing w (ks ++ ws)
left_out v w x ks ws true true e f h k =
    let a : standing v (ks ++ x ∷ ws) ≡ standing v ks = standing_append v ks (x ∷ ws) true e in
    let b : standing w (ks ++ x ∷ ws) ≡ standing w ks = standing_append w ks (x ∷ ws) true f in
    let c : standing v (ks ++ ws) ≡ standing v ks = standing_append v ks ws true e in
    let d : standing w (ks ++ ws) ≡ standing w ks = standing_append w ks ws true f in
    omega (arith, a, b, c, d, k)
left_out v w x ks ws true false e f h k =
    let c : standing v (ks ++ ws) ≡ standing v ks = standing_append v ks ws true e in
    let d : standing w (ks ++ ws) ≡ length ks + standing w ws = standing_append w ks ws false f in
    let l : standing v ks < length ks = standing_inside v ks e in
    omega (arith, c, d, l)
left_out v w x ks ws false true e f h k =
    let a : standing v (ks ++ x ∷ ws) ≡ length ks + standing v (x ∷ ws) = standing_append v ks (x ∷ ws) false e in
    let b : standing w (ks ++ x ∷ ws) ≡ standing w ks = standing_append w ks (x ∷ ws) true f in
    let l : standing w ks < length ks = standing_inside w ks f in
    absurd (omega (arith, a, b, l, k))
left_out v w x ks ws false false e f h k =
    let a : standing v (ks ++ x ∷ ws) ≡ length ks + standing v (x ∷ ws) = standing_append v ks (x ∷ ws) false e in
    let b : standing w (ks ++ x ∷ ws) ≡ length ks + standing w (x ∷ ws) = standing_append w ks (x ∷ ws) false f in
    let c : standing v (ks ++ ws) ≡ length ks + standing v ws = standing_append v ks ws false e in
    let d : standing w (ks ++ ws) ≡ length ks + standing w ws = standing_append w ks ws false f in
    let p : standing v (x ∷ ws) ≡ suc (standing v ws) = further v (apart v e) in
    let q : standing w (x ∷ ws) ≡ suc (standing w ws) = further w (apart w f) in
    omega (arith, a, b, c, d, p, q, k)
  where
    apart : (u : ℤ) → is_among u ks ≡ false → same u x ≡ false
    apart u n = by _ refl
      where
        by : (b : Bool) → same u x ≡ b → same u x ≡ false
        by true e = absurd (let q : is_among u ks ≡ true = ap (λ u. is_among u ks) (same_is u x e) ∙ h in grind (arith, q, n))
        by false e = e

    further : (u : ℤ) → same u x ≡ false → standing u (x ∷ ws) ≡ suc (standing u ws)
    further u e = ap (λ b. if b then 0 else suc (standing u ws)) e

ordered_fold : (v w : ℤ) (ws ks : List ℤ) → standing v (ks ++ ws) < standing w (ks ++ ws) → standing v (fold add ks ws) < standing w (fold add ks ws)
ordered_fold v w [] ks h = subst (λ l. standing v l < standing w l) (append-nil ks) h
ordered_fold v w (x ∷ ws) ks h = ordered_fold v w ws (add ks x) (by _ refl)
  where
    by : (b : Bool) → is_among x ks ≡ b → standing v ((if b then ks else ks ++ x ∷ []) ++ ws) < standing w ((if b then ks else ks ++ x ∷ []) ++ ws)
    by true e = left_out v w x ks ws _ _ refl refl e h
    by false e = subst (λ l. standing v l < standing w l) (sym (append_assoc ks (x ∷ []) ws)) h

pub keeps_each : (g : ℕ) (es : List Placed) → KeepsEach g es
keeps_each g es = record {
  complete = λ w. among_kept g w es ∙ has_value g w es;
  distinct = distinct_fold (values g es) [] tt;
  ordered = λ v w h. ordered_fold v w (values g es) [] h;
}
