-- Tests of all elements.
use Rattle.std.proofs.Common.{◌≡◌, Bool, true, false, ◌&&◌, List, [], ◌∷◌, ◌++◌, map, reverse, refl, sym, ap, ◌∙◌, subst}
use Rattle.std.proofs.lemmas.List.{reverse-append, reverse-reverse, map-append}
use Rattle.std.specs.List.{list_all}
use mathlib.Core.List.{reverse_aux}

pub both : (x y : Bool) → x && y ≡ true → (x ≡ true) × (y ≡ true)
both true true e = (refl, refl)
both true false e = absurd cc
both false y e = absurd cc

module _ {A : Type 0} (test : A → Bool) where
  onto : (xs ys : List A) → list_all test xs ≡ true → list_all test ys ≡ true → list_all test (reverse_aux xs ys) ≡ true
  onto [] ys h k = k
  onto (x ∷ xs) ys h k = let f = both (test x) (list_all test xs) h in onto xs (x ∷ ys) f.1 (rw (f.0, k) refl)

  -- of a list turned round
  pub all_turned : (xs ys : List A) → ys ≡ reverse xs → list_all test xs ≡ true → list_all test ys ≡ true
  all_turned xs ys e h = subst (λ (l : List A). list_all test l ≡ true) (sym e) (onto xs [] h refl)

  -- of references
  pub all_referred : {R : Type 0} (now : R → A) (rs : List R) (xs : List A) → map now rs ≡ xs → list_all test xs ≡ true → list_all (λ r. test (now r)) rs ≡ true
  all_referred now rs xs e h = same rs ∙ subst (λ (l : List A). list_all test l ≡ true) (sym e) h
    where
      same : (rs : List _) → list_all (λ r. test (now r)) rs ≡ list_all test (map now rs)
      same [] = refl
      same (r ∷ rs) = rw (same rs) refl

map-turned : {A R : Type 0} (see : R → A) (rs : List R) → map see (reverse rs) ≡ reverse (map see rs)
map-turned see [] = refl
map-turned see (r ∷ rs) =
    ap (map see) (reverse-append (r ∷ []) rs) ∙ map-append see (reverse rs) (r ∷ []) ∙ ap (λ (l : List _). l ++ see r ∷ []) (map-turned see rs)
    ∙ sym (reverse-append (see r ∷ []) (map see rs))

-- what was gathered from the last one on, with one thing more, turned round
pub turned-seen : {A R : Type 0} (see : R → A) (old rs more turned : List R) (r : R) (xs : List A) → old ≡ [] → map see rs ≡ map see old ++ reverse xs → more ≡ rs ++ r ∷ [] → turned ≡ reverse more → map see turned ≡ see r ∷ xs
turned-seen see old rs more turned r xs o e m t =
    ap (map see) t ∙ map-turned see more
    ∙ ap (λ (l : List _). reverse (map see l)) m
    ∙ ap reverse (map-append see rs (r ∷ []) ∙ ap (λ (l : List _). l ++ see r ∷ []) (e ∙ ap (λ (l : List _). map see l ++ reverse xs) o))
    ∙ reverse-append (reverse xs) (see r ∷ [])
    ∙ ap (λ (l : List _). see r ∷ l) (reverse-reverse xs)
