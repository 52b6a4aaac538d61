-- The first open candidate of lists that stand behind one another.
use Rattle.std.proofs.Common.{◌≡◌, ℕ, suc, ◌+◌, ◌<◌, ◌≤◌, Bool, true, false, cond, not, List, [], ◌∷◌, ◌++◌, map, length, drop, get_or, Option, Some, None, is_some, refl, sym, ap, ◌∙◌, subst, drop-cons, add-one}
use Rattle.std.proofs.lemmas.Grind.{get_or_default_zero}
use Rattle.std.specs.List.{flat_map}
use Rattle.std.proofs.lemmas.List.{drop_all}
use Rattle.depend_test.specs.First.{IsFirst, none, excluded, found}
use Rattle.depend_test.specs.Candidates.{at_each}

module _ {C D : Type 0} (P : C → Bool → Type 0) (answer : C → D) where
  -- a list of excluded candidates in front
  pub first-behind : (cs ds : List C) (n r : Option D) → n ≡ None → IsFirst P answer cs n → IsFirst P answer ds r → IsFirst P answer (cs ++ ds) r
  first-behind _ ds _ r e none w = w
  first-behind _ ds _ r e (excluded c cs o h v) w = excluded c (cs ++ ds) r h (first-behind cs ds o r e v w)
  first-behind _ ds _ r e (found c cs h) w = absurd (cc)

  -- an open candidate in front
  pub first-before : (cs ds : List C) (r : Option D) (d : D) → r ≡ Some d → IsFirst P answer cs r → IsFirst P answer (cs ++ ds) r
  first-before _ ds _ d e none = absurd (cc)
  first-before _ ds _ d e (excluded c cs o h v) = excluded c (cs ++ ds) o h (first-before cs ds o d e v)
  first-before _ ds _ d e (found c cs h) = found c (cs ++ ds) h

  -- all are excluded
  pub first-none : (cs : List C) → ((c : C) → P c true) → IsFirst P answer cs None
  first-none [] h = none
  first-none (c ∷ cs) h = excluded c cs None (h c) (first-none cs h)

  -- where there is no answer
  some-or : (r : Option D) (cs : List C) → is_some r ≡ false → IsFirst P answer cs r → IsFirst P answer cs None
  some-or None cs e w = w
  some-or (Some d) cs e w = absurd (cc)

  -- the candidates in front of the rest are excluded
  pub record Passed (all rest : List C) : Type 0 where
    pub more : (r : Option D) → IsFirst P answer rest r → IsFirst P answer all r

  pub passed-all : (all : List C) → Passed all all
  passed-all all = record { more = λ r w. w }

  pub passed-none : (all : List C) → Passed all [] → IsFirst P answer all None
  passed-none all p = p.more None none

  pub passed-over : (all cs rest : List C) → Passed all (cs ++ rest) → IsFirst P answer cs None → Passed all rest
  passed-over all cs rest p w = record { more = λ r v. p.more r (first-behind cs rest None r refl w v) }

  pub passed-found : (all cs rest : List C) (d : D) → Passed all (cs ++ rest) → IsFirst P answer cs (Some d) → IsFirst P answer all (Some d)
  passed-found all cs rest d p w = p.more (Some d) (first-before cs rest (Some d) d refl w)

-- other candidates that are decided alike
pub first-along : {C C' D D' : Type 0} (P : C → Bool → Type 0) (Q : C' → Bool → Type 0) (answer : C → D) (answer' : C' → D') (g : C → C') (h : D → D') (cs : List C) (r : Option D) (s : Option D')
    → ((c : C) (b : Bool) → P c b → Q (g c) b) → ((c : C) → answer' (g c) ≡ h (answer c)) → IsFirst P answer cs r
    → ((r ≡ None) → s ≡ None) → ((d : D) → r ≡ Some d → s ≡ Some (h d)) → IsFirst Q answer' (map g cs) s
first-along P Q answer answer' g h _ _ s m e none n o = rw (n refl) none
first-along P Q answer answer' g h _ _ s m e (excluded c cs r k v) n o = excluded (g c) (map g cs) s (m c true k) (first-along P Q answer answer' g h cs r s m e v n o)
first-along P Q answer answer' g h _ _ s m e (found c cs k) n o =
    rw (o (answer c) refl, ← e c) (found (g c) (map g cs) (m c false k))

-- a loop over a list, by what is left of it
module _ {A C D : Type 0} (P : C → Bool → Type 0) (answer : C → D) (all : List C) where
  pub listed-over : (f : A → List C) (xs : List A) (i : ℕ) (x : A) → i < length xs → x ≡ get_or xs i x
      → Passed P answer all (flat_map f (drop i xs)) → IsFirst P answer (f x) None → Passed P answer all (flat_map f (drop (i + 1) xs))
  listed-over f xs i x l e p w =
      let q = subst (λ (ys : List A). Passed P answer all (flat_map f ys)) (drop-cons xs i x l ∙ ap (λ (y : A). y ∷ drop (suc i) xs) (sym e)) p in
      rw (add-one i) (passed-over P answer all (f x) (flat_map f (drop (suc i) xs)) q w)

  pub listed-found : (f : A → List C) (xs : List A) (i : ℕ) (x : A) (d : D) → i < length xs → x ≡ get_or xs i x
      → Passed P answer all (flat_map f (drop i xs)) → IsFirst P answer (f x) (Some d) → IsFirst P answer all (Some d)
  listed-found f xs i x d l e p w =
      let q = subst (λ (ys : List A). Passed P answer all (flat_map f ys)) (drop-cons xs i x l ∙ ap (λ (y : A). y ∷ drop (suc i) xs) (sym e)) p in
      passed-found P answer all (f x) (flat_map f (drop (suc i) xs)) d q w

  pub each-over : (f : ℕ → A → List C) (xs : List A) (i : ℕ) (x : A) → i < length xs → x ≡ get_or xs i x
      → Passed P answer all (at_each f i (drop i xs)) → IsFirst P answer (f i x) None → Passed P answer all (at_each f (i + 1) (drop (i + 1) xs))
  each-over f xs i x l e p w =
      let q = subst (λ (ys : List A). Passed P answer all (at_each f i ys)) (drop-cons xs i x l ∙ ap (λ (y : A). y ∷ drop (suc i) xs) (sym e)) p in
      let k = passed-over P answer all (f i x) (at_each f (i + 1) (drop (suc i) xs)) q w in
      subst (λ (n : ℕ). Passed P answer all (at_each f (i + 1) (drop n xs))) (sym (add-one i)) k

  pub each-found : (f : ℕ → A → List C) (xs : List A) (i : ℕ) (x : A) (d : D) → i < length xs → x ≡ get_or xs i x
      → Passed P answer all (at_each f i (drop i xs)) → IsFirst P answer (f i x) (Some d) → IsFirst P answer all (Some d)
  each-found f xs i x d l e p w =
      let q = subst (λ (ys : List A). Passed P answer all (at_each f i ys)) (drop-cons xs i x l ∙ ap (λ (y : A). y ∷ drop (suc i) xs) (sym e)) p in
      passed-found P answer all (f i x) (at_each f (i + 1) (drop (suc i) xs)) d q w

  -- at the end
  pub listed-none : (f : A → List C) (xs : List A) (i : ℕ) → length xs ≤ i → Passed P answer all (flat_map f (drop i xs)) → IsFirst P answer all None
  listed-none f xs i l p = passed-none P answer all (subst (λ (ys : List A). Passed P answer all (flat_map f ys)) (drop_all i xs l) p)

  pub each-none : (f : ℕ → A → List C) (xs : List A) (i : ℕ) → length xs ≤ i → Passed P answer all (at_each f i (drop i xs)) → IsFirst P answer all None
  each-none f xs i l p = passed-none P answer all (subst (λ (ys : List A). Passed P answer all (at_each f i ys)) (drop_all i xs l) p)

-- the same, where it is asked whether there is an answer
module _ {A C D : Type 0} (P : C → Bool → Type 0) (answer : C → D) (all : List C) where
  pub listed-over-none : (f : A → List C) (xs : List A) (i : ℕ) (x : A) (r : Option D) → is_some r ≡ false → i < length xs → x ≡ get_or xs i x
      → Passed P answer all (flat_map f (drop i xs)) → IsFirst P answer (f x) r → Passed P answer all (flat_map f (drop (i + 1) xs))
  listed-over-none f xs i x r n l e p w = listed-over P answer all f xs i x l e p (some-or P answer r (f x) n w)

  pub listed-found-some : (f : A → List C) (xs : List A) (i : ℕ) (x : A) (r : Option D) → is_some r ≡ true → i < length xs → x ≡ get_or xs i x
      → Passed P answer all (flat_map f (drop i xs)) → IsFirst P answer (f x) r → IsFirst P answer all r
  listed-found-some f xs i x None n l e p w = absurd (cc)
  listed-found-some f xs i x (Some d) n l e p w = listed-found P answer all f xs i x d l e p w

  pub each-over-none : (f : ℕ → A → List C) (xs : List A) (i : ℕ) (x : A) (r : Option D) → is_some r ≡ false → i < length xs → x ≡ get_or xs i x
      → Passed P answer all (at_each f i (drop i xs)) → IsFirst P answer (f i x) r → Passed P answer all (at_each f (i + 1) (drop (i + 1) xs))
  each-over-none f xs i x r n l e p w = each-over P answer all f xs i x l e p (some-or P answer r (f i x) n w)

  pub each-found-some : (f : ℕ → A → List C) (xs : List A) (i : ℕ) (x : A) (r : Option D) → is_some r ≡ true → i < length xs → x ≡ get_or xs i x
      → Passed P answer all (at_each f i (drop i xs)) → IsFirst P answer (f i x) r → IsFirst P answer all r
  each-found-some f xs i x None n l e p w = absurd (cc)
  each-found-some f xs i x (Some d) n l e p w = each-found P answer all f xs i x d l e p w

  -- a thing that gives no candidates
  pub each-over-nothing : (f : ℕ → A → List C) (xs : List A) (i : ℕ) (x : A) → f i x ≡ [] → i < length xs → x ≡ get_or xs i x
      → Passed P answer all (at_each f i (drop i xs)) → Passed P answer all (at_each f (i + 1) (drop (i + 1) xs))
  each-over-nothing f xs i x n l e p = each-over P answer all f xs i x l e p (rw n none)

-- a loop over the candidates themselves
module _ {C D : Type 0} (P : C → Bool → Type 0) (answer : C → D) (all : List C) where
  pub plain-over : (xs : List C) (i : ℕ) (x : C) → i < length xs → x ≡ get_or xs i x → Passed P answer all (drop i xs) → P x true → Passed P answer all (drop (i + 1) xs)
  plain-over xs i x l e p w =
      let q = subst (λ (ys : List C). Passed P answer all ys) (drop-cons xs i x l ∙ ap (λ (y : C). y ∷ drop (suc i) xs) (sym e)) p in
      rw (add-one i) (passed-over P answer all (x ∷ []) (drop (suc i) xs) q (excluded x [] None w none))

  pub plain-found : (xs : List C) (i : ℕ) (x : C) → i < length xs → x ≡ get_or xs i x → Passed P answer all (drop i xs) → P x false → IsFirst P answer all (Some (answer x))
  plain-found xs i x l e p w =
      let q = subst (λ (ys : List C). Passed P answer all ys) (drop-cons xs i x l ∙ ap (λ (y : C). y ∷ drop (suc i) xs) (sym e)) p in
      passed-found P answer all (x ∷ []) (drop (suc i) xs) (answer x) q (found x [] w)

  pub plain-none : (xs : List C) (i : ℕ) → length xs ≤ i → Passed P answer all (drop i xs) → IsFirst P answer all None
  plain-none xs i l p = passed-none P answer all (subst (λ (ys : List C). Passed P answer all ys) (drop_all i xs l) p)

-- a loop over numbers that are candidates, each of which is open or not
module _ {D : Type 0} (P : ℕ → Bool → Type 0) (answer : ℕ → D) (all xs : List ℕ) (i : ℕ) (is_open : Bool) where
  pub numbers-over : i < length xs → is_open ≡ false → Passed P answer all (drop i xs) → P (get_or xs i 0) (not is_open) → Passed P answer all (drop (i + 1) xs)
  numbers-over l e p w = plain-over P answer all xs i (get_or xs i 0) l (sym (get_or_default_zero xs i (get_or xs i 0) l)) p (rw e at w)

  pub numbers-found : i < length xs → is_open ≡ true → Passed P answer all (drop i xs) → P (get_or xs i 0) (not is_open) → IsFirst P answer all (Some (answer (get_or xs i 0)))
  numbers-found l e p w = plain-found P answer all xs i (get_or xs i 0) l (sym (get_or_default_zero xs i (get_or xs i 0) l)) p (rw e at w)

-- candidates that are there under a condition
pub under-true : {C D : Type 0} (P : C → Bool → Type 0) (answer : C → D) (b : Bool) (cs : List C) (r : Option D) → true ≡ b → IsFirst P answer cs r → IsFirst P answer (cond b cs []) r
under-true P answer b cs r e w = rw (← e) w

pub under-false : {C : Type 0} (b : Bool) (cs : List C) → false ≡ b → cond b cs [] ≡ []
under-false b cs e = rw (← e) refl
