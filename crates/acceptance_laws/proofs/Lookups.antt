-- The sizes of names, further out and further in.
use Rattle.std.specs.Prelude.{bytes_eq, unsigned_abs, ◌≤◌, ◌*◌, ◌^◌}
use Rattle.std.proofs.Common.{◌≡◌, inl, inr, ℕ, ◌+◌, max, Bool, true, false, ◌||◌, ◌&&◌, cond, List, [], ◌∷◌, ◌++◌, refl, sym, ◌∙◌, ap, subst}
use Rattle.std.specs.List.{list_any, AllByRecursion}
use Rattle.std.proofs.lemmas.Slice.Eq.{bytes_eq-Decides}
use Rattle.c_tree.specs.declared.program.Matrix.{Matrix}
use Rattle.c_meaning.specs.Names.{Name}
use Rattle.acceptance.specs.Expressions.{Expression, number, name, one, two, three, negated, plus, minus, times, lesser, greater, floor, ceil, plain}
use Rattle.acceptance.specs.Affine.{Mention, mentions}
use Rattle.acceptance.specs.Sizes.{Size, size_of, weight}
use Rattle.acceptance.specs.Visits.{Passed, looped, tested}
use Rattle.acceptance.specs.Around.{loop_names, sizes_in}
use Rattle.acceptance_laws.specs.Formed.{is_in_scope}
use Rattle.acceptance_laws.specs.Listed.{IsSmall, HasSmallAt}
use Rattle.acceptance_laws.specs.Scopes.{IsScoped}
use Rattle.acceptance_laws.specs.Seen.{IsInScope}
use Rattle.acceptance_laws.specs.Kept.{IsKeptBy}
use Rattle.acceptance_laws.proofs.Formed.{both, any-append}
use Rattle.acceptance_laws.proofs.Scopes.{other}
use Rattle.acceptance_laws.proofs.Seen.{inner, both-each}

or-none : (a b : Bool) → (a || b) ≡ false → (a ≡ false) × (b ≡ false)
or-none false b h = (refl, h)
or-none true b h = absurd cc

last-other : (sizes : List Size) (x y : Name) (n : ℕ) → bytes_eq x y ≡ false → size_of (sizes ++ record { name = x; size = n } ∷ []) y ≡ size_of sizes y
last-other [] x y n h = rw h refl
last-other (s ∷ sizes) x y n h = ap (λ (k : ℕ). cond (bytes_eq s.name y) s.size k) (last-other sizes x y n h)

pub later : (sizes : List Size) (ps : List Passed) (y : Name) → list_any (λ z. bytes_eq z y) (loop_names ps) ≡ false → size_of (sizes_in sizes ps) y ≡ size_of sizes y
later sizes [] y h = refl
later sizes (looped x l u ∷ ps) y h =
    let k = or-none (bytes_eq x y) (list_any (λ z. bytes_eq z y) (loop_names ps)) h in
    later (sizes ++ record { name = x; size = max (weight sizes (plain l)) (weight sizes (plain u)) } ∷ []) ps y k.1 ∙ last-other sizes x y _ k.0
later sizes (tested t ∷ ps) y h = later sizes ps y h

abbrev pub IsOther : Name → Size → Type 0
IsOther x s = bytes_eq s.name x ≡ false

pub its_own : (sizes : List Size) (x : Name) (n : ℕ) → AllByRecursion (IsOther x) sizes → size_of (sizes ++ record { name = x; size = n } ∷ []) x ≡ n
its_own [] x n h = let e : bytes_eq x x ≡ true = (bytes_eq-Decides x x).1 refl in rw e refl
its_own (s ∷ sizes) x n h = rw h.0 (its_own sizes x n h.1)

pub apart_later : (front : List Name) (ps : List Passed) (y : Name) → IsScoped front ps → list_any (λ z. bytes_eq z y) front ≡ true → list_any (λ z. bytes_eq z y) (loop_names ps) ≡ false
apart_later front [] y h k = refl
apart_later front (looped x l u ∷ ps) y h k =
    let e : bytes_eq x y ≡ false = other x y front h.2 k in
    let f = apart_later (front ++ x ∷ []) ps y h.3 (any-append y front (x ∷ []) k) in
    rw e f
apart_later front (tested t ∷ ps) y h k = apart_later front ps y h.2 k

-- the names of sizes are among these
abbrev pub AreOf : List Name → List Size → Type 0
AreOf names sizes = (x : Name) → list_any (λ y. bytes_eq y x) names ≡ false → AllByRecursion (IsOther x) sizes

any-both : (x : Name) (xs ys : List Name) → list_any (λ y. bytes_eq y x) (xs ++ ys) ≡ false → (list_any (λ y. bytes_eq y x) xs ≡ false) × (list_any (λ y. bytes_eq y x) ys ≡ false)
any-both x [] ys h = (refl, h)
any-both x (z ∷ xs) ys h =
    let k = or-none (bytes_eq z x) (list_any (λ y. bytes_eq y x) (xs ++ ys)) h in
    let m = any-both x xs ys k.1 in
    (rw k.0 m.0, m.1)

all-last : (x : Name) (sizes : List Size) (s : Size) → AllByRecursion (IsOther x) sizes → IsOther x s → AllByRecursion (IsOther x) (sizes ++ s ∷ [])
all-last x [] s h k = (k, tt)
all-last x (t ∷ sizes) s h k = (h.0, all-last x sizes s h.1 k)

pub one_size : (names : List Name) (sizes : List Size) (x : Name) (n : ℕ) → AreOf names sizes → AreOf (names ++ x ∷ []) (sizes ++ record { name = x; size = n } ∷ [])
one_size names sizes x n h y k =
    let m = any-both y names (x ∷ []) k in
    let e = or-none (bytes_eq x y) false m.1 in
    all-last y sizes (record { name = x; size = n }) (h y m.0) e.0

module _ (a b : List Size) (front : List Name) (agree : (x : Name) → list_any (λ y. bytes_eq y x) front ≡ true → size_of a x ≡ size_of b x) where
  two_same : (f : ℕ → ℕ → ℕ) (n m k l : ℕ) → n ≡ k → m ≡ l → f n m ≡ f k l
  two_same f n m k l h i = ap (λ (x : ℕ). f x m) h ∙ ap (λ (y : ℕ). f k y) i

  pub weight_same : (e : Expression) → is_in_scope front e ≡ true → weight a e ≡ weight b e
  weight_same (number n) i = refl
  weight_same (name x) i = agree x i
  weight_same (one c e) i = refl
  weight_same (two c e f) i = refl
  weight_same (three c e f g) i = refl
  weight_same (negated e) i = weight_same e i
  weight_same (plus e f) i = let j = both (is_in_scope front e) (is_in_scope front f) i in two_same (λ x y. x + y) _ _ _ _ (weight_same e j.0) (weight_same f j.1)
  weight_same (minus e f) i = let j = both (is_in_scope front e) (is_in_scope front f) i in two_same (λ x y. x + y) _ _ _ _ (weight_same e j.0) (weight_same f j.1)
  weight_same (times n e) i = ap (λ (x : ℕ). unsigned_abs n * x) (weight_same e i)
  weight_same (lesser e f) i = let j = both (is_in_scope front e) (is_in_scope front f) i in two_same (λ x y. max x y) _ _ _ _ (weight_same e j.0) (weight_same f j.1)
  weight_same (greater e f) i = let j = both (is_in_scope front e) (is_in_scope front f) i in two_same (λ x y. max x y) _ _ _ _ (weight_same e j.0) (weight_same f j.1)
  weight_same (floor e d) i = weight_same e i
  weight_same (ceil e d) i = weight_same e i

  -- what is kept by some sizes is kept by others that agree on the names in scope
  pub kept_to : (ms : List Matrix) (e : Expression) (os : List Expression) → IsKeptBy ms a e os → IsInScope front e → AllByRecursion (IsInScope front) os → IsKeptBy ms b e os
  kept_to ms e os k i j = record {
    terms = both-each (HasSmallAt a) (λ m. is_in_scope front m.at ≡ true) (HasSmallAt b) (λ m h l. subst (λ (n : ℕ). n ≤ 2 ^ 62) (weight_same m.at l) h) (mentions ms e) k.terms (inner ms front e i);
    affine = k.affine;
    small = both-each (IsSmall a) (IsInScope front) (IsSmall b) (λ o h l. subst (λ (n : ℕ). n ≤ 2 ^ 62) (weight_same o l) h) os k.small j;
  }
