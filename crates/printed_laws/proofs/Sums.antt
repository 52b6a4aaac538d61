-- Sums over lists of numbers, in any order.
use Rattle.std.proofs.Common.{◌≡◌, ◌⊎◌, inl, inr, ℕ, zero, suc, ◌+◌, ◌*◌, ◌≤◌, ◌<◌, List, [], ◌∷◌, length, refl, sym, ◌∙◌, ap, arith, ℤ, pos, ◌+ℤ◌, ◌*ℤ◌, unsigned_abs, Bool, true, false, cond, nat_eq, ◌||◌}
use Rattle.std.specs.List.{list_any, filter, range_with_len}
use Rattle.std.proofs.lemmas.Int.{ints}
use Rattle.std.proofs.lemmas.Bool.{cases_Bool}
use Rattle.std.proofs.lemmas.Bool.Decides.{nat_tests}
use lib.IntN.{zero-*ℤ, *ℤ-zero}
use Rattle.int_rows.specs.Rows.{dot}
use Rattle.scan_forms.specs.Numbers.{number_at}
use Rattle.scanning.specs.Sizes.{total, sizes_from}
use Rattle.printed_laws.specs.Printed.{AreDistinct}

-- a sum that has no order
pub record IsAddition {A : Type 0} (o : A) (add : A → A → A) : Type 0 where
  pub before : (a : A) → add o a ≡ a
  pub behind : (a : A) → add a o ≡ a
  pub four : (a b c d : A) → add (add a b) (add c d) ≡ add (add a c) (add b d)

-- whether a number is among others
abbrev pub among : List ℕ → ℕ → Bool
among ns i = list_any (nat_eq i) ns

-- whether it isn't
abbrev pub apart : List ℕ → ℕ → Bool
apart ns i = cond (list_any (nat_eq i) ns) false true

same_or_not : (i j : ℕ) → ((nat_eq i j ≡ true) × (i ≡ j)) ⊎ (nat_eq i j ≡ false)
same_or_not i j = elim (cases_Bool (nat_eq i j)) [ inl h ↦ inl (h, (let e : i ≡ j = grind (arith, nat_tests, h) in e)) | inr h ↦ inr h ]

not_same : (i j : ℕ) → j < i → nat_eq i j ≡ false
not_same i j h = grind (arith, nat_tests, h)

is_same : (i : ℕ) → nat_eq i i ≡ true
is_same i = grind (arith, nat_tests)

module _ {A : Type 0} (o : A) (add : A → A → A) where
  abbrev pub sums : (ℕ → A) → List ℕ → A
  sums g [] = o
  sums g (i ∷ is) = add (g i) (sums g is)

  pub sums-same : (g h : ℕ → A) → ((i : ℕ) → g i ≡ h i) → (is : List ℕ) → sums g is ≡ sums h is
  sums-same g h e [] = refl
  sums-same g h e (i ∷ is) = ap (λ (x : A). add x (sums g is)) (e i) ∙ ap (λ (x : A). add (h i) x) (sums-same g h e is)

  pub sums-shift : (g : ℕ → A) (n a : ℕ) → sums g (range_with_len (suc a) n) ≡ sums (λ i. g (suc i)) (range_with_len a n)
  sums-shift g zero a = refl
  sums-shift g (suc n) a =
      let e : suc a + 1 ≡ suc (a + 1) = omega arith in
      ap (λ (x : A). add (g (suc a)) x) (ap (λ (b : ℕ). sums g (range_with_len b n)) e ∙ sums-shift g n (a + 1))

  module _ (w : IsAddition o add) where
    pub sums-none : (g : ℕ → A) → ((i : ℕ) → g i ≡ o) → (is : List ℕ) → sums g is ≡ o
    sums-none g e [] = refl
    sums-none g e (i ∷ is) = ap (λ (x : A). add x (sums g is)) (e i) ∙ w.before (sums g is) ∙ sums-none g e is

    sums-both : (g h : ℕ → A) (is : List ℕ) → add (sums g is) (sums h is) ≡ sums (λ i. add (g i) (h i)) is
    sums-both g h [] = w.before o
    sums-both g h (i ∷ is) = w.four (g i) (sums g is) (h i) (sums h is) ∙ ap (λ (x : A). add (add (g i) (h i)) x) (sums-both g h is)

    pub sums-filter : (g : ℕ → A) (p : ℕ → Bool) (is : List ℕ) → sums g (filter p is) ≡ sums (λ i. cond (p i) (g i) o) is
    sums-filter g p [] = refl
    sums-filter g p (i ∷ is) = chosen (sums-filter g p is) (p i)
      where
        chosen : sums g (filter p is) ≡ sums (λ i. cond (p i) (g i) o) is → (b : Bool) → sums g (cond b (i ∷ filter p is) (filter p is)) ≡ add (cond b (g i) o) (sums (λ i. cond (p i) (g i) o) is)
        chosen e true = ap (λ (x : A). add (g i) x) e
        chosen e false = e ∙ sym (w.before _)

    -- ---- one number alone
    abbrev only : (ℕ → A) → ℕ → ℕ → A
    only g j i = cond (nat_eq i j) (g i) o

    only-past : (g : ℕ → A) (j n a : ℕ) → j < a → sums (only g j) (range_with_len a n) ≡ o
    only-past g j zero a h = refl
    only-past g j (suc n) a h =
        ap (λ (b : Bool). add (cond b (g a) o) (sums (only g j) (range_with_len (a + 1) n))) (not_same a j h)
        ∙ w.before (sums (only g j) (range_with_len (a + 1) n)) ∙ only-past g j n (a + 1) (omega (arith, h))

    only-is : (g : ℕ → A) (j n a : ℕ) → a ≤ j → (a + n ≤ j → g j ≡ o) → sums (only g j) (range_with_len a n) ≡ g j
    only-is g j zero a h z = sym (z (omega (arith, h)))
    only-is g j (suc n) a h z = elim (same_or_not a j) [
      | inl e ↦ (
          ap (λ (b : Bool). add (cond b (g a) o) (sums (only g j) (range_with_len (a + 1) n))) (e.0)
          ∙ ap (λ (x : A). add (g a) x) (only-past g j n (a + 1) (let s = e.1 in omega (arith, s))) ∙ w.behind (g a) ∙ ap g (e.1))
      | inr e ↦ (
          ap (λ (b : Bool). add (cond b (g a) o) (sums (only g j) (range_with_len (a + 1) n))) e
          ∙ w.before (sums (only g j) (range_with_len (a + 1) n)) ∙ only-is g j n (a + 1) (after_it a j h e) (λ l. z (omega (arith, l))))
    ]
      where
        after_it : (a j : ℕ) → a ≤ j → nat_eq a j ≡ false → a + 1 ≤ j
        after_it a j h e = grind (arith, nat_tests, h, e)

    -- ---- the numbers of a list that has none twice
    abbrev those : (ℕ → A) → List ℕ → ℕ → A
    those g ns i = cond (among ns i) (g i) o

    split : (g : ℕ → A) (j : ℕ) (js : List ℕ) → among js j ≡ false → (i : ℕ) → those g (j ∷ js) i ≡ add (only g j i) (those g js i)
    split g j js h i = elim (same_or_not i j) [
      | inl e ↦ (
          ap (λ (b : Bool). cond (b || among js i) (g i) o) e.0 ∙ sym (w.behind (g i)) ∙ ap (λ (b : Bool). add (g i) (cond b (g i) o)) (sym (ap (among js) e.1 ∙ h))
          ∙ ap (λ (b : Bool). add (cond b (g i) o) (those g js i)) (sym e.0))
      | inr e ↦ (
          ap (λ (b : Bool). cond (b || among js i) (g i) o) e ∙ sym (w.before (those g js i))
          ∙ ap (λ (b : Bool). add (cond b (g i) o) (those g js i)) (sym e))
    ]

    those-are : (g : ℕ → A) (n : ℕ) (js : List ℕ) → AreDistinct js → ((i : ℕ) → n ≤ i → g i ≡ o) → sums (those g js) (range_with_len 0 n) ≡ sums g js
    those-are g n [] d z = sums-none (those g []) (λ i. refl) (range_with_len 0 n)
    those-are g n (j ∷ js) d z =
        sums-same (those g (j ∷ js)) (λ i. add (only g j i) (those g js i)) (split g j js d.0) (range_with_len 0 n)
        ∙ sym (sums-both (only g j) (those g js) (range_with_len 0 n))
        ∙ ap (λ (x : A). add x (sums (those g js) (range_with_len 0 n))) (only-is g j n 0 (omega arith) (λ l. z j (omega (arith, l))))
        ∙ ap (λ (x : A). add (g j) x) (those-are g n js d.1 z)

    -- those of a list first, and then all others
    pub sums-ordered : (g : ℕ → A) (n : ℕ) (js : List ℕ) → AreDistinct js → ((i : ℕ) → n ≤ i → g i ≡ o)
        → add (sums g js) (sums g (filter (apart js) (range_with_len 0 n))) ≡ sums g (range_with_len 0 n)
    sums-ordered g n js d z =
        ap (λ (x : A). add x (sums g (filter (apart js) (range_with_len 0 n)))) (sym (those-are g n js d z))
        ∙ ap (λ (x : A). add (sums (those g js) (range_with_len 0 n)) x) (sums-filter g (apart js) (range_with_len 0 n))
        ∙ sums-both (those g js) (λ i. cond (apart js i) (g i) o) (range_with_len 0 n)
        ∙ sums-same (λ i. add (those g js i) (cond (apart js i) (g i) o)) g (λ i. whole (among js i) (g i)) (range_with_len 0 n)
      where
        whole : (b : Bool) (x : A) → add (cond b x o) (cond (cond b false true) x o) ≡ x
        whole true x = w.behind x
        whole false x = w.before x

-- ---- integers
pub integers : IsAddition (pos 0) ◌+ℤ◌
integers = record { before = λ a. omega (arith, ints); behind = λ a. omega (arith, ints); four = λ a b c d. omega (arith, ints) }

pub naturals : IsAddition 0 ◌+◌
naturals = record { before = λ a. omega arith; behind = λ a. omega arith; four = λ a b c d. omega arith }

abbrev pub products : List ℤ → List ℤ → ℕ → ℤ
products zs es q = number_at q zs *ℤ number_at q es

-- the sum of products, place by place
pub dot-sums : (zs es : List ℤ) (n : ℕ) → length es ≤ n → dot zs es ≡ sums (pos 0) ◌+ℤ◌ (products zs es) (range_with_len 0 n)
dot-sums [] es n h = sym (sums-none (pos 0) ◌+ℤ◌ integers (products [] es) (λ i. zero-*ℤ (number_at i es)) (range_with_len 0 n))
dot-sums (z ∷ zs) [] n h = sym (sums-none (pos 0) ◌+ℤ◌ integers (products (z ∷ zs) []) (λ i. *ℤ-zero (number_at i (z ∷ zs))) (range_with_len 0 n))
dot-sums (z ∷ zs) (x ∷ es) zero h = absurd (omega (arith, h))
dot-sums (z ∷ zs) (x ∷ es) (suc n) h =
    ap (λ (y : ℤ). z *ℤ x +ℤ y) (dot-sums zs es n (omega (arith, h)) ∙ sym (sums-shift (pos 0) ◌+ℤ◌ (products (z ∷ zs) (x ∷ es)) n 0))

-- ---- sizes
abbrev pub weights : List ℤ → (ℕ → ℕ) → ℕ → ℕ
weights zs size q = unsigned_abs (number_at q zs) * size q

sizes-shift : (size : ℕ → ℕ) (zs : List ℤ) (a : ℕ) → sizes_from size (suc a) zs ≡ sizes_from (λ i. size (suc i)) a zs
sizes-shift size [] a = refl
sizes-shift size (z ∷ zs) a =
    let e : suc a + 1 ≡ suc (a + 1) = omega arith in
    ap (λ (l : List ℕ). unsigned_abs z * size (suc a) ∷ l) (ap (λ (b : ℕ). sizes_from size b zs) e ∙ sizes-shift size zs (a + 1))

pub sizes-sums : (n : ℕ) (size : ℕ → ℕ) (zs : List ℤ) → sums 0 ◌+◌ (weights zs size) (range_with_len 0 n) ≤ total (sizes_from size 0 zs)
sizes-sums zero size zs = omega arith
sizes-sums (suc n) size [] =
    let e = sums-none 0 ◌+◌ naturals (weights [] size) (λ i. (let m : 0 * size i ≡ 0 = omega arith in m)) (range_with_len 0 (suc n)) in
    omega (arith, e)
sizes-sums (suc n) size (z ∷ zs) =
    let h = sizes-sums n (λ i. size (suc i)) zs in
    let e = sums-shift 0 ◌+◌ (weights (z ∷ zs) size) n 0 in
    let s = ap total (sizes-shift size zs 0) in
    omega (arith, h, e, s)
