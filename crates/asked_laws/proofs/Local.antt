-- A form over parameters, 8 levels and chosen reads has the value that it has over the table.
use Rattle.std.proofs.Common.{◌≡◌, inl, inr, ℕ, zero, suc, ◌+◌, ◌≤◌, List, [], ◌∷◌, ◌++◌, map, length, refl, sym, ◌∙◌, ap, arith, ℤ, pos, ◌+ℤ◌, ◌*ℤ◌, Bool, true, false, cond, nat_eq, ◌||◌, append_assoc}
use Rattle.std.specs.List.{range_with_len, filter, list_any}
use Rattle.std.proofs.lemmas.Int.{ints}
use Rattle.std.proofs.lemmas.Bool.Decides.{nat_tests}
use Rattle.int_rows.specs.Rows.{dot}
use Rattle.nest_tree.specs.declared.kernel.Kernel.{Kernel}
use Rattle.nest_tree.specs.Forms.{value}
use Rattle.nest_tree.specs.Lists.{IsIn}
use Rattle.nest_tree.specs.Loops.{Levels}
use Rattle.nest_tree.specs.Terms.{Input}
use Rattle.scan_forms.specs.declared.affine.Affine.{Affine}
use Rattle.scan_forms.specs.declared.reads.Read.{Read}
use Rattle.scan_forms.specs.Numbers.{number_at}
use Rattle.scanning.specs.Asked.{local_form}
use Rattle.scanning_laws.specs.Valued.{form_value}
use Rattle.printed_laws.specs.Printed.{AreDistinct}
use Rattle.printed_laws.proofs.Forms.{held_or_not}
use Rattle.printed_laws.proofs.Sums.{sums, sums-none, sums-filter, sums-ordered, products, integers, dot-sums, among, apart}

-- ---- lists of numbers by their places
map-shift : (f : ℕ → ℤ) (n a : ℕ) → map f (range_with_len (suc a) n) ≡ map (λ i. f (suc i)) (range_with_len a n)
map-shift f zero a = refl
map-shift f (suc n) a =
    let e : suc a + 1 ≡ suc (a + 1) = omega arith in
    ap (λ (l : List ℤ). f (suc a) ∷ l) (ap (λ (b : ℕ). map f (range_with_len b n)) e ∙ map-shift f n (a + 1))

numbers-are : (xs : List ℤ) → xs ≡ map (λ p. number_at p xs) (range_with_len 0 (length xs))
numbers-are [] = refl
numbers-are (x ∷ xs) = ap (λ (l : List ℤ). x ∷ l) (numbers-are xs ∙ sym (map-shift (λ p. number_at p (x ∷ xs)) (length xs) 0))

dot-map : (g h : ℕ → ℤ) (is : List ℕ) → dot (map g is) (map h is) ≡ sums (pos 0) ◌+ℤ◌ (λ i. g i *ℤ h i) is
dot-map g h [] = refl
dot-map g h (i ∷ is) = ap (λ (x : ℤ). g i *ℤ h i +ℤ x) (dot-map g h is)

dot-two : (zs xs bs ys : List ℤ) → length zs ≡ length xs → dot (zs ++ bs) (xs ++ ys) ≡ dot zs xs +ℤ dot bs ys
dot-two [] [] bs ys l = nothing (dot bs ys)
  where
    nothing : (d : ℤ) → d ≡ pos 0 +ℤ d
    nothing d = omega (arith, ints)
dot-two [] (x ∷ xs) bs ys l = absurd (omega (arith, l))
dot-two (z ∷ zs) [] bs ys l = absurd (omega (arith, l))
dot-two (z ∷ zs) (x ∷ xs) bs ys l = joined (z *ℤ x) (dot (zs ++ bs) (xs ++ ys)) (dot zs xs) (dot bs ys) (dot-two zs xs bs ys (omega (arith, l)))
  where
    joined : (p q s t : ℤ) → q ≡ s +ℤ t → p +ℤ q ≡ (p +ℤ s) +ℤ t
    joined p q s t h = omega (arith, ints, h)

pub length-map : {A B : Type 0} (f : A → B) (xs : List A) → length (map f xs) ≡ length xs
length-map f [] = refl
length-map f (x ∷ xs) = ap suc (length-map f xs)

pub length-range : (a n : ℕ) → length (range_with_len a n) ≡ n
length-range a zero = refl
length-range a (suc n) = ap suc (length-range (a + 1) n)

among-in : (ns : List ℕ) (i : ℕ) → IsIn i ns → among ns i ≡ true
among-in [] i m = absurd m
among-in (n ∷ ns) i (inl e) = ap (λ (b : Bool). b || list_any (nat_eq i) ns) (same i n e)
  where
    same : (i n : ℕ) → i ≡ n → nat_eq i n ≡ true
    same i n e = grind (arith, nat_tests, e)
among-in (n ∷ ns) i (inr m) = more (nat_eq i n) (among-in ns i m)
  where
    more : (b : Bool) → list_any (nat_eq i) ns ≡ true → (b || list_any (nat_eq i) ns) ≡ true
    more true h = refl
    more false h = h

-- ---- the values of the variables
-- level values filled up with zeros to 8
abbrev pub filled : Levels → List ℤ
filled e = map (λ l. number_at l e) (range_with_len 0 8)

abbrev pub chosen_values : List ℤ → List ℕ → List ℤ
chosen_values rs ns = map (λ j. number_at j rs) ns

module _ (k : Kernel) (table : List Read) (i : Input) (e : Levels) (rs : List ℤ) (ns : List ℕ) (count : length i.params ≡ length k.head.params) (few : length e ≤ 8) (once : AreDistinct ns) where
  abbrev pub all_values : List ℤ
  all_values = i.params ++ (filled e ++ chosen_values rs ns)

  reads-are : (f : Affine) → ((j : ℕ) → (number_at j f.reads ≡ pos 0 → ⊥) → IsIn j ns) → dot (map (λ j. number_at j f.reads) ns) (chosen_values rs ns) ≡ dot f.reads rs
  reads-are f has =
      let g : ℕ → ℤ = products f.reads rs in
      let n : ℕ = length rs in
      let past : (j : ℕ) → n ≤ j → g j ≡ pos 0 = λ j l. ap (λ (y : ℤ). number_at j f.reads *ℤ y) (number-past rs j l) ∙ times-nothing (number_at j f.reads) in
      let others : sums (pos 0) ◌+ℤ◌ g (filter (apart ns) (range_with_len 0 n)) ≡ pos 0 =
      sums-filter (pos 0) ◌+ℤ◌ integers g (apart ns) (range_with_len 0 n) ∙ sums-none (pos 0) ◌+ℤ◌ integers (λ j. cond (apart ns j) (g j) (pos 0)) apart-none (range_with_len 0 n) in
      let whole = sums-ordered (pos 0) ◌+ℤ◌ integers g n ns once past in
      dot-map (λ j. number_at j f.reads) (λ j. number_at j rs) ns
      ∙ join (sums (pos 0) ◌+ℤ◌ g ns) (sums (pos 0) ◌+ℤ◌ g (filter (apart ns) (range_with_len 0 n))) (sums (pos 0) ◌+ℤ◌ g (range_with_len 0 n)) others whole
      ∙ sym (dot-sums f.reads rs n (omega arith))
    where
      number-past : (xs : List ℤ) (j : ℕ) → length xs ≤ j → number_at j xs ≡ pos 0
      number-past [] j l = refl
      number-past (x ∷ xs) zero l = absurd (omega (arith, l))
      number-past (x ∷ xs) (suc j) l = number-past xs j (omega (arith, l))

      times-nothing : (x : ℤ) → x *ℤ pos 0 ≡ pos 0
      times-nothing x = omega (arith, ints)

      nothing-times : (x : ℤ) → pos 0 *ℤ x ≡ pos 0
      nothing-times x = omega (arith, ints)

      join : (a b c : ℤ) → b ≡ pos 0 → a +ℤ b ≡ c → a ≡ c
      join a b c z h = omega (arith, ints, z, h)

      apart-none : (j : ℕ) → cond (apart ns j) (products f.reads rs j) (pos 0) ≡ pos 0
      apart-none j = elim (held_or_not (number_at j f.reads)) [
        | inl z ↦ by (apart ns j) (ap (λ (y : ℤ). y *ℤ number_at j rs) z ∙ nothing-times (number_at j rs))
        | inr h ↦ (let a : among ns j ≡ true = among-in ns j (has j h) in ap (λ (b : Bool). cond (cond b false true) (products f.reads rs j) (pos 0)) a)
      ]
        where
          by : (b : Bool) → products f.reads rs j ≡ pos 0 → cond b (products f.reads rs j) (pos 0) ≡ pos 0
          by true z = z
          by false z = refl

  params-are : (f : Affine) → dot (map (λ p. number_at p f.params) (range_with_len 0 (length k.head.params))) i.params ≡ dot f.params i.params
  params-are f =
      let n : ℕ = length k.head.params in
      let xs : i.params ≡ map (λ p. number_at p i.params) (range_with_len 0 n) = numbers-are i.params ∙ ap (λ (m : ℕ). map (λ p. number_at p i.params) (range_with_len 0 m)) count in
      ap (dot (map (λ p. number_at p f.params) (range_with_len 0 n))) xs ∙ dot-map (λ p. number_at p f.params) (λ p. number_at p i.params) (range_with_len 0 n)
      ∙ sym (dot-sums f.params i.params n (omega (arith, count)))

  levels-are : (f : Affine) → dot (map (λ l. number_at l f.levels) (range_with_len 0 8)) (filled e) ≡ dot f.levels e
  levels-are f = dot-map (λ l. number_at l f.levels) (λ l. number_at l e) (range_with_len 0 8) ∙ sym (dot-sums f.levels e 8 few)

  pub local-value : (f : Affine) → ((j : ℕ) → (number_at j f.reads ≡ pos 0 → ⊥) → IsIn j ns) → value all_values (local_form k table ns f) ≡ form_value i e rs f
  local-value f has =
      let params : List ℤ = map (λ p. number_at p f.params) (range_with_len 0 (length k.head.params)) in
      let levels : List ℤ = map (λ l. number_at l f.levels) (range_with_len 0 8) in
      let reads : List ℤ = map (λ j. number_at j f.reads) ns in
      let a = length-map (λ p. number_at p f.params) (range_with_len 0 (length k.head.params)) in
      let b = length-range 0 (length k.head.params) in
      let same : dot ((params ++ levels) ++ reads) all_values ≡ dot (params ++ (levels ++ reads)) all_values = ap (λ (l : List ℤ). dot l all_values) (append_assoc params levels reads) in
      let one = dot-two params i.params (levels ++ reads) (filled e ++ chosen_values rs ns) (omega (arith, a, b, count)) in
      let two = dot-two levels (filled e) reads (chosen_values rs ns) refl in
      ap (λ (x : ℤ). x +ℤ f.constant) same ∙ whole (dot (params ++ (levels ++ reads)) all_values) (dot params i.params) (dot (levels ++ reads) (filled e ++ chosen_values rs ns)) (dot levels (filled e)) (dot reads (chosen_values rs ns))
      (dot f.params i.params) (dot f.levels e) (dot f.reads rs) f.constant one two (params-are f) (levels-are f) (reads-are f has)
    where
      whole : (d p r l m p' l' m' c : ℤ) → d ≡ p +ℤ r → r ≡ l +ℤ m → p ≡ p' → l ≡ l' → m ≡ m' → d +ℤ c ≡ p' +ℤ (l' +ℤ (m' +ℤ c))
      whole d p r l m p' l' m' c a b x y z = omega (arith, ints, a, b, x, y, z)
