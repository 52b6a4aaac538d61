-- The chosen reads as terms of a statement with 8 levels: their values, their ranks, and that they find their cells.
use Rattle.std.proofs.Common.{◌≡◌, ◌⊎◌, inl, inr, ℕ, zero, suc, ◌+◌, ◌<◌, ◌≤◌, List, [], ◌∷◌, ◌++◌, map, length, refl, sym, ◌∙◌, ap, subst, arith, ℤ, pos, Bool, true, false, append_assoc, length-append}
use Rattle.std.specs.Prelude.{Option, Some, None, slice_get, slice_index_or, is_some, nat_lt}
use Rattle.std.specs.List.{cons_option, filter_map, range_with_len}
use Rattle.std.proofs.lemmas.Bool.Decides.{nat_tests}
use Rattle.int_rows.specs.declared.row.Aff.{Aff}
use Rattle.nest_tree.specs.declared.kernel.Kernel.{Kernel}
use Rattle.nest_tree.specs.declared.kernel.Term.{Term}
use Rattle.nest_tree.specs.Forms.{value, coef, Names}
use Rattle.nest_tree.specs.Lists.{IsIn, IsAt}
use Rattle.nest_tree.specs.Loops.{Levels}
use Rattle.nest_tree.specs.Terms.{Input, or_zero, reading, term_values, IsFound, found}
use Rattle.nest_laws.specs.KernelLaws.{HaveSomeRanks}
use Rattle.nest_laws.proofs.Laws.{readings}
use Rattle.point_laws.specs.Own.{point_at, AreFound}
use Rattle.scan_forms.specs.declared.affine.Affine.{Affine}
use Rattle.scan_forms.specs.declared.reads.Read.{Read}
use Rattle.scan_forms.specs.Numbers.{number_at}
use Rattle.scanning.specs.Asked.{local_form, local_term, local_read}
use Rattle.scanning.specs.Named.{arguments}
use Rattle.scanning_laws.specs.Naming.{IsInnerOf, IsTable}
use Rattle.scanning_laws.specs.Valued.{form_value}
use Rattle.printed_laws.specs.Printed.{AreDistinct}
use Rattle.asked_laws.proofs.Along.{values, cell_of, IsFoundAt, value-at, found-at, found-there}
use Rattle.asked_laws.proofs.Chosen.{AreFoundAt}
use Rattle.asked_laws.proofs.Local.{filled, chosen_values, all_values, local-value, length-map, length-range}

-- ---- lists
at-in : {A : Type 0} (xs : List A) (n : ℕ) (x : A) → IsAt n x xs → IsIn x xs
at-in [] n x h = absurd h
at-in (y ∷ xs) zero x h = inl h
at-in (y ∷ xs) (suc n) x h = inr (at-in xs n x h)

at-map : {A B : Type 0} (F : A → B) (xs : List A) (n : ℕ) (y : B) → IsAt n y (map F xs) → (x : A) × IsAt n x xs × (y ≡ F x)
at-map F [] n y h = absurd h
at-map F (x ∷ xs) zero y h = (x, refl, h)
at-map F (x ∷ xs) (suc n) y h = at-map F xs n y h

to-map : {A B : Type 0} (F : A → B) (xs : List A) (n : ℕ) (x : A) → IsAt n x xs → IsAt n (F x) (map F xs)
to-map F [] n x h = absurd h
to-map F (y ∷ xs) zero x h = ap F h
to-map F (y ∷ xs) (suc n) x h = to-map F xs n x h

pub in-map : {A B : Type 0} (F : A → B) (xs : List A) (y : B) → IsIn y (map F xs) → (x : A) × IsIn x xs × (y ≡ F x)
in-map F [] y h = absurd h
in-map F (x ∷ xs) y (inl e) = (x, inl refl, e)
in-map F (x ∷ xs) y (inr h) = let r = in-map F xs y h in (r.0, inr r.1, r.2)

number-is : (ns : List ℕ) (a n : ℕ) → IsAt a n ns → slice_index_or ns a 0 ≡ n
number-is [] a n h = absurd h
number-is (m ∷ ns) zero n h = sym h
number-is (m ∷ ns) (suc a) n h = number-is ns a n h

some-place : (ns : List ℕ) (a : ℕ) → a < length ns → (n : ℕ) × IsAt a n ns
some-place [] a l = absurd (omega (arith, l))
some-place (m ∷ ns) zero l = (m, refl)
some-place (m ∷ ns) (suc a) l = some-place ns a (omega (arith, l))

coef-behind : (xs ys : List ℤ) (n j : ℕ) → n ≡ length xs + j → coef n (xs ++ ys) ≡ coef j ys
coef-behind [] ys n j e = (let s : n ≡ j = omega (arith, e) in ap (λ (m : ℕ). coef m ys) s)
coef-behind (x ∷ xs) ys zero j e = absurd (omega (arith, e))
coef-behind (x ∷ xs) ys (suc n) j e = coef-behind xs ys n j (omega (arith, e))

held-number : (g : ℕ → ℤ) (ns : List ℕ) (j : ℕ) → (coef j (map g ns) ≡ pos 0 → ⊥) → (l : ℕ) × IsAt j l ns × (g l ≡ pos 0 → ⊥)
held-number g [] j h = absurd (h refl)
held-number g (n ∷ ns) zero h = (n, refl, h)
held-number g (n ∷ ns) (suc j) h = held-number g ns j h

-- ---- how many of some numbers are less
abbrev one_if : Bool → ℕ
one_if true = 1
one_if false = 0

abbrev less_than : ℕ → List ℕ → ℕ
less_than j [] = 0
less_than j (n ∷ ns) = one_if (nat_lt n j) + less_than j ns

one-less : (n i j : ℕ) → i ≤ j → one_if (nat_lt n i) ≤ one_if (nat_lt n j)
one-less n i j l = by (nat_lt n i) (nat_lt n j) refl refl
  where
    by : (b c : Bool) → nat_lt n i ≡ b → nat_lt n j ≡ c → one_if b ≤ one_if c
    by true true e f = omega arith
    by true false e f = absurd (grind (arith, nat_tests, l, e, f))
    by false true e f = omega arith
    by false false e f = omega arith

less-grows : (ns : List ℕ) (i j : ℕ) → i ≤ j → less_than i ns ≤ less_than j ns
less-grows [] i j l = omega arith
less-grows (n ∷ ns) i j l = (let a = one-less n i j l in let b = less-grows ns i j l in omega (arith, a, b))

not-less : (n : ℕ) → nat_lt n n ≡ false
not-less n = grind (arith, nat_tests)

is-less : (n j : ℕ) → n < j → nat_lt n j ≡ true
is-less n j l = grind (arith, nat_tests, l)

less-strictly : (ns : List ℕ) (i j : ℕ) → IsIn i ns → i < j → less_than i ns < less_than j ns
less-strictly [] i j m l = absurd m
less-strictly (n ∷ ns) i j (inl e) l =
    let a : one_if (nat_lt n i) ≡ 0 = ap one_if (subst (λ (k : ℕ). nat_lt n k ≡ false) (sym e) (not-less n)) in
    let b : one_if (nat_lt n j) ≡ 1 = ap one_if (is-less n j (subst (λ (k : ℕ). k < j) e l)) in
    let c = less-grows ns i j (omega (arith, l)) in
    omega (arith, a, b, c)
less-strictly (n ∷ ns) i j (inr m) l = (let a = one-less n i j (omega (arith, l)) in let b = less-strictly ns i j m l in omega (arith, a, b))

less-all : (ns : List ℕ) (j : ℕ) → less_than j ns ≤ length ns
less-all [] j = omega arith
less-all (n ∷ ns) j = (let a = by (nat_lt n j) in let b = less-all ns j in omega (arith, a, b))
  where
    by : (b : Bool) → one_if b ≤ 1
    by true = omega arith
    by false = omega arith

less-some : (ns : List ℕ) (j : ℕ) → IsIn j ns → less_than j ns < length ns
less-some [] j m = absurd m
less-some (n ∷ ns) j (inl e) =
    let a : one_if (nat_lt n j) ≡ 0 = ap one_if (subst (λ (k : ℕ). nat_lt n k ≡ false) (sym e) (not-less n)) in
    let b = less-all ns j in
    omega (arith, a, b)
less-some (n ∷ ns) j (inr m) = (let a = by (nat_lt n j) in let b = less-some ns j m in omega (arith, a, b))
  where
    by : (b : Bool) → one_if b ≤ 1
    by true = omega arith
    by false = omega arith

less-none : (ns : List ℕ) → less_than 0 ns ≡ 0
less-none [] = refl
less-none (n ∷ ns) = (let a : one_if (nat_lt n 0) ≡ 0 = ap one_if (none n) in let b = less-none ns in omega (arith, a, b))
  where
    none : (n : ℕ) → nat_lt n 0 ≡ false
    none n = grind (arith, nat_tests)

-- ---- the terms
module _ (k : Kernel) (table : List Read) (i : Input) (e : Levels) (t : IsTable table) (ns : List ℕ) (count : length i.params ≡ length k.head.params) (few : length e ≤ 8) (once : AreDistinct ns)
    (all : AreFoundAt i e table t ns) (inner : (j l : ℕ) → IsIn j ns → IsInnerOf table l j → IsIn l ns) where
  abbrev pub or_read : Option Read → Read
  or_read (Some r) = r
  or_read None = record { array = []; at = [] }

  abbrev pub term_for : ℕ → Term
  term_for j = local_term k table ns (or_read (slice_get table j))

  abbrev pub terms : List Term
  terms = map term_for ns

  abbrev pub rs : List ℤ
  rs = values i e table t

  abbrev pub q : List ℤ
  q = all_values k table i e rs ns count few once

  pub are-terms : (ms : List ℕ) → ((j : ℕ) → IsIn j ms → IsFoundAt i e table t j) → filter_map (λ j. local_read k table ns (slice_get table j)) ms ≡ map term_for ms
  are-terms [] h = refl
  are-terms (j ∷ ms) h = one (slice_get table j) (found-there i e table t j (h j (inl refl))).1 (are-terms ms (λ l m. h l (inr m)))
    where
      one : (o : Option Read) → {r : Read} → o ≡ Some r → filter_map (λ j. local_read k table ns (slice_get table j)) ms ≡ map term_for ms
          → cons_option (local_read k table ns o) (filter_map (λ j. local_read k table ns (slice_get table j)) ms) ≡ local_term k table ns (or_read o) ∷ map term_for ms
      one (Some r) e h = ap (λ (l : List Term). local_term k table ns r ∷ l) h
      one None e h = absurd cc

  -- the read at a member, and its term
  record Reads (j : ℕ) : Type 0 where
    read : Read
    is : slice_get table j ≡ Some read
    term : term_for j ≡ local_term k table ns read

  reads : (j : ℕ) → IsIn j ns → Reads j
  reads j m = let f = found-there i e table t j (all j m) in record { read = f.0; is = f.1; term = ap (λ (o : Option Read). local_term k table ns (or_read o)) f.1 }

  holds-inner : (j : ℕ) (m : IsIn j ns) (r : Read) → slice_get table j ≡ Some r → (g : Affine) → IsIn g r.at → (l : ℕ) → (number_at l g.reads ≡ pos 0 → ⊥) → IsInnerOf table l j
  holds-inner j m r h g n l held = record { form = g; is_in = subst (λ (o : Option Read). IsIn g (arguments o)) (sym h) n; held = held }

  argument-value : (j : ℕ) (m : IsIn j ns) (r : Read) → slice_get table j ≡ Some r → (g : Affine) → IsIn g r.at → value q (local_form k table ns g) ≡ form_value i e rs g
  argument-value j m r h g n = local-value k table i e rs ns count few once g (λ l held. inner j l m (holds-inner j m r h g n l held))

  arguments-values : (j : ℕ) (m : IsIn j ns) (r : Read) → slice_get table j ≡ Some r → map (value q) (map (local_form k table ns) r.at) ≡ map (form_value i e rs) r.at
  arguments-values j m r h = both r.at (λ g n. argument-value j m r h g n)
    where
      both : (gs : List Affine) → ((g : Affine) → IsIn g gs → value q (local_form k table ns g) ≡ form_value i e rs g) → map (value q) (map (local_form k table ns) gs) ≡ map (form_value i e rs) gs
      both [] h = refl
      both (g ∷ gs) h = ap (λ (x : ℤ). x ∷ map (value q) (map (local_form k table ns) gs)) (h g (inl refl)) ∙ ap (λ (l : List ℤ). form_value i e rs g ∷ l) (both gs (λ x n. h x (inr n)))

  cell-is : (j : ℕ) (m : IsIn j ns) (r : Reads j) → i.cells (term_for j).array (map (value q) (term_for j).at) ≡ cell_of i e rs r.read
  cell-is j m r = ap (λ (u : Term). i.cells u.array (map (value q) u.at)) r.term ∙ ap (i.cells (r.read).array) (arguments-values j m r.read r.is)

  values-read : (ms : List ℕ) → ((j : ℕ) → IsIn j ms → IsIn j ns) → chosen_values rs ms ≡ map (reading i q) (map term_for ms)
  values-read [] h = refl
  values-read (j ∷ ms) h =
      let m : IsIn j ns = h j (inl refl) in
      let r = reads j m in
      ap (λ (x : ℤ). x ∷ chosen_values rs ms) (value-at i e table t j r.read r.is ∙ ap or_zero (sym (cell-is j m r))) ∙ ap (λ (l : List ℤ). reading i q (term_for j) ∷ l) (values-read ms (λ l n. h l (inr n)))

  -- ---- ranks
  width-is : length k.head.params + 8 ≡ length (i.params ++ filled e)
  width-is = (let a = length-append i.params (filled e) in omega (arith, a, count))

  pub form-wide : (g : Affine) → length (local_form k table ns g).coefs ≡ length k.head.params + 8 + length ns
  form-wide g =
      let a = length-map (λ p. number_at p g.params) (range_with_len 0 (length k.head.params)) in
      let b = length-range 0 (length k.head.params) in
      let c = length-map (λ j. number_at j g.reads) ns in
      let d = length-append (map (λ p. number_at p g.params) (range_with_len 0 (length k.head.params)) ++ map (λ l. number_at l g.levels) (range_with_len 0 8)) (map (λ j. number_at j g.reads) ns) in
      let f = length-append (map (λ p. number_at p g.params) (range_with_len 0 (length k.head.params))) (map (λ l. number_at l g.levels) (range_with_len 0 8)) in
      let m : length (map (λ l. number_at l g.levels) (range_with_len 0 8)) ≡ 8 = refl in
      omega (arith, a, b, c, d, f, m)

  -- a term that an argument names
  record Named (j : ℕ) (n : ℕ) : Type 0 where
    inside : ℕ
    at : IsAt j inside ns
    less : inside < n
    is_in : IsIn inside ns

  named : (a n : ℕ) (u : Term) (f : Aff) (j : ℕ) → IsAt a n ns → u ≡ term_for n → IsIn f u.at → Names f (length k.head.params + 8 + j) → Named j n
  named a n u f j at is m held =
      let r = reads n (at-in ns a n at) in
      let g = in-map (local_form k table ns) (r.read).at f (subst (λ (w : Term). IsIn f w.at) (is ∙ r.term) m) in
      let front : List ℤ = map (λ p. number_at p (g.0).params) (range_with_len 0 (length k.head.params)) in
      let levels : List ℤ = map (λ l. number_at l (g.0).levels) (range_with_len 0 8) in
      let x = length-map (λ p. number_at p (g.0).params) (range_with_len 0 (length k.head.params)) in
      let y = length-range 0 (length k.head.params) in
      let last : coef (length k.head.params + 8 + j) (local_form k table ns g.0).coefs ≡ coef j (map (λ j. number_at j (g.0).reads) ns) =
      coef-behind (front ++ levels) (map (λ j. number_at j (g.0).reads) ns) (length k.head.params + 8 + j) j (let z = length-append front levels in let m : length levels ≡ 8 = refl in omega (arith, x, y, z, m)) in
      let l = held-number (λ j. number_at j (g.0).reads) ns j (λ z. held (ap (λ (w : Aff). coef (length k.head.params + 8 + j) w.coefs) g.2 ∙ last ∙ z)) in
      let inner_of : IsInnerOf table l.0 n = holds-inner n (at-in ns a n at) r.read r.is g.0 g.1 l.0 l.2 in
      record { inside = l.0; at = l.1; less = t l.0 n inner_of; is_in = inner n l.0 (at-in ns a n at) inner_of }

  pub ranks : HaveSomeRanks (length k.head.params + 8) terms
  ranks = by ns refl
    where
      by : (ms : List ℕ) → ns ≡ ms → HaveSomeRanks (length k.head.params + 8) terms
      by [] h = inl (ap (λ (l : List ℕ). length (map term_for l)) h)
      by (m ∷ ms) h = inr (
        (λ a. less_than (slice_index_or ns a 0) ns),
        record {
          bounded = λ a. (let c = length-map term_for ns in let s = ap length h in let b = below a in omega (arith, b, c));
          above = λ a u f j at is_in names. (
              let n = at-map term_for ns a u at in
              let d = named a n.0 u f j n.1 n.2 is_in names in
              let x = number-is ns j d.inside d.at in
              let y = number-is ns a n.0 n.1 in
              let z = less-strictly ns d.inside n.0 d.is_in d.less in
              let v : less_than (slice_index_or ns j 0) ns ≡ less_than d.inside ns = ap (λ (w : ℕ). less_than w ns) x in
              let o : less_than (slice_index_or ns a 0) ns ≡ less_than n.0 ns = ap (λ (w : ℕ). less_than w ns) y in
              omega (arith, v, o, z));
        },
      )
        where
          some : 0 < length ns
          some = (let s = ap length h in omega (arith, s))

          there : (ls : List ℕ) (a : ℕ) → IsIn (slice_index_or ls a 0) ls ⊎ (slice_index_or ls a 0 ≡ 0)
          there [] a = inr refl
          there (l ∷ ls) zero = inl (inl refl)
          there (l ∷ ls) (suc a) = elim (there ls a) [ inl n ↦ inl (inr n) | inr z ↦ inr z ]

          below : (a : ℕ) → less_than (slice_index_or ns a 0) ns < length ns
          below a = elim (there ns a) [
            | inl n ↦ less-some ns (slice_index_or ns a 0) n
            | inr z ↦ (let v : less_than (slice_index_or ns a 0) ns ≡ 0 = ap (λ (w : ℕ). less_than w ns) z ∙ less-none ns in omega (arith, v, some))
          ]

  -- so the terms have the values of the reads
  values-are : term_values i terms (i.params ++ filled e) ≡ chosen_values rs ns
  values-are =
      let w : HaveSomeRanks (length (i.params ++ filled e)) terms = subst (λ (n : ℕ). HaveSomeRanks n terms) width-is ranks in
      let same : (i.params ++ filled e) ++ chosen_values rs ns ≡ q = append_assoc i.params (filled e) (chosen_values rs ns) in
      sym ((readings i terms (i.params ++ filled e) w).1 (chosen_values rs ns) (values-read ns (λ j m. m) ∙ ap (λ (p : List ℤ). map (reading i p) terms) (sym same)))

  pub point-is : point_at i terms (filled e) ≡ q
  point-is = ap (λ (l : List ℤ). i.params ++ (filled e ++ l)) values-are

  -- ---- cells
  some-is : (o : Option ℤ) → is_some o ≡ true → (v : ℤ) × (o ≡ Some v)
  some-is (Some v) h = (v, refl)
  some-is None h = absurd cc

  found-below : (b n : ℕ) → n < b → (a : ℕ) → IsAt a n ns → IsFound i (length k.head.params + 8) terms q a
  found-below zero n l a at = absurd (omega (arith, l))
  found-below (suc b) n l a at =
      let m : IsIn n ns = at-in ns a n at in
      let r = reads n m in
      let v = some-is (cell_of i e rs r.read) (found-at i e table t n r.read r.is (all n m)).0 in
      found a (term_for n) v.0 (to-map term_for ns a n at) (cell-is n m r ∙ v.1) (λ f j is_in names. (
      let d = named a n (term_for n) f j at refl is_in names in
      found-below b d.inside (let x = d.less in omega (arith, x, l)) j d.at))

  pub are-found : AreFound i terms (filled e)
  are-found a l =
      let c = length-map term_for ns in
      let n = some-place ns a (omega (arith, l, c)) in
      let w : length k.head.params + 8 ≡ length i.params + length (filled e) = omega (arith, count) in
      subst (λ (p : List ℤ). IsFound i (length i.params + length (filled e)) terms p a) (sym point-is)
      (subst (λ (x : ℕ). IsFound i x terms q a) w (found-below (suc n.0) n.0 (omega arith) a n.1))
