-- What stands around, as rows, and what is judged inside.
use Rattle.std.proofs.Common.{◌≡◌, ℕ, suc, ◌+◌, Bool, true, false, List, [], ◌∷◌, ◌++◌, map, length, refl, sym, ◌∙◌, ap, subst, arith, ℤ, pos, negsuc, ◌+ℤ◌, ◌*ℤ◌, ◌≤ℤ◌, ◌<ℤ◌, max, Ok, Err, Some, None}
use Rattle.std.specs.Prelude.{Option, Result}
use Rattle.std.specs.Int.{int_min, int_max}
use Rattle.std.specs.List.{AllByRecursion}
use Rattle.std.proofs.lemmas.Int.{ints}
use Rattle.int_rows.specs.declared.row.Aff.{Aff}
use Rattle.int_rows.specs.declared.row.Row.{Row}
use Rattle.int_rows.specs.declared.row.Excess.{Excess}
use Rattle.int_rows.specs.Rows.{dot, Holds}
use Rattle.int_rows.specs.Systems.{Rows, pushed, excluded}
use Rattle.int_rows.specs.Exclusion.{when_left}
use Rattle.c_tree.specs.declared.statement.Cmp.{Cmp}
use Rattle.c_tree.specs.declared.statement.Cmp.TheVariants.{Less, AtMost, More, AtLeast, Same}
use Rattle.c_meaning.specs.Names.{Name}
use Rattle.c_meaning.specs.Value.{Sight, compares}
use Rattle.nest_tree.specs.declared.kernel.KernelRow.{KernelRow}
use Rattle.nest_tree.specs.Forms.{value, less, zeros, variable}
use Rattle.nest_tree.specs.Forms as forms
use Rattle.nest_laws.specs.Weights as has
use Rattle.nest_laws.proofs.Forms.{value-less}
use Rattle.acceptance.specs.Affine.{lowers, uppers}
use Rattle.acceptance.specs.Around.{loop_names}
use Rattle.acceptance.specs.Expressions.{Expression, number, name, one, two, three, negated, plus, minus, times, lesser, greater, floor, ceil, plain}
use Rattle.acceptance.specs.Forms.{Vars, form}
use Rattle.acceptance.specs.Rows.{at_least_zero, one_less, is_same, test_form, rows_in}
use Rattle.acceptance.specs.Sizes.{Size}
use Rattle.acceptance.specs.Visits.{Passed, looped, tested}
use Rattle.acceptance_laws.specs.Formed.{point, read_value}
use Rattle.acceptance_laws.specs.Rows.{IsOperand, IsAtMost, IsAbove, LowerValue, UpperValue, BoundsHaveValues, IsWithin, IsMet, RowsSayWithin}
use Rattle.acceptance_laws.proofs.Formed.{all-left, all-right}

-- ## Bounds

pub all-both : {A : Type 0} (P : A → Type 0) (xs ys : List A) → AllByRecursion P xs → AllByRecursion P ys → AllByRecursion P (xs ++ ys)
all-both P [] ys h k = k
all-both P (x ∷ xs) ys h k = (h.0, all-both P xs ys h.1 k)

module _ (sizes : List Size) (s : Sight) (v : Vars) where
  lower_one : (e : Expression) → lowers e ≡ e ∷ [] → AllByRecursion (IsOperand sizes s v) (lowers e) → LowerValue sizes s v e
  lower_one e l h =
      let k = subst (λ (os : List Expression). AllByRecursion (IsOperand sizes s v) os) l h in
      record {
        bound = value (point s v) (form e v);
        has = k.0;
        each = λ x m. subst (λ (os : List Expression). AllByRecursion (IsAtMost s v x) os) (sym l) (m, tt);
        all = λ x m. (subst (λ (os : List Expression). AllByRecursion (IsAtMost s v x) os) l m).0;
      }

  lower : (e : Expression) → AllByRecursion (IsOperand sizes s v) (lowers e) → LowerValue sizes s v e
  lower (greater e f) h =
      let a = lower e (all-left _ (lowers e) (lowers f) h) in
      let b = lower f (all-right _ (lowers e) (lowers f) h) in
      record {
        bound = int_max a.bound b.bound;
        has = has.greater _ _ _ _ _ _ a.has b.has;
        each = λ x m. all-both _ (lowers e) (lowers f) (a.each x (grind (arith, ints, m))) (b.each x (grind (arith, ints, m)));
        all = λ x m. let p = a.all x (all-left _ (lowers e) (lowers f) m) in let q = b.all x (all-right _ (lowers e) (lowers f) m) in grind (arith, ints, p, q);
      }
  lower (number n) h = lower_one (number n) refl h
  lower (name x) h = lower_one (name x) refl h
  lower (one b e) h = lower_one (one b e) refl h
  lower (two b e f) h = lower_one (two b e f) refl h
  lower (three b e f g) h = lower_one (three b e f g) refl h
  lower (negated e) h = lower_one (negated e) refl h
  lower (plus e f) h = lower_one (plus e f) refl h
  lower (minus e f) h = lower_one (minus e f) refl h
  lower (times n e) h = lower_one (times n e) refl h
  lower (lesser e f) h = lower_one (lesser e f) refl h
  lower (floor e d) h = lower_one (floor e d) refl h
  lower (ceil e d) h = lower_one (ceil e d) refl h

  upper_one : (e : Expression) → uppers e ≡ e ∷ [] → AllByRecursion (IsOperand sizes s v) (uppers e) → UpperValue sizes s v e
  upper_one e l h =
      let k = subst (λ (os : List Expression). AllByRecursion (IsOperand sizes s v) os) l h in
      record {
        bound = value (point s v) (form e v);
        has = k.0;
        each = λ x m. subst (λ (os : List Expression). AllByRecursion (IsAbove s v x) os) (sym l) (m, tt);
        all = λ x m. (subst (λ (os : List Expression). AllByRecursion (IsAbove s v x) os) l m).0;
      }

  upper : (e : Expression) → AllByRecursion (IsOperand sizes s v) (uppers e) → UpperValue sizes s v e
  upper (lesser e f) h =
      let a = upper e (all-left _ (uppers e) (uppers f) h) in
      let b = upper f (all-right _ (uppers e) (uppers f) h) in
      record {
        bound = int_min a.bound b.bound;
        has = has.lesser _ _ _ _ _ _ a.has b.has;
        each = λ x m. all-both _ (uppers e) (uppers f) (a.each x (grind (arith, ints, m))) (b.each x (grind (arith, ints, m)));
        all = λ x m. let p = a.all x (all-left _ (uppers e) (uppers f) m) in let q = b.all x (all-right _ (uppers e) (uppers f) m) in grind (arith, ints, p, q);
      }
  upper (number n) h = upper_one (number n) refl h
  upper (name x) h = upper_one (name x) refl h
  upper (one b e) h = upper_one (one b e) refl h
  upper (two b e f) h = upper_one (two b e f) refl h
  upper (three b e f g) h = upper_one (three b e f g) refl h
  upper (negated e) h = upper_one (negated e) refl h
  upper (plus e f) h = upper_one (plus e f) refl h
  upper (minus e f) h = upper_one (minus e f) refl h
  upper (times n e) h = upper_one (times n e) refl h
  upper (greater e f) h = upper_one (greater e f) refl h
  upper (floor e d) h = upper_one (floor e d) refl h
  upper (ceil e d) h = upper_one (ceil e d) refl h

pub bounds_values : BoundsHaveValues
bounds_values sizes s v e = (lower sizes s v e, upper sizes s v e)

-- ## Rows

dot-at : (f : Name → ℤ) (front rest : List Name) (qs : List ℤ) (x : Name) → dot (zeros (length front) (pos 1 ∷ [])) (map f (front ++ x ∷ rest) ++ qs) ≡ f x
dot-at f [] rest qs x = omega (arith, ints)
dot-at f (a ∷ front) rest qs x = let k = dot-at f front rest qs x in omega (arith, ints, k)

one_more : (ps : List Name) (x : Name) (zs : List Name) → ps ++ (x ∷ zs) ≡ (ps ++ (x ∷ [])) ++ zs
one_more [] x zs = refl
one_more (p ∷ ps) x zs = ap (λ (ns : List Name). p ∷ ns) (one_more ps x zs)

length-more : (ps : List Name) (x : Name) → length (ps ++ x ∷ []) ≡ suc (length ps)
length-more [] x = refl
length-more (p ∷ ps) x = ap suc (length-more ps x)

all-map : {A B : Type 0} (P : B → Type 0) (Q : A → Type 0) (f : A → B) → ((x : A) → Q x → P (f x)) → (xs : List A) → AllByRecursion Q xs → AllByRecursion P (map f xs)
all-map P Q f g [] h = tt
all-map P Q f g (x ∷ xs) h = (g x h.0, all-map P Q f g xs h.1)

map-all : {A B : Type 0} (P : B → Type 0) (Q : A → Type 0) (f : A → B) → ((x : A) → P (f x) → Q x) → (xs : List A) → AllByRecursion P (map f xs) → AllByRecursion Q xs
map-all P Q f g [] h = tt
map-all P Q f g (x ∷ xs) h = (g x h.0, map-all P Q f g xs h.1)

module _ (q : List ℤ) where
  test_says : (c : Cmp) (a b : Aff) → Holds (is_same c) (value q (test_form c a b)) → compares c (value q a) (value q b) ≡ true
  test_says Less a b h = let k = value-less q (less b a) (forms.number (pos 1)) in let l = value-less q b a in let m : value q a <ℤ value q b = omega (arith, ints, h, k, l) in grind (arith, ints, m)
  test_says AtMost a b h = let l = value-less q b a in let m : value q a ≤ℤ value q b = omega (arith, ints, h, l) in grind (arith, ints, m)
  test_says More a b h = let k = value-less q (less a b) (forms.number (pos 1)) in let l = value-less q a b in let m : value q b <ℤ value q a = omega (arith, ints, h, k, l) in grind (arith, ints, m)
  test_says AtLeast a b h = let l = value-less q a b in let m : value q b ≤ℤ value q a = omega (arith, ints, h, l) in grind (arith, ints, m)
  test_says Same a b h = let l = value-less q a b in let m : value q a ≡ value q b = omega (arith, ints, h, l) in grind (arith, ints, m)

  says_test : (c : Cmp) (a b : Aff) → compares c (value q a) (value q b) ≡ true → Holds (is_same c) (value q (test_form c a b))
  says_test Less a b h = let k = value-less q (less b a) (forms.number (pos 1)) in let l = value-less q b a in let m : value q a <ℤ value q b = grind (arith, ints, h) in omega (arith, ints, m, k, l)
  says_test AtMost a b h = let l = value-less q b a in let m : value q a ≤ℤ value q b = grind (arith, ints, h) in omega (arith, ints, m, l)
  says_test More a b h = let k = value-less q (less a b) (forms.number (pos 1)) in let l = value-less q a b in let m : value q b <ℤ value q a = grind (arith, ints, h) in omega (arith, ints, m, k, l)
  says_test AtLeast a b h = let l = value-less q a b in let m : value q b ≤ℤ value q a = grind (arith, ints, h) in omega (arith, ints, m, l)
  says_test Same a b h = let l = value-less q a b in let m : value q a ≡ value q b = grind (arith, ints, h) in omega (arith, ints, m, l)

module _ (params : ℕ) (s : Sight) (v : Vars) where
  variable-is : (front rest : List Name) (x : Name) (k : ℕ) → length front ≡ k → v.names ≡ front ++ x ∷ rest → value (point s v) (variable k) ≡ s.value x
  variable-is front rest x k l h =
      let d : dot (zeros k (pos 1 ∷ [])) (point s v) ≡ s.value x =
      ap (λ (j : ℕ). dot (zeros j (pos 1 ∷ [])) (point s v)) (sym l)
      ∙ ap (λ (ns : List Name). dot (zeros (length front) (pos 1 ∷ [])) (map s.value ns ++ map (read_value s v.names) v.reads)) h
      ∙ dot-at s.value front rest _ x in
      omega (arith, ints, d)

  low_to : (k : ℕ) (x : ℤ) (o : Expression) (own : ℕ) → value (point s v) (variable k) ≡ x → IsMet s v (at_least_zero own (less (variable k) (form o v))) → IsAtMost s v x o
  low_to k x o own h m = let l = value-less (point s v) (variable k) (form o v) in omega (arith, ints, h, m, l)

  to_low : (k : ℕ) (x : ℤ) (o : Expression) (own : ℕ) → value (point s v) (variable k) ≡ x → IsAtMost s v x o → IsMet s v (at_least_zero own (less (variable k) (form o v)))
  to_low k x o own h m = let l = value-less (point s v) (variable k) (form o v) in omega (arith, ints, h, m, l)

  high_to : (k : ℕ) (x : ℤ) (o : Expression) (own : ℕ) → value (point s v) (variable k) ≡ x → IsMet s v (at_least_zero own (one_less (less (form o v) (variable k)))) → IsAbove s v x o
  high_to k x o own h m = let l = value-less (point s v) (form o v) (variable k) in let n = value-less (point s v) (less (form o v) (variable k)) (forms.number (pos 1)) in omega (arith, ints, h, m, l, n)

  to_high : (k : ℕ) (x : ℤ) (o : Expression) (own : ℕ) → value (point s v) (variable k) ≡ x → IsAbove s v x o → IsMet s v (at_least_zero own (one_less (less (form o v) (variable k))))
  to_high k x o own h m = let l = value-less (point s v) (form o v) (variable k) in let n = value-less (point s v) (less (form o v) (variable k)) (forms.number (pos 1)) in omega (arith, ints, h, m, l, n)

  rows_to : (levels : ℕ) (front inner : List Name) (ps : List Passed) → length front ≡ params + levels → v.names ≡ front ++ (loop_names ps ++ inner) → AllByRecursion (IsMet s v) (rows_in params v levels ps) → AllByRecursion (IsWithin s v) ps
  rows_to levels front inner [] l h m = tt
  rows_to levels front inner (looped x low high ∷ ps) l h m =
      let k = params + levels in
      let lows = map (λ o. at_least_zero (suc levels) (less (variable (params + levels)) (form o v))) (lowers (plain low)) in
      let highs = map (λ o. at_least_zero (suc levels) (one_less (less (form o v) (variable (params + levels))))) (uppers (plain high)) in
      let rest = rows_in params v (suc levels) ps in
      let d = variable-is front (loop_names ps ++ inner) x (params + levels) l h in
      let more = length-more front x in (
        (
          map-all _ (IsAtMost s v (s.value x)) _ (λ o n. low_to (params + levels) (s.value x) o (suc levels) d n) (lowers (plain low)) (all-left (IsMet s v) lows (highs ++ rest) m),
          map-all _ (IsAbove s v (s.value x)) _ (λ o n. high_to (params + levels) (s.value x) o (suc levels) d n) (uppers (plain high)) (all-left (IsMet s v) highs rest (all-right (IsMet s v) lows (highs ++ rest) m)),
        ),
        rows_to (suc levels) (front ++ x ∷ []) inner ps (omega (arith, more, l)) (h ∙ one_more front x (loop_names ps ++ inner)) (all-right (IsMet s v) highs rest (all-right (IsMet s v) lows (highs ++ rest) m)),
      )
  rows_to levels front inner (tested t ∷ ps) l h m = (test_says (point s v) t.cmp (form (plain t.left) v) (form (plain t.right) v) m.0, rows_to levels front inner ps l h m.1)

  to_rows : (levels : ℕ) (front inner : List Name) (ps : List Passed) → length front ≡ params + levels → v.names ≡ front ++ (loop_names ps ++ inner) → AllByRecursion (IsWithin s v) ps → AllByRecursion (IsMet s v) (rows_in params v levels ps)
  to_rows levels front inner [] l h m = tt
  to_rows levels front inner (looped x low high ∷ ps) l h m =
      let lows = map (λ o. at_least_zero (suc levels) (less (variable (params + levels)) (form o v))) (lowers (plain low)) in
      let highs = map (λ o. at_least_zero (suc levels) (one_less (less (form o v) (variable (params + levels))))) (uppers (plain high)) in
      let rest = rows_in params v (suc levels) ps in
      let d = variable-is front (loop_names ps ++ inner) x (params + levels) l h in
      let more = length-more front x in
      all-both (IsMet s v) lows (highs ++ rest) (all-map _ (IsAtMost s v (s.value x)) _ (λ o n. to_low (params + levels) (s.value x) o (suc levels) d n) (lowers (plain low)) (m.0).0)
      (all-both (IsMet s v) highs rest (all-map _ (IsAbove s v (s.value x)) _ (λ o n. to_high (params + levels) (s.value x) o (suc levels) d n) (uppers (plain high)) (m.0).1)
      (to_rows (suc levels) (front ++ x ∷ []) inner ps (omega (arith, more, l)) (h ∙ one_more front x (loop_names ps ++ inner)) m.1))
  to_rows levels front inner (tested t ∷ ps) l h m = (says_test (point s v) t.cmp (form (plain t.left) v) (form (plain t.right) v) m.0, to_rows levels front inner ps l h m.1)

pub rows_say : RowsSayWithin
rows_say params levels s v front inner ps l h = (rows_to params s v levels front inner ps l h, to_rows params s v levels front inner ps l h)
