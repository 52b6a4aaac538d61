-- The form of an extent has the extent's value: its numbers are small, since its size is, so that no sum stops at a limit.
use Rattle.std.proofs.Common.{◌≡◌, ◌⊎◌, inl, inr, ℕ, zero, suc, ◌+◌, ◌*◌, ◌^◌, ◌≤◌, List, [], ◌∷◌, ◌++◌, map, length, replicate, refl, sym, ◌∙◌, ap, subst, arith, ℤ, pos, negsuc, ◌+ℤ◌, ◌-ℤ◌, ◌*ℤ◌, neg_ℤ, Bool, true, false, cond, ◌||◌, Option, Some, None, Ok, Err}
use Rattle.std.specs.Prelude.{unsigned_abs, bytes_eq}
use Rattle.std.specs.Int.{saturate_signed, w128}
use Rattle.std.specs.List.{list_any, AllByRecursion}
use Rattle.std.proofs.lemmas.Int.{ints, unsigned_abs-mul}
use Rattle.std.proofs.lemmas.Bool.{cases_Bool}
use Rattle.std.proofs.lemmas.Slice.Eq.{bytes_eq-Decides}
use lib.IntN.{zero-*ℤ, *ℤ-zero}
use Rattle.chill_base.proofs.Ring.{sum_times, times_sum, times_assoc, times_neg}
use Rattle.c_tree.specs.declared.index.Index.{Index, Index-F, fold_out-Index, map-Index, out-Index}
use Rattle.c_tree.specs.declared.index.Index.TheVariants.{Const, Var, At, Neg, Plus, Minus, Times, Min, Max, Floor, Ceil, outs-Const, outs-Var, outs-At, outs-Neg, outs-Plus, outs-Minus, outs-Times, outs-Min, outs-Max, outs-Floor, outs-Ceil}
use Rattle.c_tree.specs.declared.index.Subscripts.{Subscripts}
use Rattle.c_tree.specs.declared.index.Cell.{Cell}
use Rattle.int_rows.specs.declared.row.Aff.{Aff}
use Rattle.int_rows.specs.Rows.{dot}
use Rattle.c_judge.specs.Limits.{size_of}
use Rattle.c_judge.proofs.SizesAt.{size_const, size_var, size_neg, size_plus, size_minus, size_times}
use Rattle.c_meaning.specs.Names.{Name}
use Rattle.c_meaning.specs.Weighed.{Weighed, plain, negated, sum_of, difference_of, multiple_of}
use Rattle.c_meaning.specs.Value.{Sight, Answer, measure, on_one, on_two}
use Rattle.c_meaning.proofs.Equations.{measure-Const, measure-Var, measure-Neg, measure-Plus, measure-Minus, measure-Times}
use Rattle.c_meaning.proofs.Indices.{induct}
use Rattle.nest_tree.specs.Lists.{IsIn}
use Rattle.nest_tree.specs.Forms.{value}
use Rattle.nest_systems.specs.Sums.{stopped_sum, stopped_product}
use Rattle.nest_systems.specs.Ranges.{of_none}
use Rattle.nest_systems.specs.Extents.{Multiple, plus_number, raised, plus_parameter, has_name, and_then, negative, index_layer, subscripts_layer, cell_layer, with_multiple, extent_form}
use Rattle.acceptance_laws.specs.Formed.{AreApart}

abbrev limit : ℕ
limit = 2 ^ 126

-- ---- numbers that don't stop
stays : (z : ℤ) → unsigned_abs z ≤ limit → saturate_signed w128 z ≡ z
stays (pos n) h = ap pos (omega (arith, h))
stays (negsuc n) h = ap negsuc (omega (arith, h))

sum_is : (a b : ℤ) → unsigned_abs a + unsigned_abs b ≤ limit → stopped_sum a b ≡ a +ℤ b
unfolding stopped_sum
sum_is a b h = stays (a +ℤ b) (omega (arith, ints, h))

product_is : (a b : ℤ) → unsigned_abs a * unsigned_abs b ≤ limit → stopped_product a b ≡ a *ℤ b
unfolding stopped_product
product_is a b h = stays (a *ℤ b) (let e = unsigned_abs-mul a b in omega (arith, e, h))

none_left : (z n : ℤ) → unsigned_abs n ≡ 0 → n ≡ pos 0
none_left z (pos n) h = ap pos h
none_left z (negsuc n) h = absurd (omega (arith, h))

-- the number by which an expression is multiplied: it is exact, or the expression has no size
abbrev IsNumber : ℤ → ℤ → ℕ → Type 0
IsNumber z y size = (z ≡ y) ⊎ (size ≡ 0)

exact_product : (z y n : ℤ) → IsNumber z y (unsigned_abs n) → unsigned_abs y * unsigned_abs n ≤ limit → stopped_product z n ≡ y *ℤ n
unfolding stopped_product
exact_product z y n (inl e) h = ap (λ (x : ℤ). stopped_product x n) e ∙ product_is y n h
exact_product z y n (inr e) h =
    let o : n ≡ pos 0 = none_left z n e in
    ap (λ (x : ℤ). saturate_signed w128 (z *ℤ x)) o ∙ ap (saturate_signed w128) (*ℤ-zero z) ∙ sym (*ℤ-zero y) ∙ ap (λ (x : ℤ). y *ℤ x) (sym o)

-- ---- forms of small numbers
abbrev pub AreAtMost : ℕ → List ℤ → Type 0
AreAtMost b cs = AllByRecursion (λ (c : ℤ). unsigned_abs c ≤ b) cs

pub record IsSmall (params : List Name) (b : ℕ) (f : Aff) : Type 0 where
  pub long : length f.coefs ≡ length params
  pub coefs : AreAtMost b f.coefs
  pub constant : unsigned_abs f.constant ≤ b

larger : (b c : ℕ) (cs : List ℤ) → b ≤ c → AreAtMost b cs → AreAtMost c cs
larger b c [] h k = tt
larger b c (x ∷ cs) h k = (omega (arith, h, k.0), larger b c cs h k.1)

-- ---- a parameter's number goes up
module _ (s : Sight) (y : ℤ) where
  raised-long : (params : List Name) (p : Name) (cs : List ℤ) → length cs ≡ length params → length (raised params p y cs) ≡ length params
  raised-long [] p cs e = e
  raised-long (q ∷ qs) p [] e = e
  raised-long (q ∷ qs) p (c ∷ cs) e = ap (λ (n : ℕ). suc n) (raised-long qs p cs (omega (arith, e)))

  raised-small : (params : List Name) (p : Name) (cs : List ℤ) (b : ℕ) → AreAtMost b cs → b + unsigned_abs y ≤ limit → AreAtMost (b + unsigned_abs y) (raised params p y cs)
  raised-small [] p cs b h l = larger b (b + unsigned_abs y) cs (omega arith) h
  raised-small (q ∷ qs) p [] b h l = tt
  raised-small (q ∷ qs) p (c ∷ cs) b h l = (by (bytes_eq q p), raised-small qs p cs b h.1 l)
    where
      by : (t : Bool) → unsigned_abs (cond t (stopped_sum c y) c) ≤ b + unsigned_abs y
      by true = subst (λ (x : ℤ). unsigned_abs x ≤ b + unsigned_abs y) (sym (sum_is c y (omega (arith, h.0, l)))) (omega (arith, ints, h.0))
      by false = omega (arith, h.0)

  -- a name that is none of them raises nothing
  raised-none : (params : List Name) (p : Name) (cs : List ℤ) → length cs ≡ length params → (IsIn p params → ⊥) → raised params p y cs ≡ cs
  raised-none [] p cs e h = refl
  raised-none (q ∷ qs) p [] e h = refl
  raised-none (q ∷ qs) p (c ∷ cs) e h =
      elim (cases_Bool (bytes_eq q p)) [
        | inl t ↦ absurd (h (inl (sym ((bytes_eq-Decides q p).0 t))))
        | inr f ↦ rw f (ap (λ (l : List ℤ). c ∷ l) (raised-none qs p cs (omega (arith, e)) (λ a. h (inr a))))
      ]

  raised-value : (params : List Name) (p : Name) (cs : List ℤ) (b : ℕ) → length cs ≡ length params → AreApart params → IsIn p params → AreAtMost b cs → b + unsigned_abs y ≤ limit
      → dot (raised params p y cs) (map s.value params) ≡ dot cs (map s.value params) +ℤ y *ℤ s.value p
  raised-value [] p cs b e apart a h l = absurd a
  raised-value (q ∷ qs) p [] b e apart a h l = absurd (omega (arith, e))
  raised-value (q ∷ qs) p (c ∷ cs) b e apart a h l =
      elim (cases_Bool (bytes_eq q p)) [
        | inl t ↦ (
            let same : q ≡ p = (bytes_eq-Decides q p).0 t in
            let rest : raised qs p y cs ≡ cs = raised-none qs p cs (omega (arith, e)) (λ k. apart.0 (subst (λ (x : Name). IsIn x qs) (sym same) k)) in
            let first : stopped_sum c y ≡ c +ℤ y = sum_is c y (omega (arith, h.0, l)) in
            let k : (c +ℤ y) *ℤ s.value q ≡ c *ℤ s.value q +ℤ y *ℤ s.value q = sum_times c y (s.value q) in
            let v : y *ℤ s.value q ≡ y *ℤ s.value p = ap (λ (x : Name). y *ℤ s.value x) same in
            rw (t, rest, first) (omega (arith, ints, k, v)))
        | inr f ↦ (
            let inside : IsIn p qs = elim a [ inl g ↦ absurd (let no : true ≡ false = sym ((bytes_eq-Decides q p).1 (sym g)) ∙ f in cc) | inr k ↦ k ] in
            let k = raised-value qs p cs b (omega (arith, e)) apart.1 inside h.1 l in
            rw f (omega (arith, ints, k)))
      ]

-- ---- what a multiple of an expression adds
abbrev layered : List Name → Index-F Index Subscripts Cell → Multiple
layered params d = index_layer params (map-Index Index Subscripts Cell Multiple (Unit {0}) (Unit {0}) (with_multiple params) (λ s. tt) (λ c. tt) d)

multiple_at : (params : List Name) (e : Index) (d : Index-F Index Subscripts Cell) → out-Index e ≡ d → (z : ℤ) (f : Aff) → with_multiple params e z f ≡ layered params d z f
unfolding with_multiple
multiple_at params e d h z f =
    ap (λ (m : Multiple). m z f) (fold_out-Index Multiple (Unit {0}) (Unit {0}) (index_layer params) subscripts_layer cell_layer e) ∙ ap (λ (d : Index-F Index Subscripts Cell). layered params d z f) h

two_values : (f : Weighed → Weighed → Weighed) (p q : Answer Weighed) (w : Weighed) → on_two f p q ≡ Ok w → (u v : Weighed) × (p ≡ Ok u) × (q ≡ Ok v) × (w ≡ f u v)
two_values f (Ok u) (Ok v) w h = (u, v, refl, refl, cc)
two_values f (Ok u) (Err e) w h = absurd cc
two_values f (Err e) q w h = absurd cc

one_value : (f : Weighed → Weighed) (p : Answer Weighed) (w : Weighed) → on_one f p ≡ Ok w → (u : Weighed) × (p ≡ Ok u) × (w ≡ f u)
one_value f (Ok u) w h = (u, refl, cc)
one_value f (Err e) w h = absurd cc

both_added : (p : Option Aff) (more : Aff → Option Aff) (g : Aff) → and_then p more ≡ Some g → (m : Aff) × (p ≡ Some m) × (more m ≡ Some g)
both_added (Some m) more g h = (m, refl, h)
both_added None more g h = absurd cc

module _ (params : List Name) (apart : AreApart params) (s : Sight) where
  abbrev ps : List ℤ
  ps = map s.value params

  -- the form with y times the expression's value more
  pub record Added (b : ℕ) (f g : Aff) (x : ℤ) : Type 0 where
    pub small : IsSmall params b g
    pub is : value ps g ≡ value ps f +ℤ x

  abbrev AddsAt : Index → ℕ → Type 0
  AddsAt e k =
      (y z : ℤ) (b : ℕ) (f g : Aff) (w : Weighed) → IsNumber z y k → IsSmall params b f → b + unsigned_abs y * k ≤ limit → with_multiple params e z f ≡ Some g → measure e s ≡ Ok w
      → Added (b + unsigned_abs y * k) f g (y *ℤ w.value)

  abbrev Adds : Index → Type 0
  Adds e = AddsAt e (size_of e)

  sized_so : (e : Index) (k : ℕ) → size_of e ≡ k → AddsAt e k → Adds e
  sized_so e k h a = subst (AddsAt e) (sym h) a

  number : (n : ℤ) → AddsAt (Const n) (unsigned_abs n)
  number n y z b f g w num small l h k =
      let p : stopped_product z n ≡ y *ℤ n = exact_product z y n num (omega (arith, l)) in
      let a : unsigned_abs (y *ℤ n) ≡ unsigned_abs y * unsigned_abs n = unsigned_abs-mul y n in
      let c : stopped_sum f.constant (y *ℤ n) ≡ f.constant +ℤ y *ℤ n = sum_is f.constant (y *ℤ n) (let d = small.constant in omega (arith, a, l, d)) in
      let is : g ≡ record { coefs = f.coefs; constant = f.constant +ℤ y *ℤ n } = (
      let h' : Some (plus_number (stopped_product z n) f) ≡ Some g = sym (multiple_at params (Const n) _ (outs-Const n) z f) ∙ h in
      let same : g ≡ plus_number (stopped_product z n) f = cc in
      same ∙ ap (λ (x : ℤ). let o : Aff = record { coefs = f.coefs; constant = stopped_sum f.constant x } in o) p ∙ ap (λ (x : ℤ). let o : Aff = record { coefs = f.coefs; constant = x } in o) c) in
      let worth : w ≡ plain n = (let k' = sym (measure-Const n s) ∙ k in cc) in
      subst (λ (o : Aff). Added (b + unsigned_abs y * unsigned_abs n) f o (y *ℤ w.value)) (sym is) (record {
        small = record { long = small.long; coefs = larger b (b + unsigned_abs y * unsigned_abs n) f.coefs (omega arith) small.coefs; constant = (let d = small.constant in omega (arith, ints, a, d)) };
        is = (let v : y *ℤ w.value ≡ y *ℤ n = ap (λ (x : Weighed). y *ℤ x.value) worth in omega (arith, ints, v));
      })

  among : (x : Name) (names : List Name) → list_any (has_name x) names ≡ true → IsIn x names
  among x [] h = absurd cc
  among x (q ∷ qs) h = by (bytes_eq q x) refl h (among x qs)
    where
      by : (b : Bool) → bytes_eq q x ≡ b → (b || list_any (has_name x) qs) ≡ true → (list_any (has_name x) qs ≡ true → IsIn x qs) → IsIn x (q ∷ qs)
      by true t k more = inl (sym ((bytes_eq-Decides q x).0 t))
      by false t k more = inr (more k)

  name : (x : Name) → AddsAt (Var x) (2 ^ 24)
  name x y z b f g w num small l h k =
      let e : z ≡ y = elim num [ inl a ↦ a | inr a ↦ absurd (omega (arith, a)) ] in
      let h' : cond (list_any (has_name x) params) (Some (plus_parameter params x z f)) None ≡ Some g = sym (multiple_at params (Var x) _ (outs-Var x) z f) ∙ h in
      let m : b + unsigned_abs y ≤ limit = omega (arith, l) in
      let worth : w ≡ plain (s.value x) = (let k' = sym (measure-Var x s) ∙ k in cc) in
      elim (cases_Bool (list_any (has_name x) params)) [
        | inl t ↦ (
            let h'' : Some (plus_parameter params x z f) ≡ Some g = rw t at h' in
            let is : g ≡ plus_parameter params x y f = (let same : g ≡ plus_parameter params x z f = cc in same ∙ ap (λ (n : ℤ). plus_parameter params x n f) e) in
            let v = raised-value s y params x f.coefs b small.long apart (among x params t) small.coefs m in
            subst (λ (o : Aff). Added (b + unsigned_abs y * 2 ^ 24) f o (y *ℤ w.value)) (sym is) (record {
              small = record {
                long = raised-long s y params x f.coefs small.long;
                coefs = larger (b + unsigned_abs y) (b + unsigned_abs y * 2 ^ 24) (raised params x y f.coefs) (omega arith) (raised-small s y params x f.coefs b small.coefs m);
                constant = (let d = small.constant in omega (arith, d));
              };
              is = (let u : y *ℤ w.value ≡ y *ℤ s.value x = ap (λ (q : Weighed). y *ℤ q.value) worth in omega (arith, ints, u, v));
            }))
        | inr t ↦ absurd (let h'' : None ≡ Some g = rw t at h' in cc)
      ]

  zero_or_more : (k : ℕ) → (k ≡ 0) ⊎ ((m : ℕ) × (k ≡ suc m))
  zero_or_more zero = inl refl
  zero_or_more (suc m) = inr (m, refl)

  -- a part of a product by a number that isn't 0
  no_less : (a k m limit : ℕ) → k ≡ suc m → a * k ≤ limit → a ≤ limit
  no_less a k m limit e h = (let h' = subst (λ (n : ℕ). a * n ≤ limit) e h in omega (arith, h'))

  zero_factor : (a k m : ℕ) → k ≡ suc m → a * k ≡ 0 → a ≡ 0
  zero_factor a k m e h = (let h' = subst (λ (n : ℕ). a * n ≡ 0) e h in omega (arith, h'))

  minus_one : (u : ℤ) → negsuc 0 *ℤ u ≡ neg_ℤ u
  minus_one u = omega (arith, ints)

  -- the expression taken away
  module _ (e : Index) (k : ℕ) (adds : AddsAt e k) where
    opposite : (y z : ℤ) → IsNumber z y k → unsigned_abs y * k ≤ limit → IsNumber (negative z) (y *ℤ negsuc 0) k
    opposite y z num l = elim (zero_or_more k) [
      | inl h ↦ inr h
      | inr h ↦ elim num [
        | inl same ↦ inl (ap negative same ∙ product_is y (negsuc 0) (let a = no_less (unsigned_abs y) k h.0 limit h.1 l in omega (arith, a)))
        | inr none ↦ inr none
      ]
    ]

    takes : (y z : ℤ) (b : ℕ) (f g : Aff) (u : Weighed) → IsNumber z y k → IsSmall params b f → b + unsigned_abs y * k ≤ limit → with_multiple params e (negative z) f ≡ Some g → measure e s ≡ Ok u
        → Added (b + unsigned_abs y * k) f g (neg_ℤ (y *ℤ u.value))
    takes y z b f g u num small l h m =
        let a : unsigned_abs (y *ℤ negsuc 0) ≡ unsigned_abs y = unsigned_abs-mul y (negsuc 0) ∙ omega arith in
        let r = adds (y *ℤ negsuc 0) (negative z) b f g u (opposite y z num (omega (arith, l))) small (subst (λ (n : ℕ). b + n * k ≤ limit) (sym a) l) h m in
        let v : (y *ℤ negsuc 0) *ℤ u.value ≡ neg_ℤ (y *ℤ u.value) = times_assoc y (negsuc 0) u.value ∙ ap (λ (x : ℤ). y *ℤ x) (minus_one u.value) ∙ times_neg y u.value in
        record { small = subst (λ (n : ℕ). IsSmall params (b + n * k) g) a r.small; is = r.is ∙ ap (λ (x : ℤ). value ps f +ℤ x) v }

  negative_of : (a : Index) → Adds a → AddsAt (Neg a) (size_of a)
  negative_of a adds y z b f g w num small l h k =
      let h' : with_multiple params a (negative z) f ≡ Some g = sym (multiple_at params (Neg a) _ (outs-Neg a) z f) ∙ h in
      let u = one_value negated (measure a s) w (sym (measure-Neg a s) ∙ k) in
      let r = takes a (size_of a) adds y z b f g u.0 num small l h' u.1 in
      record { small = r.small; is = r.is ∙ ap (λ (x : ℤ). value ps f +ℤ x) (sym (times_neg y (u.0).value) ∙ ap (λ (x : Weighed). y *ℤ x.value) (sym u.2)) }

  total : (a b y : ℕ) → y * (a + b) ≡ y * a + y * b
  total a b y = omega arith

  sum_of_two : (a c : Index) → Adds a → Adds c → AddsAt (Plus a c) (size_of a + size_of c)
  sum_of_two a c adds more y z b f g w num small l h k =
      let h' : and_then (with_multiple params c z f) (with_multiple params a z) ≡ Some g = sym (multiple_at params (Plus a c) _ (outs-Plus a c) z f) ∙ h in
      let m = both_added (with_multiple params c z f) (with_multiple params a z) g h' in
      let u = two_values sum_of (measure a s) (measure c s) w (sym (measure-Plus a c s) ∙ k) in
      let t = total (size_of a) (size_of c) (unsigned_abs y) in
      let first = more y z b f m.0 u.1 (elim num [ inl e ↦ inl e | inr e ↦ inr (omega (arith, e)) ]) small (omega (arith, l, t)) m.1 u.3 in
      let second = adds y z (b + unsigned_abs y * size_of c) m.0 g u.0 (elim num [ inl e ↦ inl e | inr e ↦ inr (omega (arith, e)) ]) first.small (omega (arith, l, t)) m.2 u.2 in
      let v : y *ℤ w.value ≡ y *ℤ (u.0).value +ℤ y *ℤ (u.1).value = ap (λ (x : Weighed). y *ℤ x.value) u.4 ∙ times_sum y (u.0).value (u.1).value in
      record {
        small = subst (λ (n : ℕ). IsSmall params n g) (omega (arith, t)) second.small;
        is = (let p = first.is in let q = second.is in omega (arith, ints, p, q, v));
      }

  difference_of_two : (a c : Index) → Adds a → Adds c → AddsAt (Minus a c) (size_of a + size_of c)
  difference_of_two a c adds more y z b f g w num small l h k =
      let h' : and_then (with_multiple params c (negative z) f) (with_multiple params a z) ≡ Some g = sym (multiple_at params (Minus a c) _ (outs-Minus a c) z f) ∙ h in
      let m = both_added (with_multiple params c (negative z) f) (with_multiple params a z) g h' in
      let u = two_values difference_of (measure a s) (measure c s) w (sym (measure-Minus a c s) ∙ k) in
      let t = total (size_of a) (size_of c) (unsigned_abs y) in
      let first = takes c (size_of c) more y z b f m.0 u.1 (elim num [ inl e ↦ inl e | inr e ↦ inr (omega (arith, e)) ]) small (omega (arith, l, t)) m.1 u.3 in
      let second = adds y z (b + unsigned_abs y * size_of c) m.0 g u.0 (elim num [ inl e ↦ inl e | inr e ↦ inr (omega (arith, e)) ]) first.small (omega (arith, l, t)) m.2 u.2 in
      let v : y *ℤ w.value ≡ y *ℤ (u.0).value +ℤ neg_ℤ (y *ℤ (u.1).value) = (
      let d : (u.0).value -ℤ (u.1).value ≡ (u.0).value +ℤ neg_ℤ (u.1).value = omega (arith, ints) in
      ap (λ (x : Weighed). y *ℤ x.value) u.4 ∙ ap (λ (x : ℤ). y *ℤ x) d ∙ times_sum y (u.0).value (neg_ℤ (u.1).value) ∙ ap (λ (x : ℤ). y *ℤ (u.0).value +ℤ x) (times_neg y (u.1).value)) in
      record {
        small = subst (λ (n : ℕ). IsSmall params n g) (omega (arith, t)) second.small;
        is = (let p = first.is in let q = second.is in omega (arith, ints, p, q, v));
      }

  multiple : (n : ℤ) (a : Index) → Adds a → AddsAt (Times n a) (unsigned_abs n * size_of a)
  multiple n a adds y z b f g w num small l h k =
      let h' : with_multiple params a (stopped_product z n) f ≡ Some g = sym (multiple_at params (Times n a) _ (outs-Times n a) z f) ∙ h in
      let u = one_value (multiple_of n) (measure a s) w (sym (measure-Times n a s) ∙ k) in
      let e : unsigned_abs (y *ℤ n) ≡ unsigned_abs y * unsigned_abs n = unsigned_abs-mul y n in
      let t : unsigned_abs y * (unsigned_abs n * size_of a) ≡ unsigned_abs (y *ℤ n) * size_of a = (let o : unsigned_abs y * (unsigned_abs n * size_of a) ≡ (unsigned_abs y * unsigned_abs n) * size_of a = omega arith in o ∙ ap (λ (x : ℕ). x * size_of a) (sym e)) in
      let r = adds (y *ℤ n) (stopped_product z n) b f g u.0 (exact (size_of a) num (omega (arith, l))) small (subst (λ (x : ℕ). b + x ≤ limit) t l) h' u.1 in
      let v : (y *ℤ n) *ℤ (u.0).value ≡ y *ℤ w.value = times_assoc y n (u.0).value ∙ ap (λ (x : Weighed). y *ℤ x.value) (sym u.2) in
      record { small = subst (λ (x : ℕ). IsSmall params (b + x) g) (sym t) r.small; is = r.is ∙ ap (λ (x : ℤ). value ps f +ℤ x) v }
    where
      exact : (size : ℕ) → IsNumber z y (unsigned_abs n * size) → unsigned_abs y * (unsigned_abs n * size) ≤ limit → IsNumber (stopped_product z n) (y *ℤ n) size
      exact size num l = elim (zero_or_more size) [
        | inl o ↦ inr o
        | inr o ↦ (
            let small : unsigned_abs y * unsigned_abs n ≤ limit = no_less (unsigned_abs y * unsigned_abs n) size o.0 limit o.1 (omega (arith, l)) in
            inl (exact_product z y n (elim num [ inl same ↦ inl same | inr none ↦ inr (zero_factor (unsigned_abs n) size o.0 o.1 none) ]) small))
      ]

  never : (e : Index) (d : Index-F Index Subscripts Cell) → out-Index e ≡ d → ((z : ℤ) (f : Aff) → layered params d z f ≡ None) → Adds e
  never e d o none y z b f g w num small l h k = absurd (let clash : None ≡ Some g = sym (none z f) ∙ sym (multiple_at params e d o z f) ∙ h in cc)

  adds_all : (e : Index) → Adds e
  adds_all = induct Adds (record {
    constant = λ n. sized_so (Const n) (unsigned_abs n) (size_const n) (number n);
    name = λ x. sized_so (Var x) (2 ^ 24) (size_var x) (name x);
    cell = λ c. never (At c) _ (outs-At c) (λ z f. refl);
    negated = λ a p. sized_so (Neg a) (size_of a) (size_neg a) (negative_of a p);
    sum = λ a c p q. sized_so (Plus a c) (size_of a + size_of c) (size_plus a c) (sum_of_two a c p q);
    difference = λ a c p q. sized_so (Minus a c) (size_of a + size_of c) (size_minus a c) (difference_of_two a c p q);
    product = λ n a p. sized_so (Times n a) (unsigned_abs n * size_of a) (size_times n a) (multiple n a p);
    lesser = λ a c p q. never (Min a c) _ (outs-Min a c) (λ z f. refl);
    greater = λ a c p q. never (Max a c) _ (outs-Max a c) (λ z f. refl);
    floor = λ a d p. never (Floor a d) _ (outs-Floor a d) (λ z f. refl);
    ceil = λ a d p. never (Ceil a d) _ (outs-Ceil a d) (λ z f. refl);
  })

  -- ---- an extent
  none_small : (n : ℕ) → AreAtMost 0 (replicate n (pos 0))
  none_small zero = tt
  none_small (suc n) = (omega arith, none_small n)

  none_long : (n : ℕ) → length {A = ℤ} (replicate n (pos 0)) ≡ n
  none_long zero = refl
  none_long (suc n) = ap (λ (k : ℕ). suc k) (none_long n)

  none_value : (n : ℕ) (q : List ℤ) → dot (replicate n (pos 0)) q ≡ pos 0
  none_value zero q = refl
  none_value (suc n) [] = refl
  none_value (suc n) (v ∷ q) = let h = none_value n q in let o = zero-*ℤ v in omega (arith, ints, h, o)

  front : (cs qs rest : List ℤ) → length cs ≡ length qs → dot cs (qs ++ rest) ≡ dot cs qs
  front [] [] rest e = refl
  front [] (q ∷ qs) rest e = absurd (omega (arith, e))
  front (c ∷ cs) [] rest e = absurd (omega (arith, e))
  front (c ∷ cs) (q ∷ qs) rest e = ap (λ (x : ℤ). c *ℤ q +ℤ x) (front cs qs rest (omega (arith, e)))

  names_long : (names : List Name) → length (map s.value names) ≡ length names
  names_long [] = refl
  names_long (x ∷ names) = ap (λ (n : ℕ). suc n) (names_long names)

  pub extent_value : (e : Index) (g : Aff) (w : Weighed) (rest : List ℤ) → size_of e ≤ 2 ^ 41 → extent_form params e ≡ Some g → measure e s ≡ Ok w → value (ps ++ rest) g ≡ w.value
  unfolding extent_form of_none
  extent_value e g w rest small h k =
      let zero : Aff = record { coefs = replicate (length params) (pos 0); constant = pos 0 } in
      let r = adds_all e (pos 1) (pos 1) 0 zero g w (inl refl) (record { long = none_long (length params); coefs = none_small (length params); constant = omega arith }) (omega (arith, small)) h k in
      let long : length g.coefs ≡ length ps = (r.small).long ∙ sym (names_long params) in
      let o = none_value (length params) ps in
      let v = r.is in
      ap (λ (x : ℤ). x +ℤ g.constant) (front g.coefs ps rest long) ∙ omega (arith, ints, o, v)
