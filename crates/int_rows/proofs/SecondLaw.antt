-- A system that isn't excluded has integers v and d >= 1 that meet it when each constant is multiplied by d.
use Rattle.std.proofs.Common.{◌≡◌, ℕ, zero, suc, ◌%◌, ◌<◌, ◌≤◌, ℤ, pos, negsuc, ◌+ℤ◌, ◌*ℤ◌, ◌≤ℤ◌, ◌<ℤ◌, Bool, true, false, not, cond, ◌&&◌, List, [], ◌∷◌, map, length, replicate, get_or, inl, inr, arith, refl, ap, ◌∙◌}
use Rattle.std.specs.Prelude.{unsigned_abs, int_lt, filter, Ok, nat_eq, nat_le}
use Rattle.std.specs.Ordering.{int_eq}
use Rattle.std.specs.List.{AllByRecursion, list_all, list_any}
use Rattle.std.proofs.lemmas.Int.{ints}
use Rattle.std.proofs.lemmas.Bool.{cases_Bool, and_parts, or_parts, not-false, eqb-true, and_cases, and_from}
use Rattle.std.proofs.lemmas.Bool.Decides.{Decides-int_eq}
use Rattle.std.proofs.Math.ListN.{length-set, length-replicate}
use lib.IntN.{*ℤ-zero}
use Rattle.int_rows.specs.Gcd.{gcd_of}
use Rattle.int_rows.specs.Rows.{dot, Holds, MeetsRow, Meets}
use Rattle.int_rows.specs.Elimination.{elimination}
use Rattle.int_rows.specs.Exclusion.{is_plain, is_impossible, exclusion}
use Rattle.int_rows.specs.declared.row.Row.{Row}
use Rattle.chill_base.proofs.Ring.{expand, not_negative_product}
use Rattle.chill_base.proofs.Each.{each-filter, each-weaker}
use Rattle.int_rows.proofs.GcdLaws.{gcd_of-le}
use Rattle.int_rows.proofs.Excluded.{dot-plain, ok_parts}
use Rattle.int_rows.proofs.Back.{elimination_back, moved, each-head, length-scaled}
use Rattle.int_rows.proofs.Zeros.{ZeroFrom, elimination-zero}

gcd-plain : (cs : List ℤ) → list_all (λ c. int_eq c (pos 0)) cs ≡ true → gcd_of cs ≡ 0
gcd-plain cs e = let top : gcd_of cs ≤ 0 = gcd_of-le cs 0 (small cs e) in omega arith where
  small : (cs : List ℤ) → list_all (λ c. int_eq c (pos 0)) cs ≡ true → list_all (λ z. nat_le (unsigned_abs z) 0) cs ≡ true
  small [] e = refl
  small (c ∷ cs) e =
      let parts = and_parts (int_eq c (pos 0)) _ e in
      let zero_is : c ≡ pos 0 = (Decides-int_eq c (pos 0)).0 parts.0 in
      rw zero_is (small cs parts.1)

-- each point meets a row without variables that isn't impossible
plain-meets : (d : ℤ) (p : List ℤ) (r : Row) → pos 0 ≤ℤ d → is_plain r ≡ true → is_impossible r ≡ false → MeetsRow d p r
unfolding is_impossible
plain-meets d p r q e i = split r.equal r.form.constant i where
  flat : dot r.form.coefs p ≡ pos 0
  flat = dot-plain r.form.coefs p e

  split : (b : Bool) (c : ℤ) → cond b (not (nat_eq (unsigned_abs c % gcd_of r.form.coefs) 0)) (is_plain r && int_lt c (pos 0)) ≡ false → Holds b (dot r.form.coefs p +ℤ d *ℤ c)
  split true c h =
      let rest : unsigned_abs c % gcd_of r.form.coefs ≡ 0 = eqb-true _ _ (not-false _ h) in
      let none : unsigned_abs c ≡ 0 = (let k = rw (gcd-plain r.form.coefs e) at rest in omega arith) in
      let is : c ≡ pos 0 = omega (arith, ints) in
      rw (flat, is, *ℤ-zero d) refl
  split false c h =
      let sign : int_lt c (pos 0) ≡ false = elim (and_cases (is_plain r) _ h) [ inl n ↦ absurd cc | inr n ↦ n ] in
      let up : pos 0 ≤ℤ c = grind (arith, ints) in
      let k = not_negative_product d c q up in
      rw flat (omega (arith, ints))

rows-meet : (d : ℤ) (p : List ℤ) (rows : List Row) → pos 0 ≤ℤ d → list_any is_impossible rows ≡ false → Meets d p (filter (λ r. not (is_plain r)) rows) → Meets d p rows
rows-meet d p [] q i h = tt
rows-meet d p (r ∷ rows) q i h =
    let parts = or_parts (is_impossible r) _ i in
    let more = each-head (MeetsRow d p) (λ r. not (is_plain r)) r rows h in
    (elim (cases_Bool (is_plain r)) [ inl e ↦ plain-meets d p r q e parts.0 | inr e ↦ more.0 (ap not e) ], rows-meet d p rows q parts.1 more.1)

plain-zero : (r : Row) → ZeroFrom 0 r → is_plain r ≡ true
plain-zero r z = go r.form.coefs (λ i. z i (omega arith)) where
  go : (cs : List ℤ) → ((i : ℕ) → get_or cs i (pos 0) ≡ pos 0) → list_all (λ c. int_eq c (pos 0)) cs ≡ true
  go [] z = refl
  go (c ∷ cs) z = and_from _ _ ((Decides-int_eq c (pos 0)).1 (z 0)) (go cs (λ i. z (suc i)))

all-plain : (d : ℤ) (p : List ℤ) (rows : List Row) → pos 0 ≤ℤ d → AllByRecursion (ZeroFrom 0) rows → list_any is_impossible rows ≡ false → Meets d p rows
all-plain d p [] q z i = tt
all-plain d p (r ∷ rows) q z i = let parts = or_parts (is_impossible r) _ i in (plain-meets d p r q (plain-zero r z.0) parts.0, all-plain d p rows q z.1 parts.1)

product-least : (k d : ℤ) → pos 0 <ℤ k → pos 1 ≤ℤ d → pos 1 ≤ℤ (k *ℤ d)
product-least k d p q =
    let more = simp expand at (not_negative_product (k +ℤ negsuc 0) (d +ℤ negsuc 0) (omega (arith, ints)) (omega (arith, ints))) in
    omega (arith, ints, more)

length-moved : (k : ℤ) (p : List ℤ) (x : ℕ) (t : ℤ) → length (moved k p x t) ≡ length p
length-moved k p x t = length-set (map (λ z. k *ℤ z) p) x t ∙ length-scaled k p

-- of a system over so many variables, of which the first n are still there
pub not_excluded_has_point : (vars n : ℕ) (rows : List Row) → n ≤ vars → AllByRecursion (ZeroFrom n) rows → exclusion n rows ≡ Ok false
    → (d : ℤ) × (p : List ℤ) × (pos 1 ≤ℤ d) × (length p ≡ vars) × Meets d p rows
unfolding exclusion
not_excluded_has_point vars zero rows l z e =
    (pos 1, replicate vars (pos 0), omega (arith, ints), length-replicate vars (pos 0), all-plain (pos 1) (replicate vars (pos 0)) rows (omega (arith, ints)) z (cc))
not_excluded_has_point vars (suc n) rows l z e =
    elim (cases_Bool (list_any is_impossible rows)) [
      | inl t ↦ absurd (let k = rw t at e in cc)
      | inr t ↦
          let kept = filter (λ r. not (is_plain r)) rows in
          let next = ok_parts (elimination n kept) (exclusion n) false (rw t at e) in
          let zeros = each-weaker (λ r. ZeroFrom (suc n) r × (not (is_plain r) ≡ true)) (ZeroFrom (suc n)) (λ r w. w.0) kept (each-filter (ZeroFrom (suc n)) (λ r. not (is_plain r)) rows z) in
          let at = not_excluded_has_point vars n next.0 (omega arith) (elimination-zero n kept next.0 next.1 zeros) next.2 in
          let inside : n < length at.1 = omega (arith, at.3) in
          let back = elimination_back at.0 at.1 n kept next.0 (let b = at.2 in omega (arith, ints)) inside next.1 at.4 in
          let least : pos 1 ≤ℤ (back.0 *ℤ at.0) = product-least back.0 at.0 back.2 at.2 in (
            back.0 *ℤ at.0,
            moved back.0 at.1 n back.1,
            least,
            length-moved back.0 at.1 n back.1 ∙ at.3,
            rows-meet (back.0 *ℤ at.0) (moved back.0 at.1 n back.1) rows (omega (arith, ints)) t back.3,
          )
    ]
