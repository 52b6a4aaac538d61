-- A row that an elimination passes over stays, or a tighter one with its coefficients stands for it.
use Rattle.std.proofs.Common.{◌≡◌, inl, inr, ℕ, zero, suc, Bool, true, false, not, cond, ◌&&◌, List, [], ◌∷◌, map, refl, sym, ◌∙◌, ap, subst, arith, pos}
use Rattle.std.specs.Prelude.{filter, remove, slice_get, Option, Some, None, fold}
use Rattle.std.specs.Ordering.{int_eq}
use Rattle.std.specs.List.{position_or_len}
use Rattle.std.proofs.lemmas.Int.{ints, clamps}
use Rattle.std.proofs.lemmas.Bool.{and_parts}
use Rattle.std.proofs.lemmas.Bool.Decides.{Decides-int_eq}
use Rattle.int_rows.specs.declared.row.Row.{Row}
use Rattle.int_rows.specs.Rows.{coef_at}
use Rattle.int_rows.specs.Elimination.{stays, canceled, outcome, holds_not, is_equality_with, substituted, paired, made_with, made, is_same_kind, is_alike, tightest, absorbed, merged}
use Rattle.chill_base.proofs.Each.{found-passes}
use Rattle.int_rows.proofs.FirstLaw.{left-is, same_ints-true}
use Rattle.nest_tree.specs.Lists.{IsIn}
use Rattle.nest_laws.proofs.Lists.{in_append-left}
use Rattle.nest_laws.proofs.Loops.{map_in}
use Rattle.system_laws.specs.Tightened.{IsTighter, PassedRowsAreKept}

abbrev Kept : Row → List Row → Type 0
Kept r rows = (s : Row) × IsIn s rows × IsTighter r s

tighter-self : (r : Row) → r.equal ≡ false → IsTighter r r
tighter-self r e = record { kind = e; coefs = refl; constant = omega (arith, ints) }

tighter-then : (r s t : Row) → IsTighter r s → IsTighter s t → IsTighter r t
tighter-then r s t a b = let x = a.constant in let y = b.constant in record { kind = b.kind; coefs = b.coefs ∙ a.coefs; constant = omega (arith, ints, x, y) }

-- an inequality is alike to inequalities alone
kind-of : (e f : Bool) (b : Bool) → cond e (f && b) (not f) ≡ true → e ≡ false → f ≡ false
kind-of e true b h k = let d : cond e b false ≡ true = h in (let g : cond false b false ≡ true = subst (λ (x : Bool). cond x b false ≡ true) k d in absurd cc)
kind-of e false b h k = refl

kind-back : (e f : Bool) (b : Bool) → cond e (f && b) (not f) ≡ true → f ≡ false → e ≡ false
kind-back false f b h k = refl
kind-back true f b h k = let g : (false && b) ≡ true = subst (λ (x : Bool). (x && b) ≡ true) k h in absurd cc

-- what is absorbed, and what was there, is kept
absorbed-old : (r s : Row) (rows : List Row) → Kept r rows → Kept r (absorbed rows s)
absorbed-old r s [] k = absurd k.1
absorbed-old r s (t ∷ rows) k = by (is_alike t s) refl (absorbed-old r s rows)
  where
    by : (b : Bool) → is_alike t s ≡ b → (Kept r rows → Kept r (absorbed rows s)) → Kept r (cond b (tightest t s ∷ rows) (t ∷ absorbed rows s))
    by true e more = elim k.1 [
      | inl d ↦ (
        tightest t s,
        inl refl,
        (
            let a : IsTighter r t = subst (λ (x : Row). IsTighter r x) d k.2 in
            let c = a.constant in
            record { kind = a.kind; coefs = a.coefs; constant = omega (arith, ints, clamps, c) }),
      )
      | inr m ↦ (k.0, inr m, k.2)
    ]
    by false e more = elim k.1 [ inl d ↦ (k.0, inl d, k.2) | inr m ↦ (let q = more (k.0, m, k.2) in (q.0, inr q.1, q.2)) ]

absorbed-new : (s : Row) (rows : List Row) → s.equal ≡ false → Kept s (absorbed rows s)
absorbed-new s [] h = (s, inl refl, tighter-self s h)
absorbed-new s (t ∷ rows) h = by (is_alike t s) refl (absorbed-new s rows h)
  where
    by : (b : Bool) → is_alike t s ≡ b → Kept s (absorbed rows s) → Kept s (cond b (tightest t s ∷ rows) (t ∷ absorbed rows s))
    by true e more =
        let q = and_parts (is_same_kind t s) _ e in (
          tightest t s,
          inl refl,
          record { kind = kind-back t.equal s.equal (int_eq (t.form).constant (s.form).constant) q.0 h; coefs = same_ints-true (t.form).coefs (s.form).coefs q.1; constant = omega (arith, ints, clamps) },
        )
    by false e more = (more.0, inr more.1, more.2)

folded-old : (r : Row) (acc rows : List Row) → Kept r acc → Kept r (fold absorbed acc rows)
folded-old r acc [] k = k
folded-old r acc (s ∷ rows) k = folded-old r (absorbed acc s) rows (absorbed-old r s acc k)

folded-new : (r : Row) (acc rows : List Row) → IsIn r rows → r.equal ≡ false → Kept r (fold absorbed acc rows)
folded-new r acc [] a h = absurd a
folded-new r acc (s ∷ rows) (inl e) h = folded-old r (absorbed acc s) rows (subst (λ (x : Row). Kept x (absorbed acc s)) (sym e) (absorbed-new s acc (ap (λ (x : Row). x.equal) (sym e) ∙ h)))
folded-new r acc (s ∷ rows) (inr a) h = folded-new r (absorbed acc s) rows a h

merged-keeps : (r : Row) (rows : List Row) → IsIn r rows → r.equal ≡ false → Kept r (merged rows)
unfolding merged
merged-keeps r rows a h = folded-new r [] rows a h

-- ---- what is made
in_filter : (p : Row → Bool) (r : Row) (rows : List Row) → IsIn r rows → p r ≡ true → IsIn r (filter p rows)
in_filter p r [] a h = absurd a
in_filter p r (s ∷ rows) (inl e) h = let k : p s ≡ true = ap p (sym e) ∙ h in rw k (inl e)
in_filter p r (s ∷ rows) (inr a) h = by (p s) refl (in_filter p r rows a h)
  where
    by : (b : Bool) → p s ≡ b → IsIn r (filter p rows) → IsIn r (filter p (s ∷ rows))
    by true e m = rw e (inr m)
    by false e m = rw e m

in_remove : (r : Row) (rows : List Row) (i : ℕ) (e : Row) → IsIn r rows → slice_get rows i ≡ Some e → (r ≡ e → ⊥) → IsIn r (remove rows i)
in_remove r [] i e a g h = absurd a
in_remove r (s ∷ rows) zero e (inl d) g h = let k : s ≡ e = cc in absurd (h (d ∙ k))
in_remove r (s ∷ rows) zero e (inr a) g h = a
in_remove r (s ∷ rows) (suc i) e (inl d) g h = inl d
in_remove r (s ∷ rows) (suc i) e (inr a) g h = inr (in_remove r rows i e a g h)

outcome-is : (r : Row) → outcome (stays r) ≡ r
unfolding outcome
outcome-is r = refl

passes : (x : ℕ) (r : Row) → coef_at x r ≡ pos 0 → holds_not x r ≡ true
passes x r h = (Decides-int_eq (coef_at x r) (pos 0)).1 h

stays-in : (x : ℕ) (r : Row) (rows : List Row) → IsIn r rows → r.equal ≡ false → coef_at x r ≡ pos 0 → (i : ℕ) (o : Option Row) → slice_get rows i ≡ o
    → ((e : Row) → o ≡ Some e → is_equality_with x e ≡ true) → IsIn r (map outcome (made_with x rows i o))
unfolding paired
stays-in x r rows a h z i (Some e) g p =
    let k : IsIn r (remove rows i) = in_remove r rows i e a g (λ d. differ d (and_parts e.equal (not (holds_not x e)) (p e refl)).0) in
    let s : substituted x e r ≡ stays r = ap (λ (b : Bool). cond b (stays r) (canceled x r e)) (passes x r z) in
    subst (λ (y : Row). IsIn y (map outcome (map (substituted x e) (remove rows i)))) (ap outcome s ∙ outcome-is r)
    (map_in outcome (substituted x e r) (map (substituted x e) (remove rows i)) (map_in (substituted x e) r (remove rows i) k))
  where
    differ : r ≡ e → e.equal ≡ true → ⊥
    differ d t = let f : true ≡ false = sym t ∙ sym (ap (λ (y : Row). y.equal) d) ∙ h in cc
stays-in x r rows a h z i None g p =
    subst (λ (y : Row). IsIn y (map outcome (made_with x rows i None))) (outcome-is r)
    (map_in outcome (stays r) _ (in_append-left (stays r) (map stays (filter (holds_not x) rows)) _ (map_in stays r (filter (holds_not x) rows) (in_filter (holds_not x) r rows a (passes x r z)))))

pub kept_rows : PassedRowsAreKept
unfolding made
kept_rows x rows left r e a h z =
    subst (λ (l : List Row). Kept r l) (left-is x rows left e)
    (merged-keeps r (map outcome (made x rows)) (stays-in x r rows a h z (position_or_len (is_equality_with x) rows) (slice_get rows (position_or_len (is_equality_with x) rows)) refl (λ s d. found-passes (is_equality_with x) rows s d)) h)
