-- What a statement gives to a system, and what is left of it.
use Rattle.std.proofs.Common.{◌≡◌, ℕ, zero, suc, arith, ◌+◌, ◌-◌, ◌≤◌, Bool, true, List, [], ◌∷◌, length, drop, refl, sym, ap, ◌∙◌, subst, length-drop}
use Rattle.std.specs.Prelude.{IsTrue}
use Rattle.std.specs.List.{list_all}
use Rattle.nest_tree.specs.declared.kernel.Term.{Term}
use Rattle.nest_core.specs.Shapes.{is_term_over}
use Rattle.nest_systems.specs.declared.instance.Instance.{Instance}
use Rattle.nest_systems.specs.declared.own.Own.{Own}
use Rattle.nest_systems.specs.declared.project.Projection.{Projection}
use Rattle.nest_systems.specs.Chosen.{IsChosen}
use Rattle.nest_systems.specs.Instances.{IsInstance}
use Rattle.nest_systems.specs.Owns.{IsOwn, IsProjection, is_left_over}
use Rattle.nest_systems.proofs.Choosing.{and}

pub instance-made : (params : ℕ) (i : Instance) (ts : List Term) (p n m f k : ℕ) → i.terms ≡ ts → i.levels ≤ 8 → p ≡ params → length ts ≡ n + m
    → IsTrue (list_all (is_term_over (p + i.levels + n + m)) ts) → f ≡ params + i.levels → k ≡ length ts → IsChosen f k i.chosen → IsInstance params i
instance-made params i ts p n m f k is l e count t a b c =
    let v : p + i.levels + n + m ≡ params + i.levels + length ts = omega (arith, e, count) in
    record {
      levels = l;
      terms = subst (λ (us : List Term). IsTrue (list_all (is_term_over (params + i.levels + length us)) us)) (sym is)
          (subst (λ (w : ℕ). IsTrue (list_all (is_term_over w) ts)) v t);
      chosen = subst (λ (w : ℕ). IsChosen w (length i.terms) i.chosen) a (subst (λ (w : ℕ). IsChosen f w i.chosen) (b ∙ ap length (sym is)) c);
    }

all-drop : {X : Type 0} (p : X → Bool) (k : ℕ) (xs : List X) → list_all p xs ≡ true → list_all p (drop k xs) ≡ true
all-drop p zero xs a = a
all-drop p (suc k) [] a = refl
all-drop p (suc k) (x ∷ xs) a = let h = and (p x) (list_all p xs) a in all-drop p k xs h.1

pub projection-made : (params levels terms level : ℕ) (own : Own) (p : Projection) (k : ℕ) (all : List Term) → IsOwn params levels terms own
    → p.terms ≡ drop k all → k ≡ terms → all ≡ own.instance.terms
    → IsTrue (list_all (is_left_over (own.seats.params + own.seats.levels + length own.seats.terms) level) p.rows) → IsProjection (params + levels + terms) level p
projection-made params levels terms level own p k all o e a b r =
    let is : p.terms ≡ drop terms own.instance.terms = e ∙ ap (λ (j : ℕ). drop j all) a ∙ ap (drop terms) b in
    let count : length p.terms ≡ length own.instance.terms - terms = ap length is ∙ length-drop terms own.instance.terms in
    let wide : params + own.instance.levels + length own.instance.terms ≡ params + levels + terms + length p.terms = omega (arith, count, o.more, o.own_levels) in
    let seated : own.seats.params + own.seats.levels + length own.seats.terms ≡ params + levels + terms + length p.terms = omega (arith, count, o.more, o.seat_params, o.seat_levels, o.seat_terms) in
    record {
      further = subst (λ (w : ℕ). IsTrue (list_all (is_term_over w) p.terms)) wide
          (subst (λ (ts : List Term). IsTrue (list_all (is_term_over (params + own.instance.levels + length own.instance.terms)) ts)) (sym is)
          (all-drop (is_term_over (params + own.instance.levels + length own.instance.terms)) terms own.instance.terms o.instance.terms));
      rows = subst (λ (w : ℕ). IsTrue (list_all (is_left_over w level) p.rows)) seated r;
    }
