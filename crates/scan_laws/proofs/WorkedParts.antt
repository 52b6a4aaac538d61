-- A bound with a read, and a small expression with a read.
use Rattle.std.proofs.Common.{◌≡◌, inl, inr, ℕ, zero, suc, ◌+◌, ◌<◌, ◌≤◌, ◌^◌, List, [], ◌∷◌, refl, ◌∙◌, ap, subst, arith, ℤ, pos, Some, unsigned_abs, Bool, true, false}
use Rattle.std.specs.Prelude.{None, if◌then◌else◌}
use Rattle.int_rows.specs.declared.row.Aff.{Aff}
use Rattle.c_tree.specs.declared.index.Index.TheVariants.{Const, Var, At, Plus}
use Rattle.c_tree.specs.declared.index.Subscripts.TheVariants.{One}
use Rattle.c_meaning.specs.Value.{cell_seen, is_inside}
use Rattle.c_meaning.specs.Examples.{i}
use Rattle.nest_tree.specs.Lists.{IsIn}
use Rattle.nest_tree.specs.Forms.{coef, Names}
use Rattle.nest_tree.specs.Terms.{IsReady, ready, IsDirect, IsCut}
use Rattle.nest_laws.specs.Weights.{HasSize, const, name, one, plus, minus}
use Rattle.nest_laws.proofs.Bounding.{bounds}
use Rattle.nest_laws.proofs.Weights.{small}
use Rattle.scan_laws.specs.Examples.{x, x_input, x_terms, below_next, WorkedBounds, x_sight, x_sizes, before_next, WorkedSize}

zero_named : (z : ℤ) → z ≡ pos 0 → (z ≡ pos 0 → ⊥) → ⊥
zero_named z e n = n e

-- the term x[i+1] is ready before k
next_ready : IsReady 3 2 x_terms 1
next_ready =
    ready 1 (record { array = x; at = record { coefs = pos 0 ∷ pos 1 ∷ []; constant = pos 1 } ∷ [] }) refl
    (λ f j a n l. levels f j a n l)
    (λ f m a n. absurd (none f m a n))
  where
    levels : (f : Aff) (j : ℕ) → IsIn f (record { coefs = pos 0 ∷ pos 1 ∷ []; constant = pos 1 } ∷ []) → Names f j → j < 3 → j < 2
    levels f j (inr h) n l = absurd h
    levels f zero (inl e) n l = omega arith
    levels f (suc zero) (inl e) n l = omega arith
    levels f (suc (suc j)) (inl e) n l = absurd (n (ap (λ (g : Aff). coef (suc (suc j)) g.coefs) e))

    none : (f : Aff) (m : ℕ) → IsIn f (record { coefs = pos 0 ∷ pos 1 ∷ []; constant = pos 1 } ∷ []) → Names f (3 + m) → ⊥
    none f m (inr h) n = h
    none f m (inl e) n = let s : 3 + m ≡ suc (suc (suc m)) = omega arith in n (ap (λ (k : ℕ). coef k f.coefs) s ∙ ap (λ (g : Aff). coef (suc (suc (suc m))) g.coefs) e)

direct : IsDirect 3 2 x_terms below_next
direct = record {
  named = λ e. absurd cc;
  no_later = λ j n l m. absurd (omega (arith, l, m));
  ready_terms = λ j n. terms j n;
}
  where
    terms : (j : ℕ) → Names below_next (3 + j) → IsReady 3 2 x_terms j
    terms zero n = absurd (n refl)
    terms (suc zero) n = next_ready
    terms (suc (suc j)) n = absurd (let s : 3 + suc (suc j) ≡ suc (suc (suc (suc (suc j)))) = omega arith in n (ap (λ (k : ℕ). coef k below_next.coefs) s))

cut : (k : ℤ) → IsCut 2 (pos 3 ∷ pos 1 ∷ k ∷ []) (pos 3 ∷ pos 1 ∷ pos 0 ∷ [])
cut k = record { same_length = refl; is_variable = omega arith; before = same; zero_at = refl }
  where
    same : (j : ℕ) → j < 2 → coef j (pos 3 ∷ pos 1 ∷ k ∷ []) ≡ coef j (pos 3 ∷ pos 1 ∷ pos 0 ∷ [])
    same zero h = refl
    same (suc zero) h = refl
    same (suc (suc j)) h = absurd (omega (arith, h))

pub worked_bounds : WorkedBounds
worked_bounds k = (cut k, direct, refl, (bounds x_input x_terms (pos 3 ∷ pos 1 ∷ k ∷ []) (pos 3 ∷ pos 1 ∷ pos 0 ∷ []) 2 below_next (cut k) direct).2 0 refl)

size : HasSize x_sizes x_sight before_next (pos 4) (2 ^ 24 + 1)
size =
    minus (At (record { array = x; at = One (Plus (Var i) (Const (pos 1))) })) (Const (pos 1)) (pos 5) (pos 1) (2 ^ 24) 1
    (one x (Plus (Var i) (Const (pos 1))) (pos 2) (pos 5) (2 ^ 24 + 1) (plus (Var i) (Const (pos 1)) (pos 1) (pos 1) (2 ^ 24) 1 (name i (omega arith)) (const (pos 1))) (omega arith) refl (omega arith))
    (const (pos 1))

pub worked_size : WorkedSize
worked_size = (size, (small x_sizes x_sight before_next (pos 4) (2 ^ 24 + 1) size (omega arith)).0)
