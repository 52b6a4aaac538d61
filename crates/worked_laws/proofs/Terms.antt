-- Terms with ranks.
use Rattle.std.proofs.Common.{◌≡◌, inl, inr, ℕ, zero, suc, ◌+◌, ◌<◌, List, [], ◌∷◌, ◌++◌, map, refl, sym, ◌∙◌, ap, arith, ℤ, pos}
use Rattle.int_rows.specs.declared.row.Aff.{Aff}
use Rattle.nest_tree.specs.declared.kernel.Term.{Term}
use Rattle.nest_tree.specs.Lists.{IsIn, IsAt}
use Rattle.nest_tree.specs.Forms.{coef, Names}
use Rattle.nest_tree.specs.Terms.{term_values, HaveRanks}
use Rattle.nest_laws.proofs.Laws.{readings}
use Rattle.worked_laws.specs.Statements.{form}
use Rattle.worked_laws.specs.Terms.{x_input, terms, NestedTerms}
use Rattle.worked_laws.proofs.Lists.{only}

-- the outer read is above the inner one
rank : ℕ → ℕ
rank zero = 0
rank (suc zero) = 1
rank (suc (suc k)) = 0

small : (k : ℕ) → rank k < 2
unfolding rank
small zero = omega arith
small (suc zero) = omega arith
small (suc (suc k)) = omega arith

-- which terms a form of the two arguments names
named_first : (f : Aff) (j : ℕ) → f ≡ form (pos 1 ∷ []) (pos 0) → Names f (1 + j) → ⊥
named_first f j e n = let s : 1 + j ≡ suc j = omega arith in n (ap (λ (g : Aff). coef (1 + j) g.coefs) e ∙ ap (λ (k : ℕ). coef k (pos 1 ∷ [])) s)

named_second : (f : Aff) (j : ℕ) → f ≡ form (pos 0 ∷ pos 1 ∷ []) (pos 0) → Names f (1 + j) → j ≡ 0
named_second f zero e n = refl
named_second f (suc j) e n = absurd (let s : 1 + suc j ≡ suc (suc j) = omega arith in n (ap (λ (g : Aff). coef (1 + suc j) g.coefs) e ∙ ap (λ (k : ℕ). coef k (pos 0 ∷ pos 1 ∷ [])) s))

arguments : (t : Term) (f : Aff) (a : Aff) → t.at ≡ a ∷ [] → IsIn f t.at → f ≡ a
arguments t f a e h = only f a (Rattle.std.proofs.Common.subst (λ (l : List Aff). IsIn f l) e h)

above : (k : ℕ) (t : Term) (f : Aff) (j : ℕ) → IsAt k t terms → IsIn f t.at → Names f (1 + j) → rank j < rank k
unfolding rank
above zero t f j is a n = absurd (named_first f j (arguments t f _ (ap (λ (u : Term). u.at) is) a) n)
above (suc zero) t f j is a n = let e = named_second f j (arguments t f _ (ap (λ (u : Term). u.at) is) a) n in Rattle.std.proofs.Common.subst (λ (k : ℕ). rank k < 1) (sym e) (omega arith)
above (suc (suc k)) t f j is a n = absurd is

ranks : HaveRanks 1 terms rank
ranks = record { bounded = small; above = above }

values : term_values x_input terms (pos 1 ∷ []) ≡ pos 2 ∷ pos 5 ∷ []
values = refl

pub nested : NestedTerms
nested = (
  inr (rank, ranks),
  values,
  λ ts e. (readings x_input terms (pos 1 ∷ []) (inr (rank, ranks))).1 ts e ∙ values,
  inl refl,
)
