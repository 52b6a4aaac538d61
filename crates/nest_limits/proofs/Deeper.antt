-- The steps into brackets.
use Rattle.std.proofs.Common.{◌≡◌, ℕ, zero, suc, arith, ◌-◌, Bool, List, refl}
use Rattle.std.specs.List.{list_all}
use Rattle.nest_tree.specs.declared.body.Access.{Access}
use Rattle.nest_tree.specs.declared.kernel.Term.{Term}
use Rattle.nest_limits.specs.Brackets.{term_fits, form_fits, access_fits, bracketed}

pub term-deeper : (first : ℕ) (terms : List Term) (room : ℕ) (t : Term) → (room ≡ 0 → ⊥) → term_fits first terms room t ≡ list_all (form_fits first terms (room - 1)) t.at
term-deeper first terms zero t h = absurd (h refl)
term-deeper first terms (suc k) t h = let d : suc k - 1 ≡ k = omega arith in rw d refl

pub access-deeper : (first : ℕ) (terms : List Term) (a : Access) (room : ℕ) → (room ≡ 0 → ⊥) → access_fits first terms a room ≡ list_all (form_fits first terms (room - 1)) a.at
access-deeper first terms a zero h = absurd (h refl)
access-deeper first terms a (suc k) h = let d : suc k - 1 ≡ k = omega arith in rw d refl

pub bracketed-deeper : (p : ℕ → Bool) (room : ℕ) → (room ≡ 0 → ⊥) → bracketed p room ≡ p (room - 1)
bracketed-deeper p zero h = absurd (h refl)
bracketed-deeper p (suc k) h = let d : suc k - 1 ≡ k = omega arith in rw d refl
