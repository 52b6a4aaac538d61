-- Subscripts that were evaluated, and the cell that they name.
use Rattle.std.proofs.Common.{ℕ, ◌<◌, ◌≡◌, refl, sym, ap, ◌∙◌, ℤ, pos, nat_eq, Bool, true, ◌&&◌, List, Option, Some, None, Ok, Err, arith}
use Rattle.c_tree.specs.declared.index.Index.{Index}
use Rattle.c_tree.specs.declared.index.Subscripts.{Subscripts, Subscripts-F, out-Subscripts}
use Rattle.c_tree.specs.declared.index.Index.TheOpen.{One as OneOf, Two as TwoOf, Three as ThreeOf}
use Rattle.c_tree.specs.declared.index.Subscripts.TheVariants.{One, Two, Three}
use Rattle.c_tree.specs.declared.index.Cell.{Cell}
use Rattle.c_meaning.specs.declared.fault.EvalFault.{EvalFault}
use Rattle.c_meaning.specs.declared.fault.EvalFault.TheVariants.{Outside}
use Rattle.c_meaning.specs.Weighed.{Weighed, plain}
use Rattle.c_meaning.specs.Value.{Sight, Answer, ◌>>=◌, subscripts_of, three_answers, cell_value, plain_answer, value_of, held, cell_seen}
use Rattle.c_meaning.specs.Capped.{capped, cap}
use Rattle.c_meaning.specs.Scope.{Scope, fits, subscripts_fit}
use Rattle.c_meaning.proofs.Equations.{subscripts-One, subscripts-Two, subscripts-Three, cell_value_is, subscripts_fit_at}

pub three_of_one : (e : Subscripts) (a : Index) (s : Sight) (i : Answer ℤ) → e ≡ One a → i ≡ value_of a s → three_answers i (Ok (pos 0)) (Ok (pos 0)) ≡ subscripts_of e s
three_of_one e a s i h k = ap (λ i. three_answers i (Ok (pos 0)) (Ok (pos 0))) k ∙ sym (subscripts-One a s) ∙ ap (λ e. subscripts_of e s) (sym h)

pub three_of_two : (e : Subscripts) (a b : Index) (s : Sight) (i j : Answer ℤ) → e ≡ Two a b → i ≡ value_of a s → j ≡ value_of b s → three_answers i j (Ok (pos 0)) ≡ subscripts_of e s
three_of_two e a b s i j h k l =
    ap (λ i. three_answers i j (Ok (pos 0))) k ∙ ap (λ j. three_answers (value_of a s) j (Ok (pos 0))) l ∙ sym (subscripts-Two a b s) ∙ ap (λ e. subscripts_of e s) (sym h)

pub three_of_three : (e : Subscripts) (a b c : Index) (s : Sight) (i j k : Answer ℤ) → e ≡ Three a b c → i ≡ value_of a s → j ≡ value_of b s → k ≡ value_of c s → three_answers i j k ≡ subscripts_of e s
three_of_three e a b c s i j k h p q r =
    ap (λ i. three_answers i j k) p ∙ ap (λ j. three_answers (value_of a s) j k) q ∙ ap (three_answers (value_of a s) (value_of b s)) r ∙ sym (subscripts-Three a b c s) ∙ ap (λ e. subscripts_of e s) (sym h)

module _ (c : Cell) (s : Sight) where
  -- what stands for the cell, once its subscripts are there
  seen : (a : Answer (List ℤ)) → a ≡ subscripts_of c.at s → cell_value c s ≡ (a >>= (λ at. held c.array (cell_seen s c.array at)))
  seen a h = cell_value_is c s ∙ ap (λ a. a >>= (λ at. held c.array (cell_seen s c.array at))) (sym h)

  pub reads : (at : List ℤ) (n : ℤ) (r : Option Weighed) → Ok at ≡ subscripts_of c.at s → Some n ≡ cell_seen s c.array at → r ≡ capped (plain n) → Ok r ≡ cap (plain_answer (cell_value c s))
  reads at n r h k e = ap Ok e ∙ sym (ap (λ a. cap (plain_answer a)) (seen (Ok at) h ∙ ap (held c.array) (sym k)))

  pub is_outside : (at : List ℤ) → Ok at ≡ subscripts_of c.at s → None ≡ cell_seen s c.array at → Err (Outside c.array) ≡ cap (plain_answer (cell_value c s))
  is_outside at h k = sym (ap (λ a. cap (plain_answer a)) (seen (Ok at) h ∙ ap (held c.array) (sym k)))

  pub has_fault : (e : EvalFault) → Err e ≡ subscripts_of c.at s → Err e ≡ cap (plain_answer (cell_value c s))
  has_fault e h = sym (ap (λ a. cap (plain_answer a)) (seen (Err e) h))

some_one : (n : ℕ) (p : Bool) → (nat_eq n 1 && p) ≡ true → 0 < n
some_one n p h = grind arith

some_two : (n : ℕ) (p : Bool) → (nat_eq n 2 && p) ≡ true → 0 < n
some_two n p h = grind arith

some_three : (n : ℕ) (p : Bool) → (nat_eq n 3 && p) ≡ true → 0 < n
some_three n p h = grind arith

some_by : (e : Subscripts) (c : Scope) (n : ℕ) (d : Subscripts-F Index Subscripts Cell) → out-Subscripts e ≡ d → subscripts_fit e c n ≡ true → 0 < n
some_by e c n (OneOf a) d h = some_one n (fits a c) (sym (subscripts_fit_at e (OneOf a) d c n) ∙ h)
some_by e c n (TwoOf a b) d h = some_two n (fits a c && fits b c) (sym (subscripts_fit_at e (TwoOf a b) d c n) ∙ h)
some_by e c n (ThreeOf a b f) d h = some_three n (fits a c && (fits b c && fits f c)) (sym (subscripts_fit_at e (ThreeOf a b f) d c n) ∙ h)

-- the array has an extent for each subscript, so it has some
pub some_extents : (e : Subscripts) (c : Scope) (n : ℕ) → subscripts_fit e c n ≡ true → 0 < n
some_extents e c n h = some_by e c n (out-Subscripts e) refl h
