-- Expressions that name parameters alone fit each scope with these.
use Rattle.std.proofs.Common.{◌≡◌, ℤ, pos, Bool, true, false, ◌&&◌, List, Option, Some, None, refl, sym, ap, ◌∙◌}
use Rattle.std.specs.Prelude.{int_le}
use Rattle.std.specs.Option.{option_or}
use Rattle.c_tree.specs.declared.index.Index.{Index}
use Rattle.c_tree.specs.declared.index.Index.TheVariants.{Const, Var, At, Neg, Plus, Minus, Times, Min, Max, Floor, Ceil}
use Rattle.c_tree.specs.declared.index.Cell.{Cell}
use Rattle.c_tree.specs.declared.program.Kind.TheVariants as kind
use Rattle.c_judge.specs.declared.scope.Meaning.{Meaning}
use Rattle.c_judge.specs.declared.uses.Rule.TheVariants as rule
use Rattle.c_judge.specs.Names.{Names, Fault, find}
use Rattle.c_judge.specs.Uses.{index_fault, inside, value_fault, cell_fault, no_array_fault}
use Rattle.c_judge.proofs.UsesAt.{at_cell, at_const, at_var, at_at, at_neg, at_plus, at_minus, at_times, at_min, at_max, at_floor, at_ceil}
use Rattle.c_meaning.specs.Names.{Name}
use Rattle.c_meaning.specs.Scope.{Scope, fits}
use Rattle.c_meaning.proofs.Equations.{fits-Const, fits-Var, fits-Neg, fits-Plus, fits-Minus, fits-Times, fits-Min, fits-Max, fits-Floor, fits-Ceil}
use Rattle.c_meaning.proofs.Fitting.{and_left, and_right}
use Rattle.csr_data.specs.Divisors.{has_divisors}
use Rattle.c_meaning.proofs.Indices.{Cases, induct}
use Rattle.csr_data.proofs.Divisors.{divisors_neg, divisors_plus, divisors_minus, divisors_times, divisors_min, divisors_max, divisors_floor, divisors_ceil}

-- where neither has a fault, the first has none, and the second has none
pub none_first : {T : Type 0} (a b : Option T) → option_or a b ≡ None → a ≡ None
none_first None b h = refl
none_first (Some x) b h = h

pub none_second : {T : Type 0} (a b : Option T) → option_or a b ≡ None → b ≡ None
none_second None b h = h
none_second (Some x) b h = cc

both : (p q : Bool) → p ≡ true → q ≡ true → (p && q) ≡ true
both true q h k = k
both false q h k = cc

refused : (x : Name) (m : Option Meaning) → no_array_fault x m ≡ None → ⊥
refused x None h = cc
refused x (Some m) h = cc

module _ (names : Names) (c : Scope) (known : (x : Name) → value_fault rule.Parameters names x ≡ None → c.numbers x ≡ true) where
  abbrev Fits : Index → Type 0
  Fits e = index_fault rule.Parameters names e ≡ None → has_divisors e ≡ true → fits e c ≡ true

  no_cell : (x : Cell) → Fits (At x)
  no_cell x h k =
      let fault = sym (at_cell rule.Parameters names x) ∙ sym (at_at rule.Parameters names x) ∙ h in
      absurd (refused x.array (find names x.array) (none_first (cell_fault rule.Parameters names kind.Position x.array (inside rule.Parameters names x.at).count) (inside rule.Parameters names x.at).fault fault))

  one : (e a : Index) → index_fault rule.Parameters names e ≡ index_fault rule.Parameters names a → has_divisors e ≡ has_divisors a → fits e c ≡ fits a c → Fits a → Fits e
  one e a i j f p h k = f ∙ p (sym i ∙ h) (sym j ∙ k)

  two : (e a b : Index) → index_fault rule.Parameters names e ≡ option_or (index_fault rule.Parameters names a) (index_fault rule.Parameters names b) → has_divisors e ≡ (has_divisors a && has_divisors b)
      → fits e c ≡ (fits a c && fits b c) → Fits a → Fits b → Fits e
  two e a b i j f p q h k =
      let none = sym i ∙ h in
      let all = sym j ∙ k in
      f ∙ both (fits a c) (fits b c)
      (p (none_first (index_fault rule.Parameters names a) (index_fault rule.Parameters names b) none) (and_left (has_divisors a) (has_divisors b) all))
      (q (none_second (index_fault rule.Parameters names a) (index_fault rule.Parameters names b) none) (and_right (has_divisors a) (has_divisors b) all))

  divided : (e a : Index) (d : ℤ) → index_fault rule.Parameters names e ≡ index_fault rule.Parameters names a → has_divisors e ≡ (int_le (pos 1) d && has_divisors a)
      → fits e c ≡ (int_le (pos 1) d && fits a c) → Fits a → Fits e
  divided e a d i j f p h k =
      let all = sym j ∙ k in
      f ∙ both (int_le (pos 1) d) (fits a c) (and_left (int_le (pos 1) d) (has_divisors a) all) (p (sym i ∙ h) (and_right (int_le (pos 1) d) (has_divisors a) all))

  pub fits_parameters : (e : Index) → index_fault rule.Parameters names e ≡ None → has_divisors e ≡ true → fits e c ≡ true
  fits_parameters = induct Fits (record {
    constant = λ n h k. fits-Const n c;
    name = λ x h k. fits-Var x c ∙ known x (sym (at_var rule.Parameters names x) ∙ h);
    cell = no_cell;
    negated = λ a. one (Neg a) a (at_neg rule.Parameters names a) (divisors_neg a) (fits-Neg a c);
    sum = λ a b. two (Plus a b) a b (at_plus rule.Parameters names a b) (divisors_plus a b) (fits-Plus a b c);
    difference = λ a b. two (Minus a b) a b (at_minus rule.Parameters names a b) (divisors_minus a b) (fits-Minus a b c);
    product = λ n a. one (Times n a) a (at_times rule.Parameters names n a) (divisors_times n a) (fits-Times n a c);
    lesser = λ a b. two (Min a b) a b (at_min rule.Parameters names a b) (divisors_min a b) (fits-Min a b c);
    greater = λ a b. two (Max a b) a b (at_max rule.Parameters names a b) (divisors_max a b) (fits-Max a b c);
    floor = λ a d. divided (Floor a d) a d (at_floor rule.Parameters names a d) (divisors_floor a d) (fits-Floor a d c);
    ceil = λ a d. divided (Ceil a d) a d (at_ceil rule.Parameters names a d) (divisors_ceil a d) (fits-Ceil a d c);
  })
