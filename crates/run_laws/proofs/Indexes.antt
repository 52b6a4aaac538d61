-- Expressions of the grammar that were judged fit the scope.
use Rattle.std.proofs.Common.{◌≡◌, ℕ, ◌≤◌, ℤ, pos, Bool, true, false, ◌&&◌, nat_eq, List, [], ◌∷◌, Option, Some, None, if◌then◌else◌, refl, sym, ap, ◌∙◌, subst, arith}
use Rattle.std.specs.Prelude.{int_le, ◌==◌, eqb}
use Rattle.std.specs.List.{list_all}
use Rattle.std.specs.Option.{option_or}
use Rattle.std.proofs.lemmas.Bool.{eqb-true}
use Rattle.c_tokens.specs.declared.token.Token.{Token}
use Rattle.c_tree.specs.declared.index.Index.{Index}
use Rattle.c_tree.specs.declared.index.Index.TheVariants.{Neg, Plus, Minus, Times, Min, Max, Floor, Ceil}
use Rattle.c_tree.specs.declared.index.Subscripts.{Subscripts}
use Rattle.c_tree.specs.declared.index.Subscripts.TheVariants.{One, Two, Three}
use Rattle.c_tree.specs.declared.index.Cell.{Cell}
use Rattle.c_tree.specs.declared.program.Kind.{Kind}
use Rattle.c_tree.specs.declared.program.Kind.TheVariants as kind
use Rattle.c_tree.specs.declared.statement.Test.{Test}
use Rattle.c_grammar.specs.Index.{Word, cell_of, IsIndex, IsPart, IsFactor, AreSubscripts, IsSubscript}
use Rattle.c_grammar.specs.Index as rule
use Rattle.c_grammar.specs.Statement.{IsTest, AreTests}
use Rattle.c_grammar.specs.Statement as statement
use Rattle.c_judge.specs.declared.scope.Meaning.{Meaning}
use Rattle.c_judge.specs.declared.scope.Meaning.TheVariants as meaning
use Rattle.c_judge.specs.declared.uses.Rule.TheVariants.{InScope}
use Rattle.c_judge.specs.Names.{Names, Fault, because, find, first_of}
use Rattle.c_judge.specs.declared.faults.NameWhy.TheVariants as why
use Rattle.c_judge.specs.Uses.{index_fault, inside, number_fault, array_fault, dims_fault, value_fault, cell_fault, Inside}
use Rattle.c_judge.specs.Statements.{test_fault, tests_fault}
use Rattle.c_judge.proofs.UsesAt.{at_cell, at_var, at_at, at_neg, at_plus, at_minus, at_times, at_min, at_max, at_floor, at_ceil, at_one, at_two, at_three}
use Rattle.c_meaning.specs.Names.{Name}
use Rattle.c_meaning.specs.Scope.{Scope, fits, subscripts_fit, test_fits}
use Rattle.c_meaning.proofs.Equations.{fits-Const, fits-Var, fits-At, fits-Neg, fits-Plus, fits-Minus, fits-Times, fits-Min, fits-Max, fits-Floor, fits-Ceil, cell_fits_is, subscripts_fit-One, subscripts_fit-Two, subscripts_fit-Three}
use Rattle.csr_data.proofs.Fits.{none_first, none_second}
use Rattle.run_laws.proofs.Choices.{both}
use Rattle.run_laws.proofs.Divisors.{is_divisor}
use Rattle.run_laws.proofs.Agreement.{Means, Agrees}

pub same_count : (x : Name) (e n : ℕ) → dims_fault x e n ≡ None → e ≡ n
same_count x e n h = by (e == n) refl h
  where
    by : (b : Bool) → (e == n) ≡ b → (if b then None else because x why.Dims) ≡ None → e ≡ n
    by true s h = eqb-true e n s
    by false s h = cc

counts : (n m : ℕ) → n ≡ m → nat_eq n m ≡ true
counts n m e = grind (arith, e)

module _ (names : Names) (c : Scope) (agrees : Agrees names c) where
  abbrev fault : Index → Fault
  fault e = index_fault InScope names e

  is_number : (x : Name) → value_fault InScope names x ≡ None → c.numbers x ≡ true
  is_number x h = by (find names x) (agrees x) h
    where
      by : (m : Option Meaning) → Means c x m → number_fault x m ≡ None → c.numbers x ≡ true
      by None means h = cc
      by (Some meaning.Value) means h = means
      by (Some (meaning.Array k n g)) means h = cc

  index_array : (x : Name) (n : ℕ) → cell_fault InScope names kind.Position x n ≡ None → c.index_arrays x ≡ n
  index_array x n h = by (find names x) (agrees x) h
    where
      by : (m : Option Meaning) → Means c x m → array_fault kind.Position x n m ≡ None → c.index_arrays x ≡ n
      by None means h = cc
      by (Some meaning.Value) means h = cc
      by (Some (meaning.Array kind.Position e g)) means h = means.0 ∙ same_count x e n h
      by (Some (meaning.Array kind.Number e g)) means h = cc

  pub data_array : (x : Name) (n : ℕ) → cell_fault InScope names kind.Number x n ≡ None → c.data_arrays x ≡ n
  data_array x n h = by (find names x) (agrees x) h
    where
      by : (m : Option Meaning) → Means c x m → array_fault kind.Number x n m ≡ None → c.data_arrays x ≡ n
      by None means h = cc
      by (Some meaning.Value) means h = cc
      by (Some (meaning.Array kind.Number e g)) means h = means.0 ∙ same_count x e n h
      by (Some (meaning.Array kind.Position e g)) means h = cc

  two : (e l r : Index) → fault e ≡ option_or (fault l) (fault r) → fits e c ≡ (fits l c && fits r c) → (fault l ≡ None → fits l c ≡ true) → (fault r ≡ None → fits r c ≡ true) → fault e ≡ None → fits e c ≡ true
  two e l r f g p q h =
      let none = sym f ∙ h in
      g ∙ both (fits l c) (fits r c) (p (none_first (fault l) (fault r) none)) (q (none_second (fault l) (fault r) none))

  mutual
    pub index_fits : {b : ℕ} {ts after : List Token} {e : Index} → IsIndex b ts e after → index_fault InScope names e ≡ None → fits e c ≡ true
    index_fits (rule.first p) h = part_fits p h
    index_fits (rule.negated {e = e} p) h = fits-Neg e c ∙ part_fits p (sym (at_neg InScope names e) ∙ h)
    index_fits (rule.sum {left = l} {right = r} i p) h = two (Plus l r) l r (at_plus InScope names l r) (fits-Plus l r c) (index_fits i) (part_fits p) h
    index_fits (rule.difference {left = l} {right = r} i p) h = two (Minus l r) l r (at_minus InScope names l r) (fits-Minus l r c) (index_fits i) (part_fits p) h

    part_fits : {b : ℕ} {ts after : List Token} {e : Index} → IsPart b ts e after → index_fault InScope names e ≡ None → fits e c ≡ true
    part_fits (rule.factor f) h = factor_fits f h
    part_fits (rule.times {n = n} {e = e} small f) h = fits-Times (pos n) e c ∙ factor_fits f (sym (at_times InScope names (pos n) e) ∙ h)
    part_fits (rule.times_right {n = n} {e = e} other f small) h = fits-Times (pos n) e c ∙ factor_fits f (sym (at_times InScope names (pos n) e) ∙ h)

    factor_fits : {b : ℕ} {ts after : List Token} {e : Index} → IsFactor b ts e after → index_fault InScope names e ≡ None → fits e c ≡ true
    factor_fits (rule.number {n = n} small) h = fits-Const (pos n) c
    factor_fits (rule.name {x = x}) h = fits-Var x c ∙ is_number x (sym (at_var InScope names x) ∙ h)
    factor_fits (rule.cell {x = x} {subscripts = s} k) h =
        let none = sym (at_cell InScope names (cell_of x s)) ∙ sym (at_at InScope names (cell_of x s)) ∙ h in
        fits-At (cell_of x s) c ∙ cell_fits_is (cell_of x s) c
        ∙ subscripts_fits k (none_second (cell_fault InScope names kind.Position x (inside InScope names s).count) (inside InScope names s).fault none) (c.index_arrays x)
        (index_array x (inside InScope names s).count (none_first (cell_fault InScope names kind.Position x (inside InScope names s).count) (inside InScope names s).fault none))
    factor_fits (rule.group i) h = index_fits i h
    factor_fits (rule.min {left = l} {right = r} i j) h = two (Min l r) l r (at_min InScope names l r) (fits-Min l r c) (index_fits i) (index_fits j) h
    factor_fits (rule.max {left = l} {right = r} i j) h = two (Max l r) l r (at_max InScope names l r) (fits-Max l r c) (index_fits i) (index_fits j) h
    factor_fits (rule.floor {n = n} {e = e} i d) h = fits-Floor e (pos n) c ∙ both (int_le (pos 1) (pos n)) (fits e c) (is_divisor n d) (index_fits i (sym (at_floor InScope names e (pos n)) ∙ h))
    factor_fits (rule.ceil {n = n} {e = e} i d) h = fits-Ceil e (pos n) c ∙ both (int_le (pos 1) (pos n)) (fits e c) (is_divisor n d) (index_fits i (sym (at_ceil InScope names e (pos n)) ∙ h))

    pub subscripts_fits : {b : ℕ} {ts after : List Token} {s : Subscripts} → AreSubscripts b ts s after → (inside InScope names s).fault ≡ None → (n : ℕ) → n ≡ (inside InScope names s).count → subscripts_fit s c n ≡ true
    subscripts_fits (rule.one {i = i} k) h n e =
        let is = at_one InScope names i in
        subscripts_fit-One i c n ∙ both (nat_eq n 1) (fits i c) (counts n 1 (e ∙ ap (λ (s : Inside). s.count) is)) (subscript_fits k (sym (ap (λ (s : Inside). s.fault) is) ∙ h))
    subscripts_fits (rule.two {i = i} {j = j} k l) h n e =
        let is = at_two InScope names i j in
        let none = sym (ap (λ (s : Inside). s.fault) is) ∙ h in
        subscripts_fit-Two i j c n ∙ both (nat_eq n 2) (fits i c && fits j c) (counts n 2 (e ∙ ap (λ (s : Inside). s.count) is))
        (both (fits i c) (fits j c) (subscript_fits k (none_first (fault i) (fault j) none)) (subscript_fits l (none_second (fault i) (fault j) none)))
    subscripts_fits (rule.three {i = i} {j = j} {k = o} k l m) h n e =
        let is = at_three InScope names i j o in
        let none = sym (ap (λ (s : Inside). s.fault) is) ∙ h in
        let behind = none_second (fault i) (option_or (fault j) (fault o)) none in
        subscripts_fit-Three i j o c n ∙ both (nat_eq n 3) (fits i c && (fits j c && fits o c)) (counts n 3 (e ∙ ap (λ (s : Inside). s.count) is))
        (both (fits i c) (fits j c && fits o c) (subscript_fits k (none_first (fault i) (option_or (fault j) (fault o)) none))
        (both (fits j c) (fits o c) (subscript_fits l (none_first (fault j) (fault o) behind)) (subscript_fits m (none_second (fault j) (fault o) behind))))

    subscript_fits : {b : ℕ} {ts after : List Token} {e : Index} → IsSubscript b ts e after → index_fault InScope names e ≡ None → fits e c ≡ true
    subscript_fits (rule.subscript i) h = index_fits i h

  one_test : {b : ℕ} {ts after : List Token} {t : Test} → IsTest b ts t after → test_fault names t ≡ None → test_fits t c ≡ true
  one_test (statement.test {left = l} {right = r} i comparison j) h =
      both (fits l c) (fits r c) (index_fits i (none_first (fault l) (fault r) h)) (index_fits j (none_second (fault l) (fault r) h))

  pub tests_fit : {b : ℕ} {ts after : List Token} {tests : List Test} → AreTests b ts tests after → tests_fault names tests ≡ None → list_all (λ t. test_fits t c) tests ≡ true
  tests_fit (statement.one {x = t} k) h = both (test_fits t c) true (one_test k (none_first (test_fault names t) None h)) refl
  tests_fit (statement.more {x = t} {xs = ts} k l) h =
      both (test_fits t c) (list_all (λ t. test_fits t c) ts) (one_test k (none_first (test_fault names t) (tests_fault names ts) h)) (tests_fit l (none_second (test_fault names t) (tests_fault names ts) h))
