-- What fits a scope has parts that fit it.
use Rattle.std.proofs.Common.{ℕ, ◌≡◌, refl, ℤ, pos, int_le, nat_eq, Bool, true, false, ◌&&◌, ap, sym, ◌∙◌}
use Rattle.c_tree.specs.declared.index.Index.{Index}
use Rattle.c_tree.specs.declared.index.Index.TheVariants.{Var, At, Neg, Plus, Minus, Times, Min, Max, Floor, Ceil}
use Rattle.c_tree.specs.declared.index.Subscripts.{Subscripts}
use Rattle.c_tree.specs.declared.index.Subscripts.TheVariants.{One, Two, Three}
use Rattle.c_tree.specs.declared.index.Cell.{Cell}
use Rattle.c_meaning.specs.Names.{Name}
use Rattle.c_meaning.specs.Scope.{Scope, fits, subscripts_fit, cell_fits}
use Rattle.c_meaning.proofs.Equations.{fits-Var, fits-At, fits-Neg, fits-Plus, fits-Minus, fits-Times, fits-Min, fits-Max, fits-Floor, fits-Ceil, subscripts_fit-One, subscripts_fit-Two, subscripts_fit-Three, cell_fits_is}

pub and_left : (p q : Bool) → (p && q) ≡ true → p ≡ true
and_left true q h = refl
and_left false q h = cc

pub and_right : (p q : Bool) → (p && q) ≡ true → q ≡ true
and_right true q h = h
and_right false q h = cc

module _ (c : Scope) where
  pub name-Var : (e : Index) (x : Name) → e ≡ Var x → fits e c ≡ true → c.numbers x ≡ true
  name-Var e x h k = sym (fits-Var x c) ∙ ap (λ e. fits e c) (sym h) ∙ k

  pub cell-At : (e : Index) (x : Cell) → e ≡ At x → fits e c ≡ true → cell_fits x c ≡ true
  cell-At e x h k = sym (fits-At x c) ∙ ap (λ e. fits e c) (sym h) ∙ k

  pub part-Neg : (e a : Index) → e ≡ Neg a → fits e c ≡ true → fits a c ≡ true
  part-Neg e a h k = sym (fits-Neg a c) ∙ ap (λ e. fits e c) (sym h) ∙ k

  pub left-Plus : (e a b : Index) → e ≡ Plus a b → fits e c ≡ true → fits a c ≡ true
  left-Plus e a b h k = and_left (fits a c) (fits b c) (sym (fits-Plus a b c) ∙ ap (λ e. fits e c) (sym h) ∙ k)

  pub right-Plus : (e a b : Index) → e ≡ Plus a b → fits e c ≡ true → fits b c ≡ true
  right-Plus e a b h k = and_right (fits a c) (fits b c) (sym (fits-Plus a b c) ∙ ap (λ e. fits e c) (sym h) ∙ k)

  pub left-Minus : (e a b : Index) → e ≡ Minus a b → fits e c ≡ true → fits a c ≡ true
  left-Minus e a b h k = and_left (fits a c) (fits b c) (sym (fits-Minus a b c) ∙ ap (λ e. fits e c) (sym h) ∙ k)

  pub right-Minus : (e a b : Index) → e ≡ Minus a b → fits e c ≡ true → fits b c ≡ true
  right-Minus e a b h k = and_right (fits a c) (fits b c) (sym (fits-Minus a b c) ∙ ap (λ e. fits e c) (sym h) ∙ k)

  pub part-Times : (e : Index) (n : ℤ) (a : Index) → e ≡ Times n a → fits e c ≡ true → fits a c ≡ true
  part-Times e n a h k = sym (fits-Times n a c) ∙ ap (λ e. fits e c) (sym h) ∙ k

  pub left-Min : (e a b : Index) → e ≡ Min a b → fits e c ≡ true → fits a c ≡ true
  left-Min e a b h k = and_left (fits a c) (fits b c) (sym (fits-Min a b c) ∙ ap (λ e. fits e c) (sym h) ∙ k)

  pub right-Min : (e a b : Index) → e ≡ Min a b → fits e c ≡ true → fits b c ≡ true
  right-Min e a b h k = and_right (fits a c) (fits b c) (sym (fits-Min a b c) ∙ ap (λ e. fits e c) (sym h) ∙ k)

  pub left-Max : (e a b : Index) → e ≡ Max a b → fits e c ≡ true → fits a c ≡ true
  left-Max e a b h k = and_left (fits a c) (fits b c) (sym (fits-Max a b c) ∙ ap (λ e. fits e c) (sym h) ∙ k)

  pub right-Max : (e a b : Index) → e ≡ Max a b → fits e c ≡ true → fits b c ≡ true
  right-Max e a b h k = and_right (fits a c) (fits b c) (sym (fits-Max a b c) ∙ ap (λ e. fits e c) (sym h) ∙ k)

  pub divisor-Floor : (e a : Index) (d : ℤ) → e ≡ Floor a d → fits e c ≡ true → int_le (pos 1) d ≡ true
  divisor-Floor e a d h k = and_left (int_le (pos 1) d) (fits a c) (sym (fits-Floor a d c) ∙ ap (λ e. fits e c) (sym h) ∙ k)

  pub part-Floor : (e a : Index) (d : ℤ) → e ≡ Floor a d → fits e c ≡ true → fits a c ≡ true
  part-Floor e a d h k = and_right (int_le (pos 1) d) (fits a c) (sym (fits-Floor a d c) ∙ ap (λ e. fits e c) (sym h) ∙ k)

  pub divisor-Ceil : (e a : Index) (d : ℤ) → e ≡ Ceil a d → fits e c ≡ true → int_le (pos 1) d ≡ true
  divisor-Ceil e a d h k = and_left (int_le (pos 1) d) (fits a c) (sym (fits-Ceil a d c) ∙ ap (λ e. fits e c) (sym h) ∙ k)

  pub part-Ceil : (e a : Index) (d : ℤ) → e ≡ Ceil a d → fits e c ≡ true → fits a c ≡ true
  part-Ceil e a d h k = and_right (int_le (pos 1) d) (fits a c) (sym (fits-Ceil a d c) ∙ ap (λ e. fits e c) (sym h) ∙ k)

  one-all : (e : Subscripts) (a : Index) (n : ℕ) → e ≡ One a → subscripts_fit e c n ≡ true → (nat_eq n 1 && fits a c) ≡ true
  one-all e a n h k = sym (subscripts_fit-One a c n) ∙ ap (λ e. subscripts_fit e c n) (sym h) ∙ k

  pub first-One : (e : Subscripts) (a : Index) (n : ℕ) → e ≡ One a → subscripts_fit e c n ≡ true → fits a c ≡ true
  first-One e a n h k = and_right (nat_eq n 1) (fits a c) (one-all e a n h k)

  two-all : (e : Subscripts) (a b : Index) (n : ℕ) → e ≡ Two a b → subscripts_fit e c n ≡ true → (nat_eq n 2 && (fits a c && fits b c)) ≡ true
  two-all e a b n h k = sym (subscripts_fit-Two a b c n) ∙ ap (λ e. subscripts_fit e c n) (sym h) ∙ k

  pub first-Two : (e : Subscripts) (a b : Index) (n : ℕ) → e ≡ Two a b → subscripts_fit e c n ≡ true → fits a c ≡ true
  first-Two e a b n h k = and_left (fits a c) (fits b c) (and_right (nat_eq n 2) (fits a c && fits b c) (two-all e a b n h k))

  pub second-Two : (e : Subscripts) (a b : Index) (n : ℕ) → e ≡ Two a b → subscripts_fit e c n ≡ true → fits b c ≡ true
  second-Two e a b n h k = and_right (fits a c) (fits b c) (and_right (nat_eq n 2) (fits a c && fits b c) (two-all e a b n h k))

  three-all : (e : Subscripts) (a b d : Index) (n : ℕ) → e ≡ Three a b d → subscripts_fit e c n ≡ true → (nat_eq n 3 && (fits a c && (fits b c && fits d c))) ≡ true
  three-all e a b d n h k = sym (subscripts_fit-Three a b d c n) ∙ ap (λ e. subscripts_fit e c n) (sym h) ∙ k

  three-parts : (e : Subscripts) (a b d : Index) (n : ℕ) → e ≡ Three a b d → subscripts_fit e c n ≡ true → (fits a c && (fits b c && fits d c)) ≡ true
  three-parts e a b d n h k = and_right (nat_eq n 3) (fits a c && (fits b c && fits d c)) (three-all e a b d n h k)

  pub first-Three : (e : Subscripts) (a b d : Index) (n : ℕ) → e ≡ Three a b d → subscripts_fit e c n ≡ true → fits a c ≡ true
  first-Three e a b d n h k = and_left (fits a c) (fits b c && fits d c) (three-parts e a b d n h k)

  pub second-Three : (e : Subscripts) (a b d : Index) (n : ℕ) → e ≡ Three a b d → subscripts_fit e c n ≡ true → fits b c ≡ true
  second-Three e a b d n h k = and_left (fits b c) (fits d c) (and_right (fits a c) (fits b c && fits d c) (three-parts e a b d n h k))

  pub third-Three : (e : Subscripts) (a b d : Index) (n : ℕ) → e ≡ Three a b d → subscripts_fit e c n ≡ true → fits d c ≡ true
  third-Three e a b d n h k = and_right (fits b c) (fits d c) (and_right (fits a c) (fits b c && fits d c) (three-parts e a b d n h k))

  pub at-Cell : (e : Cell) → cell_fits e c ≡ true → subscripts_fit e.at c (c.index_arrays e.array) ≡ true
  at-Cell e h = sym (cell_fits_is e c) ∙ h
