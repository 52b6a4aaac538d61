-- What the terms of a statement read on an input, and which of them find a cell.
use Rattle.std.specs.Prelude.{◌≡◌, ℕ, zero, suc, ◌+◌, ◌<◌, List, ◌++◌, map, length, ℤ, pos, Option, Some, None}
use Rattle.int_rows.specs.declared.row.Aff.{Aff}
use Rattle.nest_tree.specs.declared.kernel.Term.{Term}
use Rattle.nest_tree.specs.Lists.{IsIn, IsAt}
use Rattle.nest_tree.specs.Forms.{value, Names, coef}

-- what a kernel sees of an input: the parameters in order, and each cell of its index arrays, none outside an array
pub record Input : Type 0 where
  pub params : List ℤ
  pub cells : List ℕ → List ℤ → Option ℤ

abbrev pub or_zero : Option ℤ → ℤ
or_zero None = pos 0
or_zero (Some v) = v

-- what a term reads where the variables have these values, 0 where it finds no cell
abbrev pub reading : Input → List ℤ → Term → ℤ
reading i q t = or_zero (i.cells t.array (map (value q) t.at))

-- the terms' values after so many rounds of reading, each round from the values of the one before; 0 to begin with
abbrev pub rounds : Input → List Term → List ℤ → ℕ → List ℤ
rounds i terms p zero = map (λ t. pos 0) terms
rounds i terms p (suc k) = map (reading i (p ++ rounds i terms p k)) terms

-- the terms' values where the parameters and levels have the values p: after as many rounds as there are terms
abbrev pub term_values : Input → List Term → List ℤ → List ℤ
term_values i terms p = rounds i terms p (length terms)

-- the term at place k finds its cell, and so do the terms in its arguments; the terms stand behind so many parameters and levels
pub data IsFound (i : Input) (width : ℕ) (terms : List Term) (q : List ℤ) : ℕ → Type 0 where
  found : (k : ℕ) (t : Term) (v : ℤ) → IsAt k t terms → i.cells t.array (map (value q) t.at) ≡ Some v → ((f : Aff) (j : ℕ) → IsIn f t.at → Names f (width + j) → IsFound i width terms q j) → IsFound i width terms q k

-- each term in the form finds its cell
abbrev pub IsReadable : Input → ℕ → List Term → List ℤ → Aff → Type 0
IsReadable i width terms q f = (j : ℕ) → Names f (width + j) → IsFound i width terms q j

-- no term holds itself in its arguments, directly or through others: terms have ranks, each above those of its arguments
pub record HaveRanks (width : ℕ) (terms : List Term) (rank : ℕ → ℕ) : Type 0 where
  pub bounded : (k : ℕ) → rank k < length terms
  pub above : (k : ℕ) (t : Term) (f : Aff) (j : ℕ) → IsAt k t terms → IsIn f t.at → Names f (width + j) → rank j < rank k

-- a term is ready before a variable x, of so many parameters and levels, where its arguments name only variables before x and ready terms
pub data IsReady (width x : ℕ) (terms : List Term) : ℕ → Type 0 where
  ready : (k : ℕ) (t : Term) → IsAt k t terms → ((f : Aff) (j : ℕ) → IsIn f t.at → Names f j → j < width → j < x) → ((f : Aff) (n : ℕ) → IsIn f t.at → Names f (width + n) → IsReady width x terms n) → IsReady width x terms k

-- a form is direct at x where it names x, no later variable but terms, and only terms that are ready before x
pub record IsDirect (width x : ℕ) (terms : List Term) (f : Aff) : Type 0 where
  pub named : Names f x
  pub no_later : (j : ℕ) → Names f j → x < j → j < width → ⊥
  pub ready_terms : (n : ℕ) → Names f (width + n) → IsReady width x terms n

-- the parameters and levels with the values of the terms behind them
abbrev pub with_terms : Input → List Term → List ℤ → List ℤ
with_terms i terms p = p ++ term_values i terms p

-- q has the values of p before x, and 0 at x
pub record IsCut (x : ℕ) (p q : List ℤ) : Type 0 where
  pub same_length : length q ≡ length p
  pub is_variable : x < length p
  pub before : (j : ℕ) → j < x → coef j p ≡ coef j q
  pub zero_at : coef x q ≡ pos 0
