-- A statement takes at most as many child positions as it has statements.
use Rattle.std.proofs.Common.{◌≡◌, ℕ, ◌+◌, ◌≤◌, List, [], ◌∷◌, map, refl, arith}
use Rattle.std.specs.List.{AllByRecursion}
use Rattle.c_tree.specs.declared.statement.Stmt.{Stmt}
use Rattle.c_tree.specs.declared.statement.Stmt.TheVariants.{For, If, Assign, Put, Declare, Grow}
use Rattle.c_judge.specs.declared.limits.Counted.TheVariants.{All}
use Rattle.c_judge.specs.Limits.{count_in, count_of}
use Rattle.c_judge.proofs.SizesAt.{count_for, count_if, count_assign, count_put, count_declare, count_grow}
use Rattle.c_meaning.specs.Run.{part, widths}
use Rattle.c_meaning.proofs.Induction.{Cases, induct, induct_all}
use Rattle.c_walk.proofs.Statements.{width-For, width-If, width-Assign, width-Put, width-Declare, width-Grow}

abbrev IsNarrow : Stmt → Type 0
IsNarrow t = (part t).width ≤ count_in All t

are_narrow : (ts : List Stmt) → AllByRecursion IsNarrow ts → widths (map part ts) ≤ count_of All ts
are_narrow [] h = omega arith
are_narrow (t ∷ ts) h = let first = h.0 in let others = are_narrow ts h.1 in omega (arith, first, others)

narrow_cases : Cases IsNarrow
narrow_cases = record {
  loop = λ x low high body all. omega (arith, width-For (For x low high body) x low high body refl, count_for All x low high body);
  guard = λ tests body all. omega (arith, width-If (If tests body) tests body refl, count_if All tests body, are_narrow body all);
  assignment = λ target how value. omega (arith, width-Assign (Assign target how value) target how value refl, count_assign All target how value);
  index_assignment = λ target value. omega (arith, width-Put (Put target value) target value refl, count_put All target value);
  declaration = λ x k inner. omega (arith, width-Declare (Declare x k inner) x k inner refl, count_declare All x k inner);
  growth = λ x by. omega (arith, width-Grow (Grow x by) x by refl, count_grow All x by);
}

pub all_narrow : (ts : List Stmt) → widths (map part ts) ≤ count_of All ts
all_narrow ts = are_narrow ts (induct_all IsNarrow narrow_cases ts)
