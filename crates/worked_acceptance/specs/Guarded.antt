-- A worked source with a guard, reads in bounds, and two statements.
use Rattle.std.specs.Prelude.{◌≡◌, ℤ, pos, negsuc, [], ◌∷◌, None}
use Rattle.c_tree.specs.declared.index.Index.TheVariants.{Const, Var, Plus}
use Rattle.c_tree.specs.declared.data.Expr.TheVariants.{At as Load, Const as Number-Expr}
use Rattle.c_tree.specs.declared.statement.Cmp.TheVariants.{Less}
use Rattle.c_tree.specs.declared.statement.How.TheVariants.{Write, Add}
use Rattle.c_tree.specs.declared.statement.Stmt.TheVariants.{For, If, Assign}
use Rattle.c_tree.specs.declared.statement.Test.{Test}
use Rattle.c_tree.specs.declared.program.Kind.TheVariants.{Number, Position}
use Rattle.c_tree.specs.declared.program.Program.{Program}
use Rattle.int_rows.specs.declared.row.Aff.{Aff}
use Rattle.nest_tree.specs.declared.body.Body.TheVariants.{At as At-Body, Const as Const-Body}
use Rattle.nest_tree.specs.declared.form.Form.TheVariants.{Other}
use Rattle.nest_tree.specs.declared.kernel.Nest.{Nest}
use Rattle.c_meaning.specs.Examples.{b, i, n}
use Rattle.executors.specs.Executors.{Executor, done, assign, loop, guard}
use Rattle.acceptance.specs.Accepted.{refusal, statements, asked_in}
use Rattle.worked_acceptance.specs.Examples.{cell, declared, a, k, m, y, z, first_of, col, low, high, at, term, owned}

-- i < k
abbrev pub behind_row : Test
behind_row = record { left = Var i; cmp = Less; right = Var k }

-- for the rows i: y[i] = 0; for the entries k of the row: if (i < k) y[i] += a[k];
abbrev pub guarded_executor : Executor
guarded_executor = loop i (Const (pos 0)) (Var n)
    (assign (cell y (Var i)) Write (Number-Expr 0)
    (loop k low high (guard (behind_row ∷ []) (assign (cell y (Var i)) Add (Load (cell a (Var k))) done) done) done)) done

abbrev pub guarded : Program
guarded = record {
  name = b;
  matrices = record { index = first_of; col = col; value = a; rows = n; cols = m; count = z } ∷ [];
  params = n ∷ m ∷ z ∷ [];
  arrays = declared first_of Position (Plus (Var n) (Const (pos 1))) ∷ declared col Position (Var z) ∷ declared a Number (Var z) ∷ declared y Number (Var n) ∷ [];
  inspector = [];
  executor = For i (Const (pos 0)) (Var n)
      (Assign (cell y (Var i)) Write (Number-Expr 0)
      ∷ For k low high (If (behind_row ∷ []) (Assign (cell y (Var i)) Add (Load (cell a (Var k))) ∷ []) ∷ []) ∷ []) ∷ [];
}

-- a form of n, m, z and i
abbrev pub narrow : ℤ → ℤ → ℤ → Aff
narrow n i c = record { coefs = n ∷ pos 0 ∷ pos 0 ∷ i ∷ []; constant = c }

-- y[i] = 0 at the positions 0 and 0, where i >= 0 and n-1-i >= 0
abbrev pub zeroing : Nest
zeroing = record {
  levels = Other ∷ [];
  positions = 0 ∷ 0 ∷ [];
  terms = [];
  rows = owned 1 (narrow (pos 0) (pos 1) (pos 0)) ∷ owned 1 (narrow (pos 1) (negsuc 0) (negsuc 0)) ∷ [];
  target = at y (narrow (pos 0) (pos 1) (pos 0));
  how = Write;
  value = Const-Body 0;
  whole = None;
}

-- a form of n, m, z, i, k, index[i] and index[i+1]
abbrev pub wider : ℤ → ℤ → ℤ → ℤ → ℤ → ℤ → Aff
wider n i k f t c = record { coefs = n ∷ pos 0 ∷ pos 0 ∷ i ∷ k ∷ f ∷ t ∷ []; constant = c }

abbrev pub its_row : ℤ → Aff
its_row c = wider (pos 0) (pos 1) (pos 0) (pos 0) (pos 0) c

-- y[i] += a[k] at the positions 0, 1 and 0, where k lies in the row and behind i: two reads, and the guard's row
abbrev pub adding : Nest
adding = record {
  levels = Other ∷ Other ∷ [];
  positions = 0 ∷ 1 ∷ 0 ∷ [];
  terms = term first_of (its_row (pos 0)) ∷ term first_of (its_row (pos 1)) ∷ [];
  rows = owned 1 (its_row (pos 0)) ∷ owned 1 (wider (pos 1) (negsuc 0) (pos 0) (pos 0) (pos 0) (negsuc 0))
      ∷ owned 2 (wider (pos 0) (pos 0) (pos 1) (negsuc 0) (pos 0) (pos 0)) ∷ owned 2 (wider (pos 0) (pos 0) (negsuc 0) (pos 0) (pos 1) (negsuc 0))
      ∷ owned 0 (wider (pos 0) (negsuc 0) (pos 1) (pos 0) (pos 0) (negsuc 0)) ∷ [];
  target = at y (its_row (pos 0));
  how = Add;
  value = At-Body (at a (wider (pos 0) (pos 0) (pos 1) (pos 0) (pos 0) (pos 0)));
  whole = None;
}

-- the source is accepted, with these two statements
abbrev pub GuardedIsAccepted : Type 0
GuardedIsAccepted = (refusal guarded ≡ None) × (statements guarded (asked_in guarded) ≡ zeroing ∷ adding ∷ [])
