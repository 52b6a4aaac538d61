-- The loops over the rows and over the entries of a row, run.
use Rattle.std.proofs.Common.{◌≡◌, refl, ap, ◌∙◌, ℕ, suc, ◌+◌, ◌≤◌, ◌<◌, ℤ, pos, ◌+ℤ◌, ◌-ℤ◌, ◌≤ℤ◌, ◌<ℤ◌, Bool, true, false, List, [], ◌∷◌, length, Ok, arith, nat_eq, if◌then◌else◌}
use Rattle.std.proofs.lemmas.Int.{ints}
use Rattle.c_tree.specs.declared.index.Index.TheVariants.{Const, Var, At, Plus}
use Rattle.c_tree.specs.declared.statement.Stmt.TheVariants.{Put}
use Rattle.c_meaning.specs.Names.{Place, line}
use Rattle.c_meaning.specs.Weighed.{greatest, plain}
use Rattle.c_meaning.specs.Value.{value_of}
use Rattle.c_meaning.specs.Memory.{Memory, Env, sight_of}
use Rattle.c_meaning.specs.Run.{put_in, put}
use Rattle.sparse_marks.specs.Marks.{Marks, unmarked, close}
use Rattle.sparse_marks.specs.Walks.{seeing, rows_seen, sum_below}
use Rattle.inspector_runs.specs.Rules.{Leads}
use Rattle.inspector_runs.specs.Texts.{Arrays, Text, Loops, cell, count, entry_lines, marking_lines}
use Rattle.inspector_runs.specs.Shown.{Agrees, Apart, Sizes, Shows, row_env, turn_env}
use Rattle.inspector_runs.proofs.Values.{inside_long, value_by, put_line}
use Rattle.inspector_runs.proofs.Walked.{Turns, rows_go}
use Rattle.inspector_runs.proofs.Statements.{goes_end, goes_put}
use Rattle.inspector_runs.proofs.Memories.{in_line, in_other, agrees_put, made_ptr, same_place}
use Rattle.inspector_runs.proofs.Marking.{Turn, entry_goes, count_is}

from_zero : (n : ℕ) → pos 0 ≤ℤ pos n
from_zero n = grind (arith, ints)

-- the end of a row
pub closed : (b : Arrays) (base : Memory) (z : Sizes) (g : ℕ) (s : Marks) (m : Memory) → Apart b → Shows b z base s m
    → Shows b z base (close g s) (put_in b.ptr (line (pos (suc g))) (pos (length s.val)) m)
closed b base z g s m dn sh = record {
  mark = λ d. in_other b.ptr b.mark at (line d) n m dn.ptr_mark ∙ sh.mark d;
  ptr = λ h.
      in_line b.ptr at (line (pos h)) n m ∙ ap (λ b'. if b' then n else m.index b.ptr (line (pos h))) (same_place (suc g) h)
      ∙ ap (λ v. if nat_eq (suc g) h then n else v) (sh.ptr h) ∙ by_pos (nat_eq (suc g) h) (length s.val) (s.ptr h);
  val = λ p. in_other b.ptr b.val at (line (pos p)) n m dn.ptr_val ∙ sh.val p;
  num = in_other b.ptr b.num at (line (pos 0)) n m dn.ptr_num ∙ sh.num;
  mark_long = sh.mark_long;
  ptr_long = sh.ptr_long;
  val_long = sh.val_long;
  num_long = sh.num_long;
  others = agrees_put b base m b.ptr at n (made_ptr b) sh.others;
}
  where
    at : List ℤ
    at = line (pos (suc g))

    n : ℤ
    n = pos (length s.val)

    by_pos : (b : Bool) (p q : ℕ) → (if b then pos p else pos q) ≡ pos (if b then p else q)
    by_pos true p q = refl
    by_pos false p q = refl

-- what is known of the loops: their bounds, the groups, and each turn
pub record Nest (b : Arrays) (x : Text) (l : Loops) (c : Env) (base : Memory) (z : Sizes) (rows : ℕ) (first group count_of : ℕ → ℕ) (value : ℕ → ℕ → ℤ) : Type 0 where
  pub apart : Apart b
  pub rows_are : (m : Memory) → value_of (Var l.rows) (sight_of c m) ≡ Ok (pos rows)
  pub from : (i : ℕ) (m : Memory) → i < rows → Agrees b base m → value_of (At (cell l.index (Var l.row))) (sight_of (row_env l c i) m) ≡ Ok (pos (first i))
  pub to : (i : ℕ) (m : Memory) → i < rows → Agrees b base m → value_of (At (cell l.index (Plus (Var l.row) (Const (pos 1))))) (sight_of (row_env l c i) m) ≡ Ok (pos (first i) +ℤ pos (count_of i))
  pub next : (i : ℕ) (m : Memory) → i < rows → Agrees b base m → value_of x.next_group (sight_of (row_env l c i) m) ≡ Ok (pos (suc (group i)))
  pub next_in : (i : ℕ) → i < rows → pos (suc (group i)) <ℤ z.starts
  pub small : (i : ℕ) → i < rows → length (seeing (group i) (value i) (rows_seen group count_of value i) (count_of i)).val ≤ greatest
  pub turn : (i j : ℕ) → i < rows → j < count_of i
      → Turn b x (turn_env l c i (first i) j) base z (value i j) (value i j -ℤ z.low) (group i) (seeing (group i) (value i) (rows_seen group count_of value i) j)

nest_turns : (b : Arrays) (x : Text) (l : Loops) (c : Env) (base : Memory) (z : Sizes) (rows : ℕ) (first group count_of : ℕ → ℕ) (value : ℕ → ℕ → ℤ)
    → Nest b x l c base z rows first group count_of value
    → Turns l c rows first count_of (entry_lines b x) (Put (cell b.ptr x.next_group) (count b) ∷ []) (λ i j. Shows b z base (seeing (group i) (value i) (rows_seen group count_of value i) j))
nest_turns b x l c base z rows first group count_of value y = record {
  rows_are = y.rows_are;
  from = λ i m r sh. y.from i m r sh.others;
  to = λ i m r sh. y.to i m r sh.others;
  turn = λ i j at m r k sh. entry_goes b x _ at 0 base z (value i j) (value i j -ℤ z.low) (group i) _ m (y.turn i j r k) sh;
  row_end = λ i at m r sh.
      let s : Marks = seeing (group i) (value i) (rows_seen group count_of value i) (count_of i) in
      goes_put (cell b.ptr x.next_group) (count b) [] (row_env l c i) at 1 m 0 _ (put b.ptr (line (pos (suc (group i)))) (pos (length s.val)))
      (put_line b.ptr x.next_group (count b) (row_env l c i) m (pos (suc (group i))) (pos (length s.val))
      (value_by (count b) _ (plain (pos (length s.val))) (count_is b (row_env l c i) m (length s.val) sh.num_long sh.num) (y.small i r))
      (y.next i m r sh.others) (inside_long _ (pos (suc (group i))) z.starts sh.ptr_long (from_zero (suc (group i))) (y.next_in i r)))
      (goes_end (row_env l c i) at _ _ _ (closed b base z (group i) s m y.apart sh));
}

-- the whole nest leaves the marks of all rows
pub nest_goes : (b : Arrays) (x : Text) (l : Loops) (c : Env) (base : Memory) (z : Sizes) (rows : ℕ) (first group count_of : ℕ → ℕ) (value : ℕ → ℕ → ℤ)
    → Nest b x l c base z rows first group count_of value
    → (at : Place) (n : ℕ) (m : Memory) → Shows b z base unmarked m
    → Leads (marking_lines b x l) c at n m (rows + sum_below count_of rows) (Shows b z base (rows_seen group count_of value rows))
nest_goes b x l c base z rows first group count_of value y at n m sh =
    rows_go l c rows first count_of (entry_lines b x) (Put (cell b.ptr x.next_group) (count b) ∷ []) (λ i j. Shows b z base (seeing (group i) (value i) (rows_seen group count_of value i) j))
    (nest_turns b x l c base z rows first group count_of value y) at n m sh
