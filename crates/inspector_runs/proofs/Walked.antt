-- Loops over the rows and over the entries of a row, by what is known before each turn.
use Rattle.std.proofs.Common.{◌≡◌, refl, ap, ◌∙◌, ℕ, zero, suc, ◌+◌, ◌<◌, pos, ◌+ℤ◌, List, [], ◌∷◌, Ok, arith}
use Rattle.std.proofs.lemmas.Int.{ints}
use Rattle.c_tree.specs.declared.index.Index.TheVariants.{Const, Var, At, Plus}
use Rattle.c_tree.specs.declared.statement.Stmt.{Stmt}
use Rattle.c_tree.specs.declared.statement.Stmt.TheVariants.{For}
use Rattle.c_meaning.specs.Names.{Place}
use Rattle.c_meaning.specs.Value.{value_of}
use Rattle.c_meaning.specs.Memory.{Memory, Env, sight_of}
use Rattle.sparse_marks.specs.Walks.{sum_below}
use Rattle.inspector_runs.specs.Rules.{Leads}
use Rattle.inspector_runs.specs.Texts.{Loops, cell}
use Rattle.inspector_runs.specs.Shown.{row_env, turn_env}
use Rattle.inspector_runs.proofs.Goes.{in_all}
use Rattle.inspector_runs.proofs.Values.{value_const}
use Rattle.inspector_runs.proofs.Statements.{goes_end, goes_count, weaker}

-- the loops over the rows and over their entries, and what follows the entries of a row
abbrev pub over_rows : Loops → List Stmt → List Stmt → Stmt
over_rows l entry ends =
    For l.row (Const (pos 0)) (Var l.rows)
    (For l.entry (At (cell l.index (Var l.row))) (At (cell l.index (Plus (Var l.row) (Const (pos 1))))) entry ∷ ends)

-- what is known before entry j of row i: the bounds have their values, and each turn goes on to the next
pub record Turns (l : Loops) (c : Env) (rows : ℕ) (first count : ℕ → ℕ) (entry ends : List Stmt) (I : ℕ → ℕ → Memory → Type 0) : Type 0 where
  pub rows_are : (m : Memory) → value_of (Var l.rows) (sight_of c m) ≡ Ok (pos rows)
  pub from : (i : ℕ) (m : Memory) → i < rows → I i 0 m → value_of (At (cell l.index (Var l.row))) (sight_of (row_env l c i) m) ≡ Ok (pos (first i))
  pub to : (i : ℕ) (m : Memory) → i < rows → I i 0 m → value_of (At (cell l.index (Plus (Var l.row) (Const (pos 1))))) (sight_of (row_env l c i) m) ≡ Ok (pos (first i) +ℤ pos (count i))
  pub turn : (i j : ℕ) (at : Place) (m : Memory) → i < rows → j < count i → I i j m → Leads entry (turn_env l c i (first i) j) at 0 m 0 (I i (suc j))
  pub row_end : (i : ℕ) (at : Place) (m : Memory) → i < rows → I i (count i) m → Leads ends (row_env l c i) at 1 m 0 (I (suc i) 0)

pub inner_turns : (k : ℕ) → in_all k (λ j. 0) ≡ k
inner_turns zero = refl
inner_turns (suc k) = ap (λ n. 1 + n) (inner_turns k) ∙ (let e : 1 + k ≡ suc k = omega arith in e)

sum_first : (f : ℕ → ℕ) (n : ℕ) → sum_below f (suc n) ≡ f 0 + sum_below (λ i. f (suc i)) n
sum_first f zero = omega arith
sum_first f (suc n) = let h : sum_below f (suc n) ≡ f 0 + sum_below (λ i. f (suc i)) n = sum_first f n in omega (arith, h)

pub all_turns : (n : ℕ) (f : ℕ → ℕ) → in_all n (λ i. in_all (f i) (λ j. 0) + 0) ≡ n + sum_below f n
all_turns zero f = refl
all_turns (suc n) f =
    let h : in_all n (λ i. in_all (f (suc i)) (λ j. 0) + 0) ≡ n + sum_below (λ i. f (suc i)) n = all_turns n (λ i. f (suc i)) in
    let k : in_all (f 0) (λ j. 0) ≡ f 0 = inner_turns (f 0) in
    let l : sum_below f (suc n) ≡ f 0 + sum_below (λ i. f (suc i)) n = sum_first f n in
    omega (arith, h, k, l)

-- a turn for each row and for each entry
pub rows_go : (l : Loops) (c : Env) (rows : ℕ) (first count : ℕ → ℕ) (entry ends : List Stmt) (I : ℕ → ℕ → Memory → Type 0) → Turns l c rows first count entry ends I
    → (at : Place) (n : ℕ) (m : Memory) → I 0 0 m → Leads (over_rows l entry ends ∷ []) c at n m (rows + sum_below count rows) (I rows 0)
rows_go l c rows first count entry ends I y at n m h =
    weaker _ c at n m _ _ (I rows 0) _ (let e : in_all rows (λ i. in_all (count i) (λ j. 0) + 0) ≡ rows + sum_below count rows = all_turns rows count in omega (arith, e)) (λ m' q. q)
    (goes_count l.row _ _ (For l.entry _ _ entry ∷ ends) [] c at n m 0 _ (pos 0) rows (λ i. in_all (count i) (λ j. 0) + 0) (λ i. I i 0)
    (value_const (pos 0) _ (omega arith)) (y.rows_are m ∙ ap Ok (zero_and rows)) h
    (λ i m' r q.
    goes_count l.entry _ _ entry ends (row_env l c i) _ 0 m' 0 _ (pos (first i)) (count i) (λ j. 0) (I i)
    (y.from i m' r q) (y.to i m' r q) q
    (λ j m'' k q'. y.turn i j _ m'' r k q')
    (λ m'' q'. y.row_end i _ m'' r q'))
    (λ m' q. goes_end c at (n + 1) m' _ q))
  where
    zero_and : (n : ℕ) → pos n ≡ pos 0 +ℤ pos n
    zero_and n = grind (arith, ints)
