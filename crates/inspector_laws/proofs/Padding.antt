-- The lines of padded rows, run on any matrix.
use Rattle.std.proofs.Common.{◌≡◌, refl, sym, ap, ◌∙◌, subst, ℕ, suc, ◌+◌, ◌*◌, ◌≤◌, ◌<◌, ◌^◌, max, ℤ, pos, ◌+ℤ◌, ◌-ℤ◌, ◌≤ℤ◌, ◌<ℤ◌, Bool, true, false, ◌&&◌, List, [], ◌∷◌, Ok, arith, int_lt, nat_eq, nat_lt, if◌then◌else◌}
use Rattle.std.proofs.lemmas.Int.{ints}
use Rattle.std.proofs.Math.Nat.{mod-eq_of_lt, mul-le-mul, mul-one}
use Rattle.c_tree.specs.declared.program.Matrix.{Matrix}
use Rattle.c_tree.specs.declared.program.Kind.TheVariants.{Number, Position}
use Rattle.c_tree.specs.declared.index.Index.{Index}
use Rattle.c_tree.specs.declared.index.Index.TheVariants.{Const, Var, At, Plus, Minus}
use Rattle.c_tree.specs.declared.data.Expr.TheVariants as of_data
use Rattle.c_tree.specs.declared.statement.How.TheVariants.{Add}
use Rattle.c_tree.specs.declared.statement.Stmt.{Stmt}
use Rattle.c_tree.specs.declared.statement.Stmt.TheVariants.{For, Declare, Grow}
use Rattle.c_meaning.specs.Names.{Name, Place, same_name, same_numbers, line}
use Rattle.c_meaning.specs.Weighed.{greatest}
use Rattle.c_meaning.specs.Value.{Answer, ◌>>=◌, is_inside, value_of, all_hold, subscripts_of}
use Rattle.c_meaning.specs.Memory.{Memory, Env, sight_of}
use Rattle.c_meaning.specs.Ground.{Step, load, wrapped}
use Rattle.c_meaning.specs.Listing.{spot, scene_of}
use Rattle.c_meaning.specs.Run.{run, put, grow, grown, declare, assign, do_deed, put_in, with_extents, declared}
use Rattle.c_meaning.proofs.Spots.{name_self}
use Rattle.inspectors.specs.declared.names.RowNames.{RowNames}
use Rattle.inspectors.specs.Trees.{row_name, entry_name}
use Rattle.inspectors.specs.Expressions.{column}
use Rattle.inspectors.specs.Rows.{row_length, longest as longest_so_far, longer, put_width, widen, cell_in_row, padded, padded_lines}
use Rattle.sparse_marks.specs.Matrices.{Csr, count}
use Rattle.sparse_layouts.specs.Padded.{longest, width}
use Rattle.sparse_layouts.proofs.Widths.{covers, least}
use Rattle.inspector_runs.specs.Rules.{Goes, Leads}
use Rattle.inspector_runs.specs.Texts.{cell}
use Rattle.inspector_runs.specs.Shown.{long, Spares, row_env, turn_env}
use Rattle.inspector_runs.proofs.Values.{inside_long, measure_read, value_read, value_const, put_line, grow_value}
use Rattle.inspector_runs.proofs.Targets.{subscripts_one, subscripts_two, inside_two, inside_extents, put_at, spot_at, assigned_at, declare_one, grow_inner, same_pair}
use Rattle.inspector_runs.proofs.Statements.{goes_end, goes_put, goes_grow, goes_declare, goes_assign, goes_if, goes_count, weaker}
use Rattle.inspector_runs.proofs.Memories.{other_way, in_same, in_line, in_other, long_same, long_other}
use Rattle.inspector_runs.proofs.Spared.{spares_put, spares_long, spares_declared, spares_assign}
use Rattle.inspector_runs.proofs.Walked.{over_rows, Turns, inner_turns, rows_go}
use Rattle.inspector_runs.proofs.Heads.{new_cell, other_cell, new_long, other_long}
use Rattle.inspector_laws.specs.Ready.{Holds, HoldsValues, value_cell}
use Rattle.inspector_laws.specs.Padding.{is_row_array, RowNamesFit, of_row, LeftRows, RowLinesPadRows}
use Rattle.inspector_laws.proofs.Bounded.{Bounded, bounded_as, bounded_plain, bounded_const, bounded_var, bounded_plus, bounded_minus, value_bounded}
use Rattle.inspector_laws.proofs.Sums.{large}
use Rattle.inspector_laws.proofs.Expressions.{loops_of, row_there}
use Rattle.inspector_laws.proofs.Matrices.{first_rises, next_first, place_in, all_entries}
use Rattle.inspector_laws.proofs.Filling.{shown, shown_first, shown_here, shown_more, shown_next, shown_end}

up : (a b c : ℕ) → a ≤ b → b ≤ c → a ≤ c
up a b c p q = omega (arith, p, q)

large_fits : large ≤ greatest
large_fits = omega arith

from_zero : (n : ℕ) → pos 0 ≤ℤ pos n
from_zero n = grind (arith, ints)

below : (r n : ℕ) → r < n → pos r <ℤ pos n
below r n h = grind (arith, ints)

one_more : (i : ℕ) → pos i +ℤ pos 1 ≡ pos (suc i)
one_more i = grind (arith, ints)

zero_and : (i : ℕ) → pos 0 +ℤ pos i ≡ pos i
zero_and i = grind (arith, ints)

less_first : (f j : ℕ) → pos (f + j) -ℤ pos f ≡ pos j
less_first f j = grind (arith, ints)

own_wid : (b : RowNames) → is_row_array b b.wid ≡ true
own_wid b = grind (arith, name_self b.wid)

own_lay : (b : RowNames) → is_row_array b b.lay ≡ true
own_lay b = grind (arith, name_self b.lay)

own_lcol : (b : RowNames) → is_row_array b b.lcol ≡ true
own_lcol b = grind (arith, name_self b.lcol)

-- the lines, one by one
abbrev lines_of : Matrix → RowNames → List Stmt
lines_of x b =
    Declare b.wid Position [] ∷ Grow b.wid (Const (pos 1)) ∷ For row_name (Const (pos 0)) (Var x.rows) (widen x b ∷ [])
    ∷ Declare b.lay Number (longest_so_far b ∷ []) ∷ Declare b.lcol Position (longest_so_far b ∷ []) ∷ Grow b.lay (Var x.rows) ∷ Grow b.lcol (Var x.rows)
    ∷ over_rows (loops_of x) (padded x b) [] ∷ []

-- the width so far
record Wide (b : RowNames) (base : Memory) (n : ℕ) (m : Memory) : Type 0 where
  wid : m.index b.wid (line (pos 0)) ≡ pos n
  wid_long : m.extents b.wid ≡ long (pos 1)
  others : Spares (is_row_array b) base m

-- the rows so far
record Filled (b : RowNames) (base : Memory) (a : Csr) (i j : ℕ) (m : Memory) : Type 0 where
  wide : Wide b base (width a) m
  lay_long : m.extents b.lay ≡ pos a.rows ∷ pos (width a) ∷ pos 1 ∷ []
  lcol_long : m.extents b.lcol ≡ pos a.rows ∷ pos (width a) ∷ pos 1 ∷ []
  values : (r s : ℕ) → m.cells (of_row b.lay r s) ≡ shown a.worth a i j r s
  columns : (r s : ℕ) → m.index b.lcol (pos r ∷ pos s ∷ pos 0 ∷ []) ≡ pos (shown a.col a i j r s)

wide_declared : (b : RowNames) (base : Memory) (n : ℕ) (m : Memory) (y : Name) (es : List ℤ) → is_row_array b y ≡ true → same_name y b.wid ≡ false → Wide b base n m → Wide b base n (declared y es m)
wide_declared b base n m y es h k w = record {
  wid = other_cell y b.wid es (line (pos 0)) m k ∙ w.wid;
  wid_long = other_long y b.wid es m k ∙ w.wid_long;
  others = spares_declared (is_row_array b) base m y h w.others es;
}

wide_longer : (b : RowNames) (base : Memory) (n : ℕ) (m : Memory) (y : Name) (es : List ℤ) → is_row_array b y ≡ true → same_name y b.wid ≡ false → Wide b base n m → Wide b base n (with_extents y es m)
wide_longer b base n m y es h k w = record {
  wid = w.wid;
  wid_long = long_other y b.wid es m k ∙ w.wid_long;
  others = spares_long (is_row_array b) base m y h w.others es;
}

module _ (x : Matrix) (b : RowNames) (c : Env) (m : Memory) (a : Csr) (h : Holds x c m a) (v : HoldsValues x m a) (n : RowNamesFit x b) where
  first_small : (r : ℕ) → r ≤ a.rows → a.first r ≤ large
  first_small r l = let p = h.entries_small in up (a.first r) (a.first a.rows) large (first_rises a h.is_csr r a.rows l (omega arith)) p

  width_small : width a ≤ large
  width_small = least a a.rows large (λ i l. let e : a.first i + count a i ≡ a.first (suc i) = next_first a h.is_csr i l in let p : a.first (suc i) ≤ large = first_small (suc i) l in omega (arith, e, p))

  longest_small : (i : ℕ) → i ≤ a.rows → longest a i ≤ large
  longest_small i l = least a i large (λ r k. let e : a.first r + count a r ≡ a.first (suc r) = next_first a h.is_csr r (omega (arith, k, l)) in let p : a.first (suc r) ≤ large = first_small (suc r) (omega (arith, k, l)) in omega (arith, e, p))

  rows_value : (m' : Memory) → value_of (Var x.rows) (sight_of c m') ≡ Ok (pos a.rows)
  rows_value m' = value_bounded _ _ (pos a.rows) large (bounded_var x.rows (sight_of c m') a.rows large h.rows h.rows_small) large_fits

  -- a row's first place
  begin_has : (e : Index) (r : ℕ) (c' : Env) (m' : Memory) → r ≤ a.rows → Spares (is_row_array b) m m' → value_of e (sight_of c' m') ≡ Ok (pos r) → Bounded (At (cell x.index e)) (sight_of c' m') (pos (a.first r)) large
  begin_has e r c' m' l g q =
      bounded_plain (At (cell x.index e)) (sight_of c' m') (pos (a.first r)) large
      (measure_read x.index e c' m' (pos r) (pos (a.first r)) q
      (inside_long (m'.extents x.index) (pos r) (pos (suc a.rows)) (g.extents x.index n.index ∙ h.index_long) (from_zero r) (below r (suc a.rows) (omega (arith, l))))
      (ap (λ z. z (line (pos r))) (g.index x.index n.index) ∙ h.index r l))
      (first_small r l)

  row_has : (i : ℕ) (c' : Env) (m' : Memory) → i < a.rows → c' row_name ≡ pos i → Bounded (Var row_name) (sight_of c' m') (pos i) large
  row_has i c' m' l q = bounded_var row_name (sight_of c' m') i large q (let p = h.rows_small in up i a.rows large (omega (arith, l)) p)

  row_value : (i : ℕ) (c' : Env) (m' : Memory) → i < a.rows → c' row_name ≡ pos i → value_of (Var row_name) (sight_of c' m') ≡ Ok (pos i)
  row_value i c' m' l q = value_bounded _ _ (pos i) large (row_has i c' m' l q) large_fits

  next_value : (i : ℕ) (c' : Env) (m' : Memory) → i < a.rows → c' row_name ≡ pos i → value_of (Plus (Var row_name) (Const (pos 1))) (sight_of c' m') ≡ Ok (pos (suc i))
  next_value i c' m' l q =
      value_bounded _ _ (pos (suc i)) (large + 1)
      (bounded_as _ _ (pos i +ℤ pos 1) (pos (suc i)) (large + 1) (large + 1) (one_more i) (omega arith) (bounded_plus (Var row_name) (Const (pos 1)) _ (pos i) (pos 1) large 1 (row_has i c' m' l q) (bounded_const (pos 1) _ 1 (omega arith))))
      (let z : large + 1 ≤ greatest = omega arith in z)

  from_value : (i : ℕ) (c' : Env) (m' : Memory) → i < a.rows → c' row_name ≡ pos i → Spares (is_row_array b) m m' → value_of (At (cell x.index (Var row_name))) (sight_of c' m') ≡ Ok (pos (a.first i))
  from_value i c' m' l q g = value_bounded _ _ (pos (a.first i)) large (begin_has (Var row_name) i c' m' (let z : i ≤ a.rows = omega (arith, l) in z) g (row_value i c' m' l q)) large_fits

  to_value : (i : ℕ) (c' : Env) (m' : Memory) → i < a.rows → c' row_name ≡ pos i → Spares (is_row_array b) m m' → value_of (At (cell x.index (Plus (Var row_name) (Const (pos 1))))) (sight_of c' m') ≡ Ok (pos (a.first i) +ℤ pos (count a i))
  to_value i c' m' l q g =
      value_bounded _ _ (pos (a.first (suc i))) large (begin_has (Plus (Var row_name) (Const (pos 1))) (suc i) c' m' l g (next_value i c' m' l q)) large_fits
      ∙ ap (λ z. Ok (pos z)) (sym (next_first a h.is_csr i l))

  -- the length of a row
  length_value : (i : ℕ) (c' : Env) (m' : Memory) → i < a.rows → c' row_name ≡ pos i → Spares (is_row_array b) m m' → value_of (row_length x) (sight_of c' m') ≡ Ok (pos (count a i))
  length_value i c' m' l q g =
      value_bounded _ _ (pos (count a i)) (large + large)
      (bounded_as _ _ _ (pos (count a i)) (large + large) (large + large) (ap (λ z. pos z -ℤ pos (a.first i)) (sym (next_first a h.is_csr i l)) ∙ less_first (a.first i) (count a i)) (omega arith)
      (bounded_minus _ _ _ (pos (a.first (suc i))) (pos (a.first i)) large large
      (begin_has (Plus (Var row_name) (Const (pos 1))) (suc i) c' m' l g (next_value i c' m' l q))
      (begin_has (Var row_name) i c' m' (let z : i ≤ a.rows = omega (arith, l) in z) g (row_value i c' m' l q))))
      (let z : large + large ≤ greatest = omega arith in z)

  longest_value : (k : ℕ) (c' : Env) (m' : Memory) → k ≤ large → Wide b m k m' → value_of (longest_so_far b) (sight_of c' m') ≡ Ok (pos k)
  longest_value k c' m' l w =
      value_read b.wid (Const (pos 0)) c' m' (pos 0) (pos k) (value_const (pos 0) _ (omega arith))
      (inside_long (m'.extents b.wid) (pos 0) (pos 1) w.wid_long (from_zero 0) (below 0 1 (omega arith))) w.wid (up k large greatest l large_fits)

  -- a turn of the first loop
  longer_is : (i : ℕ) (m' : Memory) → i < a.rows → Wide b m (longest a i) m' → all_hold (longer x b ∷ []) (sight_of (row_env (loops_of x) c i) m') ≡ Ok (nat_lt (longest a i) (count a i))
  longer_is i m' l w =
      ap (λ y. (y >>= (λ p. value_of (row_length x) (sight_of (row_env (loops_of x) c i) m') >>= (λ q. Ok (int_lt p q)))) >>= (λ b. if b then Ok true else Ok false)) (longest_value (longest a i) (row_env (loops_of x) c i) m' (longest_small i (let z : i ≤ a.rows = omega (arith, l) in z)) w)
      ∙ ap (λ y. (y >>= (λ q. Ok (int_lt (pos (longest a i)) q))) >>= (λ b. if b then Ok true else Ok false)) (length_value i (row_env (loops_of x) c i) m' l (zero_and i) w.others)
      ∙ by (int_lt (pos (longest a i)) (pos (count a i))) ∙ ap Ok (lt_same (longest a i) (count a i))
    where
      yes : Answer Bool
      yes = Ok true

      no : Answer Bool
      no = Ok false

      by : (b : Bool) → (if b then yes else no) ≡ Ok b
      by true = refl
      by false = refl

      lt_same : (p q : ℕ) → int_lt (pos p) (pos q) ≡ nat_lt p q
      lt_same p q = grind (arith, ints)

  widened : (k w : ℕ) (m' : Memory) → Wide b m k m' → Wide b m w (put_in b.wid (line (pos 0)) (pos w) m')
  widened k w m' g = record { wid = in_same b.wid (line (pos 0)) (pos w) m'; wid_long = g.wid_long; others = spares_put (is_row_array b) m m' b.wid (own_wid b) g.others (line (pos 0)) (pos w) }

  widen_goes : (i : ℕ) (at : Place) (m' : Memory) → i < a.rows → Wide b m (longest a i) m' → Leads (widen x b ∷ []) (row_env (loops_of x) c i) at 0 m' 0 (Wide b m (longest a (suc i)))
  widen_goes i at m' l w =
      goes_if (longer x b ∷ []) (put_width x b ∷ []) [] (row_env (loops_of x) c i) at 0 m' 0 (Wide b m (longest a (suc i))) (Wide b m (longest a (suc i))) (nat_lt (longest a i) (count a i)) (longer_is i m' l w)
      (λ e.
      goes_put (cell b.wid (Const (pos 0))) (row_length x) [] (row_env (loops_of x) c i) at 0 m' 0 _ (put b.wid (line (pos 0)) (pos (count a i)))
      (put_line b.wid (Const (pos 0)) (row_length x) (row_env (loops_of x) c i) m' (pos 0) (pos (count a i)) (length_value i (row_env (loops_of x) c i) m' l (zero_and i) w.others) (value_const (pos 0) _ (omega arith))
      (inside_long (m'.extents b.wid) (pos 0) (pos 1) w.wid_long (from_zero 0) (below 0 1 (omega arith))))
      (goes_end (row_env (loops_of x) c i) at _ _ _ (subst (λ k. Wide b m k (put_in b.wid (line (pos 0)) (pos (count a i)) m')) (above (longest a i) (count a i) e) (widened (longest a i) (count a i) m' w))))
      (λ e. subst (λ k. Wide b m k m') (not_above (longest a i) (count a i) e) w)
      (λ m'' q. goes_end (row_env (loops_of x) c i) at _ m'' _ q)
    where
      above : (p q : ℕ) → nat_lt p q ≡ true → q ≡ max p q
      above p q e = grind (arith, e)

      not_above : (p q : ℕ) → nat_lt p q ≡ false → p ≡ max p q
      not_above p q e = grind (arith, e)

  -- a turn of the second nest
  module _ (i j : ℕ) (l : i < a.rows) (u : j < count a i) where
    inside : a.first i + j < a.first a.rows
    inside = place_in a h.is_csr i j l u

    entry_has : (m' : Memory) → Bounded (Var entry_name) (sight_of (turn_env (loops_of x) c i (a.first i) j) m') (pos (a.first i + j)) large
    entry_has m' = bounded_var entry_name _ (a.first i + j) large refl (let p = h.entries_small in let z : a.first i + j < a.first a.rows = inside in up (a.first i + j) (a.first a.rows) large (omega (arith, z)) p)

    entry_value : (m' : Memory) → value_of (Var entry_name) (sight_of (turn_env (loops_of x) c i (a.first i) j) m') ≡ Ok (pos (a.first i + j))
    entry_value m' = value_bounded _ _ (pos (a.first i + j)) large (entry_has m') large_fits

    subscripts_are : (m' : Memory) (y : Name) → Spares (is_row_array b) m m' → subscripts_of (let z = cell_in_row x y in z.at) (sight_of (turn_env (loops_of x) c i (a.first i) j) m') ≡ Ok (pos i ∷ pos j ∷ pos 0 ∷ [])
    subscripts_are m' y g =
        subscripts_two (Var row_name) (Minus (Var entry_name) (At (cell x.index (Var row_name)))) _ (pos i) (pos j) (row_value i _ m' l (row_there x c i (a.first i) j))
        (value_bounded _ _ (pos j) (large + large)
        (bounded_as _ _ _ (pos j) (large + large) (large + large) (less_first (a.first i) j) (omega arith)
        (bounded_minus _ _ _ (pos (a.first i + j)) (pos (a.first i)) large large (entry_has m')
        (begin_has (Var row_name) i _ m' (let z : i ≤ a.rows = omega (arith, l) in z) g (row_value i _ m' l (row_there x c i (a.first i) j)))))
        (let z : large + large ≤ greatest = omega arith in z))

    in_width : j < width a
    in_width = let p : count a i ≤ width a = covers a a.rows i l in omega (arith, p, u)

    in_rows : (es : List ℤ) → es ≡ pos a.rows ∷ pos (width a) ∷ pos 1 ∷ [] → is_inside (pos i ∷ pos j ∷ pos 0 ∷ []) es ≡ true
    in_rows es e = inside_extents (pos i ∷ pos j ∷ pos 0 ∷ []) (pos a.rows ∷ pos (width a) ∷ pos 1 ∷ []) es e (inside_two i j a.rows (width a) l in_width)

    read_is : (m' : Memory) → Spares (is_row_array b) m m' → spot (cell x.value (Var entry_name)) (scene_of (turn_env (loops_of x) c i (a.first i) j) m') ≡ Ok (value_cell x (a.first i + j))
    read_is m' g =
        spot_at (cell x.value (Var entry_name)) _ m' (line (pos (a.first i + j))) (subscripts_one (Var entry_name) _ (pos (a.first i + j)) (entry_value m'))
        (inside_long (m'.extents x.value) (pos (a.first i + j)) (pos (a.first a.rows)) (g.extents x.value n.value ∙ v.value_long) (from_zero (a.first i + j)) (below (a.first i + j) (a.first a.rows) inside))

    column_is : (m' : Memory) → Spares (is_row_array b) m m' → value_of (column x) (sight_of (turn_env (loops_of x) c i (a.first i) j) m') ≡ Ok (pos (a.col (a.first i + j)))
    column_is m' g =
        value_read x.col (Var entry_name) _ m' (pos (a.first i + j)) (pos (a.col (a.first i + j))) (entry_value m')
        (inside_long (m'.extents x.col) (pos (a.first i + j)) (pos (a.first a.rows)) (g.extents x.col n.col ∙ h.col_long) (from_zero (a.first i + j)) (below (a.first i + j) (a.first a.rows) inside))
        (ap (λ z. z (line (pos (a.first i + j)))) (g.index x.col n.col) ∙ h.col (a.first i + j) inside)
        (let p = h.cols_small in let q : a.col (a.first i + j) < a.cols = (h.is_csr).column (a.first i + j) inside in up (a.col (a.first i + j)) large greatest (up (a.col (a.first i + j)) a.cols large (omega (arith, q)) p) large_fits)

    abbrev stored : Step
    stored = record { target = of_row b.lay i j; how = Add; value = load (value_cell x (a.first i + j)) }

    abbrev with_value : Memory → Memory
    with_value m' = do_deed (assign (record { target = of_row b.lay i j; how = Add; value = load (value_cell x (a.first i + j)) })) m'

    abbrev with_column : Memory → Memory
    with_column m' = put_in b.lcol (pos i ∷ pos j ∷ pos 0 ∷ []) (pos (a.col (a.first i + j))) m'

    -- the cell was 0, so the sum is the entry's value
    sum_is : (m' : Memory) → Filled b m a i j m' → wrapped (m'.cells (of_row b.lay i j) + m'.cells (value_cell x (a.first i + j))) ≡ a.worth (a.first i + j)
    sum_is m' f =
        ap (λ k. wrapped (k + m'.cells (value_cell x (a.first i + j)))) (f.values i j ∙ shown_here a.worth a i j)
        ∙ ap (λ k. wrapped (0 + k)) ((f.wide).others.cells (value_cell x (a.first i + j)) n.value ∙ v.value (a.first i + j) inside)
        ∙ ap wrapped (let z : 0 + a.worth (a.first i + j) ≡ a.worth (a.first i + j) = omega arith in z)
        ∙ mod-eq_of_lt (v.numbers (a.first i + j) inside)

    filled : (m' : Memory) → Filled b m a i j m' → Filled b m a i (suc j) (with_column (with_value m'))
    filled m' f = record {
      wide = record {
        wid = in_other b.lcol b.wid (pos i ∷ pos j ∷ pos 0 ∷ []) (line (pos 0)) (pos (a.col (a.first i + j))) (with_value m') (other_way b.wid b.lcol n.wid_lcol) ∙ (f.wide).wid;
        wid_long = (f.wide).wid_long;
        others = spares_put (is_row_array b) m (with_value m') b.lcol (own_lcol b) (spares_assign (is_row_array b) m m' b.lay (own_lay b) (f.wide).others stored refl) (pos i ∷ pos j ∷ pos 0 ∷ []) (pos (a.col (a.first i + j)));
      };
      lay_long = f.lay_long;
      lcol_long = f.lcol_long;
      values = λ r s.
          ap (λ e. if e && same_numbers (pos i ∷ pos j ∷ pos 0 ∷ []) (pos r ∷ pos s ∷ pos 0 ∷ []) then wrapped (m'.cells (of_row b.lay i j) + m'.cells (value_cell x (a.first i + j))) else m'.cells (of_row b.lay r s)) (name_self b.lay)
          ∙ ap (λ e. if e then wrapped (m'.cells (of_row b.lay i j) + m'.cells (value_cell x (a.first i + j))) else m'.cells (of_row b.lay r s)) (same_pair i j r s)
          ∙ ap (λ k. if nat_eq i r && nat_eq j s then k else m'.cells (of_row b.lay r s)) (sum_is m' f)
          ∙ ap (λ k. if nat_eq i r && nat_eq j s then a.worth (a.first i + j) else k) (f.values r s)
          ∙ shown_more a.worth a i j r s;
      columns = λ r s.
          in_line b.lcol (pos i ∷ pos j ∷ pos 0 ∷ []) (pos r ∷ pos s ∷ pos 0 ∷ []) (pos (a.col (a.first i + j))) (with_value m')
          ∙ ap (λ e. if e then pos (a.col (a.first i + j)) else m'.index b.lcol (pos r ∷ pos s ∷ pos 0 ∷ [])) (same_pair i j r s)
          ∙ ap (λ k. if nat_eq i r && nat_eq j s then pos (a.col (a.first i + j)) else k) (f.columns r s)
          ∙ by_pos (nat_eq i r && nat_eq j s) (a.col (a.first i + j)) (shown a.col a i j r s)
          ∙ ap pos (shown_more a.col a i j r s);
    }
      where
        by_pos : (b : Bool) (p q : ℕ) → (if b then pos p else pos q) ≡ pos (if b then p else q)
        by_pos true p q = refl
        by_pos false p q = refl

    turn_goes : (at : Place) (m' : Memory) → Filled b m a i j m' → Leads (padded x b) (turn_env (loops_of x) c i (a.first i) j) at 0 m' 0 (Filled b m a i (suc j))
    turn_goes at m' f =
        goes_assign (cell_in_row x b.lay) Add (of_data.At (cell x.value (Var entry_name))) _ _ at 0 m' 0 _ stored
        (assigned_at (cell_in_row x b.lay) (cell x.value (Var entry_name)) Add _ m' (of_row b.lay i j) (value_cell x (a.first i + j)) (read_is m' (f.wide).others)
        (spot_at (cell_in_row x b.lay) _ m' (pos i ∷ pos j ∷ pos 0 ∷ []) (subscripts_are m' b.lay (f.wide).others) (in_rows (m'.extents b.lay) f.lay_long)))
        (goes_put (cell_in_row x b.lcol) (column x) [] _ at _ (with_value m') 0 _ (put b.lcol (pos i ∷ pos j ∷ pos 0 ∷ []) (pos (a.col (a.first i + j))))
        (put_at (cell_in_row x b.lcol) (column x) _ (with_value m') (pos i ∷ pos j ∷ pos 0 ∷ []) (pos (a.col (a.first i + j)))
        (column_is (with_value m') (spares_assign (is_row_array b) m m' b.lay (own_lay b) (f.wide).others stored refl))
        (subscripts_are (with_value m') b.lcol (spares_assign (is_row_array b) m m' b.lay (own_lay b) (f.wide).others stored refl)) (in_rows (m'.extents b.lcol) f.lcol_long))
        (goes_end _ at _ _ _ (filled m' f)))

  next_row : (i : ℕ) (m' : Memory) → Filled b m a i (count a i) m' → Filled b m a (suc i) 0 m'
  next_row i m' f = record {
    wide = f.wide;
    lay_long = f.lay_long;
    lcol_long = f.lcol_long;
    values = λ r s. f.values r s ∙ shown_next a.worth a i r s;
    columns = λ r s. f.columns r s ∙ ap pos (shown_next a.col a i r s);
  }

  turns : Turns (loops_of x) c a.rows a.first (count a) (padded x b) [] (Filled b m a)
  turns = record {
    rows_are = rows_value;
    from = λ i m' l f. from_value i _ m' l (zero_and i) (f.wide).others;
    to = λ i m' l f. to_value i _ m' l (zero_and i) (f.wide).others;
    turn = λ i j at m' l u f. turn_goes i j l u at m' f;
    row_end = λ i at m' l f. goes_end _ at 1 m' _ (next_row i m' f);
  }

  -- the memories behind the lines in front of the nest
  abbrev begun : Memory
  begun = with_extents b.wid (grown (pos 1) ((declared b.wid (long (pos 0)) m).extents b.wid)) (declared b.wid (long (pos 0)) m)

  wide_begun : Wide b m 0 begun
  wide_begun = record {
    wid = new_cell b.wid (long (pos 0)) (line (pos 0)) m;
    wid_long = long_same b.wid _ (declared b.wid (long (pos 0)) m) ∙ ap (grown (pos 1)) (new_long b.wid (long (pos 0)) m);
    others = spares_long (is_row_array b) m (declared b.wid (long (pos 0)) m) b.wid (own_wid b) (spares_declared (is_row_array b) m m b.wid (own_wid b) (record { index = λ y k. refl; extents = λ y k. refl; cells = λ y k. refl }) (long (pos 0))) (grown (pos 1) ((declared b.wid (long (pos 0)) m).extents b.wid));
  }

  abbrev inner : List ℤ
  inner = pos 0 ∷ pos (width a) ∷ pos 1 ∷ []

  abbrev both : Memory → Memory
  both m' = declared b.lcol inner (declared b.lay inner m')

  lay_inner : (m' : Memory) → (both m').extents b.lay ≡ inner
  lay_inner m' = other_long b.lcol b.lay inner (declared b.lay inner m') (other_way b.lay b.lcol n.lay_lcol) ∙ new_long b.lay inner m'

  lcol_inner : (m' : Memory) → (both m').extents b.lcol ≡ inner
  lcol_inner m' = new_long b.lcol inner (declared b.lay inner m')

  abbrev with_rows : Memory → Memory
  with_rows m' = with_extents b.lay (grown (pos a.rows) ((both m').extents b.lay)) (both m')

  abbrev with_all : Memory → Memory
  with_all m' = with_extents b.lcol (grown (pos a.rows) ((with_rows m').extents b.lcol)) (with_rows m')

  lcol_rows : (m' : Memory) → (with_rows m').extents b.lcol ≡ inner
  lcol_rows m' = long_other b.lay b.lcol _ (both m') n.lay_lcol ∙ lcol_inner m'

  all_rows : grown (pos a.rows) (pos 0 ∷ pos (width a) ∷ pos 1 ∷ []) ≡ pos a.rows ∷ pos (width a) ∷ pos 1 ∷ []
  all_rows = ap (λ z. z ∷ pos (width a) ∷ pos 1 ∷ []) (zero_and a.rows)

  wide_all : (m' : Memory) → Wide b m (width a) m' → Wide b m (width a) (with_all m')
  wide_all m' w =
      wide_longer b m (width a) (with_rows m') b.lcol _ (own_lcol b) (other_way b.wid b.lcol n.wid_lcol)
      (wide_longer b m (width a) (both m') b.lay _ (own_lay b) (other_way b.wid b.lay n.wid_lay)
      (wide_declared b m (width a) (declared b.lay inner m') b.lcol inner (own_lcol b) (other_way b.wid b.lcol n.wid_lcol)
      (wide_declared b m (width a) m' b.lay inner (own_lay b) (other_way b.wid b.lay n.wid_lay) w)))

  filled_none : (m' : Memory) → Wide b m (width a) m' → Filled b m a 0 0 (with_all m')
  filled_none m' w = record {
    wide = wide_all m' w;
    lay_long = long_other b.lcol b.lay _ (with_rows m') (other_way b.lay b.lcol n.lay_lcol) ∙ long_same b.lay _ (both m') ∙ ap (grown (pos a.rows)) (lay_inner m') ∙ all_rows;
    lcol_long = long_same b.lcol _ (with_rows m') ∙ ap (grown (pos a.rows)) (lcol_rows m') ∙ all_rows;
    values = λ r s. no_value r s ∙ sym (shown_first a.worth a r s);
    columns = λ r s. new_cell b.lcol inner (pos r ∷ pos s ∷ pos 0 ∷ []) (declared b.lay inner m') ∙ ap pos (sym (shown_first a.col a r s));
  }
    where
      no_value : (r s : ℕ) → (both m').cells (of_row b.lay r s) ≡ 0
      no_value r s =
          ap (λ e. if e then 0 else (if same_name b.lay b.lay then 0 else m'.cells (of_row b.lay r s))) (other_way b.lay b.lcol n.lay_lcol)
          ∙ ap (λ e. if e then 0 else m'.cells (of_row b.lay r s)) (name_self b.lay)

  cells_fit : (0 + a.rows) * (width a * (1 * 1)) ≤ greatest
  cells_fit =
      let r : 0 + a.rows ≤ 2 ^ 24 = let z = h.rows_small in omega (arith, z) in
      let s : width a * (1 * 1) ≤ 2 ^ 24 = let y : width a * (1 * 1) ≡ width a = mul-one (width a) in let z : width a ≤ large = width_small in omega (arith, y, z) in
      let p : (0 + a.rows) * (width a * (1 * 1)) ≤ 2 ^ 24 * 2 ^ 24 = mul-le-mul r s in
      up ((0 + a.rows) * (width a * (1 * 1))) (2 ^ 24 * 2 ^ 24) greatest p (omega arith)

  rows_fit : 0 + a.rows ≤ greatest
  rows_fit = let z = h.rows_small in let y : 2 ^ 24 ≤ greatest = omega arith in omega (arith, y, z)

  left : (m' : Memory) → Filled b m a a.rows 0 m' → LeftRows b m a m'
  left m' f = record {
    wid = (f.wide).wid;
    wid_long = (f.wide).wid_long;
    lay_long = f.lay_long;
    lcol_long = f.lcol_long;
    values = λ r s l. f.values r s ∙ shown_end a.worth a r s l;
    columns = λ r s l. f.columns r s ∙ ap pos (shown_end a.col a r s l);
    others = (f.wide).others;
  }

  arrays_go : (m' : Memory) → Wide b m (width a) m'
      → Leads (Declare b.lay Number (longest_so_far b ∷ []) ∷ Declare b.lcol Position (longest_so_far b ∷ []) ∷ Grow b.lay (Var x.rows) ∷ Grow b.lcol (Var x.rows) ∷ over_rows (loops_of x) (padded x b) [] ∷ []) c [] 3 m' (a.rows + a.first a.rows) (LeftRows b m a)
  arrays_go m' w =
      goes_declare b.lay Number (longest_so_far b ∷ []) _ c [] 3 m' _ _ (declare b.lay Number inner) (declare_one b.lay Number (longest_so_far b) c m' (width a) (longest_value (width a) c m' width_small w) (up (width a) large greatest width_small large_fits))
      (goes_declare b.lcol Position (longest_so_far b ∷ []) _ c [] 4 (declared b.lay inner m') _ _ (declare b.lcol Position inner)
      (declare_one b.lcol Position (longest_so_far b) c (declared b.lay inner m') (width a)
      (longest_value (width a) c (declared b.lay inner m') width_small (wide_declared b m (width a) m' b.lay inner (own_lay b) (other_way b.wid b.lay n.wid_lay) w)) (up (width a) large greatest width_small large_fits))
      (goes_grow b.lay (Var x.rows) _ c [] 5 (both m') _ _ (grow b.lay (pos a.rows)) (grow_inner b.lay (Var x.rows) c (both m') 0 a.rows (width a) 1 (rows_value (both m')) (lay_inner m') rows_fit cells_fit)
      (goes_grow b.lcol (Var x.rows) _ c [] 6 (with_rows m') _ _ (grow b.lcol (pos a.rows)) (grow_inner b.lcol (Var x.rows) c (with_rows m') 0 a.rows (width a) 1 (rows_value (with_rows m')) (lcol_rows m') rows_fit cells_fit)
      (weaker _ c [] 7 (with_all m') _ _ (Filled b m a a.rows 0) _ (ap (λ t. a.rows + t) (all_entries a h.is_csr a.rows (omega arith))) left
      (rows_go (loops_of x) c a.rows a.first (count a) (padded x b) [] (Filled b m a) turns [] 7 (with_all m') (filled_none m' w))))))

  whole : Leads (lines_of x b) c [] 0 m (a.rows + (a.rows + a.first a.rows)) (LeftRows b m a)
  whole =
      goes_declare b.wid Position [] _ c [] 0 m _ _ (declare b.wid Position (long (pos 0))) refl
      (goes_grow b.wid (Const (pos 1)) _ c [] 1 (declared b.wid (long (pos 0)) m) _ _ (grow b.wid (pos 1))
      (grow_value b.wid (Const (pos 1)) c (declared b.wid (long (pos 0)) m) 0 1 (value_const (pos 1) _ (omega arith)) (new_long b.wid (long (pos 0)) m) (omega arith))
      (weaker _ c [] 2 begun _ _ (LeftRows b m a) _ (ap (λ t. t + (a.rows + a.first a.rows)) (inner_turns a.rows)) (λ m' q. q)
      (goes_count row_name (Const (pos 0)) (Var x.rows) (widen x b ∷ []) _ c [] 2 begun (a.rows + a.first a.rows) (LeftRows b m a) (pos 0) a.rows (λ i. 0) (λ i. Wide b m (longest a i))
      (value_const (pos 0) _ (omega arith)) (rows_value begun ∙ ap Ok (sym (zero_and a.rows))) wide_begun
      (λ i m' l w. widen_goes i _ m' l w)
      (λ m' w. arrays_go m' w))))

lines_are : (x : Matrix) (b : RowNames) → padded_lines x b ≡ lines_of x b
unfolding padded_lines
lines_are x b = refl

pub pads : RowLinesPadRows
pads x b c m a h v n = subst (λ ts. Goes (run ts c) m (a.rows + (a.rows + a.first a.rows)) (LeftRows b m a)) (sym (lines_are x b)) (whole x b c m a h v n).goes
