-- The lines of a compacted level without a layout, on any matrix.
use Rattle.std.proofs.Common.{◌≡◌, refl, sym, ap, ◌∙◌, subst, ℕ, zero, suc, ◌+◌, ◌*◌, ◌≤◌, ◌<◌, ℤ, pos, ◌+ℤ◌, ◌-ℤ◌, ◌≤ℤ◌, ◌<ℤ◌, Bool, true, List, [], map, Ok, arith}
use Rattle.std.proofs.lemmas.Int.{ints}
use Rattle.std.proofs.lemmas.Slice.Eq.{bytes_eq-Decides}
use Rattle.c_tree.specs.declared.program.Matrix.{Matrix}
use Rattle.c_tree.specs.declared.index.Index.{Index}
use Rattle.c_tree.specs.declared.index.Index.TheVariants.{Const, Var, At, Plus, Max}
use Rattle.c_meaning.specs.Names.{line}
use Rattle.c_meaning.specs.Weighed.{greatest, plain}
use Rattle.c_meaning.specs.Value.{measure, value_of}
use Rattle.c_meaning.specs.Memory.{Memory, Env, sight_of}
use Rattle.c_meaning.specs.Run.{run}
use Rattle.inspectors.specs.declared.names.MarkNames.{MarkNames}
use Rattle.inspectors.specs.Trees.{row_name, entry_name}
use Rattle.inspectors.specs.Expressions.{column, is_square, value, offset, width, group, next_group, pointers}
use Rattle.inspectors.specs.Marks.{mark_lines, compact_lines}
use Rattle.sparse_marks.specs.Matrices.{Csr, Entry, count, entries_before, entries}
use Rattle.sparse_marks.specs.Forms.{Form, group_by, groups_by, groups, placed, value_at, least_value, greatest_value}
use Rattle.sparse_marks.specs.Walks.{walk, met_before, sum_below}
use Rattle.sparse_marks.proofs.Ranges.{value_inside}
use Rattle.sparse_marks.proofs.Telling.{met_is, rising_by, groups_above}
use Rattle.inspector_runs.specs.Rules.{Goes}
use Rattle.inspector_runs.specs.Texts.{Arrays, Text, cell, kept_lines}
use Rattle.inspector_runs.specs.Shown.{Agrees, Gives, Fits, Left, cleared, SizesFit, row_env, turn_env}
use Rattle.inspector_runs.specs.Laws.{sizes}
use Rattle.inspector_runs.proofs.Values.{inside_long, measure_read, value_by, value_var}
use Rattle.inspector_runs.proofs.Heads.{lines_leave, no_rows}
use Rattle.inspector_laws.specs.Ready.{Holds, NamesFit, arrays_of, IsSmallForm, group_of, start_count, mark_count, compacted}
use Rattle.inspector_laws.specs.Laws.{CompactLinesLeaveKeptValues}
use Rattle.inspector_laws.proofs.Bounded.{Bounded, bounded_as, bounded_plain, bounded_const, bounded_var, bounded_plus, value_bounded, value_covered, natural, bounded_natural}
use Rattle.inspector_laws.proofs.Sums.{part, large}
use Rattle.inspector_laws.proofs.Expressions.{loops_of, row_there, other_there, SeesAll, value_has, offset_has, width_has, any_width, width_some, any_marks, some_marks, group_has, next_has, pointers_has}
use Rattle.inspector_laws.proofs.Matrices.{first_rises, next_first, place_in, all_entries, group_inside, below_natural}

-- the expressions of the lines
abbrev pub text_of : Matrix → Bool → Form → Text
text_of x cols_first f = record {
  value = value (compacted x cols_first f);
  from_low = offset (compacted x cols_first f);
  group = group (group_of f.rows);
  next_group = next_group (group_of f.rows);
}

abbrev pub starts_of : Matrix → Form → Index
starts_of x f = pointers x (group_of f.rows)

abbrev pub marks_of : Matrix → Bool → Form → Index
marks_of x cols_first f = Max (Const (pos 0)) (width (compacted x cols_first f))

lines_are : (x : Matrix) (cols_first : Bool) (f : Form) (b : MarkNames) → compact_lines (compacted x cols_first f) b ≡ kept_lines (arrays_of b) (text_of x cols_first f) (loops_of x) (starts_of x f) (marks_of x cols_first f)
unfolding mark_lines
lines_are x cols_first f b = refl

large_fits : large ≤ greatest
large_fits = omega arith

next_fits : large + 2 ≤ greatest
next_fits = omega arith

sum_fits : 10 * part + 1 ≤ greatest
sum_fits = omega arith

up : (a b c : ℕ) → a ≤ b → b ≤ c → a ≤ c
up a b c p q = omega (arith, p, q)

module _ (x : Matrix) (cols_first : Bool) (f : Form) (b : Arrays) (c : Env) (m : Memory) (a : Csr) (h : Holds x c m a) (n : NamesFit x b) (k : IsSmallForm f) where
  rows_bounded : (m' : Memory) → Bounded (Var x.rows) (sight_of c m') (pos a.rows) large
  rows_bounded m' = bounded_var x.rows (sight_of c m') a.rows large h.rows h.rows_small

  cols_bounded : (m' : Memory) → Bounded (Var x.cols) (sight_of c m') (pos a.cols) large
  cols_bounded m' = bounded_var x.cols (sight_of c m') a.cols large h.cols h.cols_small

  number_is : (i j : ℕ) → pos i ≡ pos j → i ≡ j
  number_is i j e = cc

  square : is_square x ≡ true → a.rows ≡ a.cols
  square q = number_is a.rows a.cols (sym h.rows ∙ ap c ((bytes_eq-Decides x.rows x.cols).0 q) ∙ h.cols)

  row_small : (i : ℕ) → i < a.rows → i ≤ large
  row_small i l = let p = h.rows_small in up i a.rows large (omega (arith, l)) p

  -- what is seen in a turn
  module _ (i j : ℕ) (l : i < a.rows) (u : j < count a i) (m' : Memory) (g : Agrees b (cleared b m) m') where
    inside : a.first i + j < a.first a.rows
    inside = place_in a h.is_csr i j l u

    place_small : a.first i + j ≤ greatest
    place_small = let p = h.entries_small in up (a.first i + j) large greatest (up (a.first i + j) (a.first a.rows) large (let z = inside in omega (arith, z)) p) large_fits

    column_read : measure (column x) (sight_of (turn_env (loops_of x) c i (a.first i) j) m') ≡ Ok (plain (pos (a.col (a.first i + j))))
    column_read =
        measure_read x.col (Var entry_name) (turn_env (loops_of x) c i (a.first i) j) m' (pos (a.first i + j)) (pos (a.col (a.first i + j)))
        (value_var entry_name (sight_of (turn_env (loops_of x) c i (a.first i) j) m') place_small)
        (inside_long _ (pos (a.first i + j)) (pos (a.first a.rows)) (g.extents x.col n.col ∙ h.col_long) (from_zero (a.first i + j)) (less_pos (a.first i + j) (a.first a.rows) inside))
        (ap (λ z. z (line (pos (a.first i + j)))) (g.index x.col n.col) ∙ h.col (a.first i + j) inside)
      where
        from_zero : (n : ℕ) → pos 0 ≤ℤ pos n
        from_zero n = grind (arith, ints)

        less_pos : (m n : ℕ) → m < n → pos m <ℤ pos n
        less_pos m n h = grind (arith, ints)

    column_small : a.col (a.first i + j) ≤ large
    column_small = let p = h.cols_small in let q : a.col (a.first i + j) < a.cols = (h.is_csr).column (a.first i + j) inside in up (a.col (a.first i + j)) a.cols large (omega (arith, q)) p

    pub sees_all : SeesAll x (sight_of (turn_env (loops_of x) c i (a.first i) j) m') i a.rows a.cols (a.col (a.first i + j))
    sees_all = record {
      row = bounded_var row_name _ i large (row_there x c i (a.first i) j) (row_small i l);
      rows = bounded_var x.rows _ a.rows large (other_there x c i (a.first i) j x.rows n.entry_rows n.row_rows ∙ h.rows) h.rows_small;
      cols = bounded_var x.cols _ a.cols large (other_there x c i (a.first i) j x.cols n.entry_cols n.row_cols ∙ h.cols) h.cols_small;
      column = bounded_plain (column x) _ (pos (a.col (a.first i + j))) large column_read column_small;
      square = square;
    }

    -- the entry's value lies in the range
    in_range : (least_value f a ≤ℤ value_at f i (a.col (a.first i + j))) × (value_at f i (a.col (a.first i + j)) ≤ℤ greatest_value f a)
    in_range = value_inside f.c f.s0 f.divisor i a.rows (a.col (a.first i + j)) a.cols k.divisor l ((h.is_csr).column (a.first i + j) inside)

  part_fits : 5 * part ≤ greatest
  part_fits = omega arith

  parts_fit : 10 * part ≤ greatest
  parts_fit = omega arith

  -- in the turn of an entry the expressions have its value, its mark's place and its group
  gives : (m0 i j : ℕ) → a.rows ≡ suc m0 → i < a.rows → j < count a i
      → Gives b (text_of x cols_first f) (turn_env (loops_of x) c i (a.first i) j) (cleared b m) (value_at f i (a.col (a.first i + j))) (value_at f i (a.col (a.first i + j)) -ℤ least_value f a) (group_by f.rows i)
  gives m0 i j q l u = record {
    value = λ m' g. value_bounded _ _ _ (5 * part) (value_has x cols_first f _ i a.rows a.cols (a.col (a.first i + j)) k (sees_all i j l u m' g)) part_fits;
    from_low = λ m' g. value_bounded _ _ _ (10 * part)
        (offset_has x cols_first f a _ i m0 (a.col (a.first i + j)) q k (subst (λ n. SeesAll x (sight_of (turn_env (loops_of x) c i (a.first i) j) m') i n a.cols (a.col (a.first i + j))) q (sees_all i j l u m' g))) parts_fit;
    group = λ m' g. value_bounded _ _ _ large (group_has f.rows _ i large (bounded_var row_name _ i large (row_there x c i (a.first i) j) (row_small i l))) large_fits;
  }

  -- where a row begins and ends
  zero_and : (i : ℕ) → pos 0 +ℤ pos i ≡ pos i
  zero_and i = grind (arith, ints)

  row_bounded : (i : ℕ) (m' : Memory) → i < a.rows → Bounded (Var row_name) (sight_of (row_env (loops_of x) c i) m') (pos i) large
  row_bounded i m' l = bounded_var row_name _ i large (zero_and i) (row_small i l)

  begins_small : (r : ℕ) → r ≤ a.rows → a.first r ≤ large
  begins_small r l = let p = h.entries_small in up (a.first r) (a.first a.rows) large (first_rises a h.is_csr r a.rows l (omega arith)) p

  index_read : (e : Index) (r i : ℕ) (m' : Memory) → r ≤ a.rows → Agrees b (cleared b m) m' → value_of e (sight_of (row_env (loops_of x) c i) m') ≡ Ok (pos r) → value_of (At (cell x.index e)) (sight_of (row_env (loops_of x) c i) m') ≡ Ok (pos (a.first r))
  index_read e r i m' l g v =
      value_by _ _ (plain (pos (a.first r)))
      (measure_read x.index e (row_env (loops_of x) c i) m' (pos r) (pos (a.first r)) v
      (inside_long _ (pos r) (pos (suc a.rows)) (g.extents x.index n.index ∙ h.index_long) (at_least r) (below r a.rows l))
      (ap (λ z. z (line (pos r))) (g.index x.index n.index) ∙ h.index r l))
      (up (a.first r) large greatest (begins_small r l) large_fits)
    where
      at_least : (n : ℕ) → pos 0 ≤ℤ pos n
      at_least n = grind (arith, ints)

      below : (r n : ℕ) → r ≤ n → pos r <ℤ pos (suc n)
      below r n h = grind (arith, ints)

  row_value : (i : ℕ) (m' : Memory) → i < a.rows → value_of (Var row_name) (sight_of (row_env (loops_of x) c i) m') ≡ Ok (pos i)
  row_value i m' l = value_bounded _ _ (pos i) large (row_bounded i m' l) large_fits

  next_value : (i : ℕ) (m' : Memory) → i < a.rows → value_of (Plus (Var row_name) (Const (pos 1))) (sight_of (row_env (loops_of x) c i) m') ≡ Ok (pos (suc i))
  next_value i m' l =
      value_bounded _ _ (pos (suc i)) (large + 1) (bounded_as _ _ (pos i +ℤ pos 1) (pos (suc i)) (large + 1) (large + 1) (one_more i) (omega arith) (bounded_plus (Var row_name) (Const (pos 1)) _ (pos i) (pos 1) large 1 (row_bounded i m' l) (bounded_const (pos 1) _ 1 (omega arith))))
      (let z : large + 1 ≤ greatest = omega arith in z)
    where
      one_more : (i : ℕ) → pos i +ℤ pos 1 ≡ pos (suc i)
      one_more i = grind (arith, ints)

  -- the lines are those of the walk over the matrix
  module _ (m0 : ℕ) (q : a.rows ≡ suc m0) where
    within_marks : (v : ℤ) → least_value f a ≤ℤ v → v ≤ℤ greatest_value f a → (v -ℤ least_value f a) <ℤ pos (natural ((greatest_value f a -ℤ least_value f a) +ℤ pos 1))
    within_marks v p r = below_natural (v -ℤ least_value f a) ((greatest_value f a -ℤ least_value f a) +ℤ pos 1) (not_less v (least_value f a) p) (less_more v (greatest_value f a) (least_value f a) r)
      where
        not_less : (v l : ℤ) → l ≤ℤ v → pos 0 ≤ℤ (v -ℤ l)
        not_less v l p = omega (arith, ints, p)

        less_more : (v g l : ℤ) → v ≤ℤ g → (v -ℤ l) <ℤ ((g -ℤ l) +ℤ pos 1)
        less_more v g l p = omega (arith, ints, p)

    not_below : (v l : ℤ) → l ≤ℤ v → pos 0 ≤ℤ (v -ℤ l)
    not_below v l p = omega (arith, ints, p)

    pub fits : (rest : Entry → List ℤ) → Fits b (text_of x cols_first f) (loops_of x) c (cleared b m) (sizes (least_value f a) (suc (groups_by f.rows a.rows)) (natural ((greatest_value f a -ℤ least_value f a) +ℤ pos 1))) a.rows a.first (walk f rest a)
    fits rest = record {
      apart = n.apart;
      rising = rising_by f.rows;
      rows_are = λ m'. value_bounded _ _ (pos a.rows) large (rows_bounded m') large_fits;
      from = λ i m' l g. index_read (Var row_name) i i m' (let z : i ≤ a.rows = omega (arith, l) in z) g (row_value i m' l);
      to = λ i m' l g. index_read (Plus (Var row_name) (Const (pos 1))) (suc i) i m' l g (next_value i m' l) ∙ ap (λ z. Ok (pos z)) (sym (next_first a h.is_csr i l));
      next = λ i m' l g. value_bounded _ _ (pos (suc (group_by f.rows i))) (large + 1) (next_has f.rows _ i large (row_bounded i m' l)) (let z : large + 1 ≤ greatest = omega arith in z);
      groups_in = λ i l. more (group_by f.rows i) (groups_by f.rows a.rows) (group_inside f.rows i a.rows l);
      gives = λ i j l u. gives m0 i j q l u;
      low_in = λ i j l u. not_below _ _ (in_range i j l u (cleared b m) (record { index = λ y z. refl; extents = λ y z. refl; cells = refl })).0;
      high_in = λ i j l u. let r = in_range i j l u (cleared b m) (record { index = λ y z. refl; extents = λ y z. refl; cells = refl }) in within_marks _ r.0 r.1;
      small = (let p = h.entries_small in let z : sum_below (count a) a.rows ≡ a.first a.rows = all_entries a h.is_csr a.rows (omega arith) in small_sum _ _ z p);
    }
      where
        more : (g n : ℕ) → g < n → pos (suc g) <ℤ pos (suc n)
        more g n h = grind (arith, ints)

        small_sum : (s t : ℕ) → s ≡ t → t ≤ large → s + 2 ≤ greatest
        small_sum s t e p = up (s + 2) (large + 2) greatest (omega (arith, e, p)) next_fits

    pub sizes_fit : SizesFit b c (cleared b m) (starts_of x f) (marks_of x cols_first f) (suc (groups_by f.rows a.rows)) (natural ((greatest_value f a -ℤ least_value f a) +ℤ pos 1))
    sizes_fit = record {
      starts_are = λ m' g. value_bounded _ _ _ (large + 2) (starts_has m') next_fits;
      marks_are = λ m' g. value_bounded _ _ _ (10 * part + 1) (marks_has m') sum_fits;
      starts_small = up _ (large + 2) greatest (value_covered _ _ _ (large + 2) (starts_has m)) next_fits;
      marks_small = up _ (10 * part + 1) greatest (value_covered _ _ _ (10 * part + 1) (marks_has m)) sum_fits;
    }
      where
        starts_has : (m' : Memory) → Bounded (starts_of x f) (sight_of c m') (pos (suc (groups_by f.rows a.rows))) (large + 2)
        starts_has m' = pointers_has x f.rows (sight_of c m') a.rows large (rows_bounded m')

        marks_has : (m' : Memory) → Bounded (marks_of x cols_first f) (sight_of c m') (pos (natural ((greatest_value f a -ℤ least_value f a) +ℤ pos 1))) (10 * part + 1)
        marks_has m' =
            bounded_natural (width (compacted x cols_first f)) (sight_of c m') ((greatest_value f a -ℤ least_value f a) +ℤ pos 1) (10 * part + 1)
            (width_has x cols_first f a (sight_of c m') m0 q k (subst (λ r. Bounded (Var x.rows) (sight_of c m') (pos r) large) q (rows_bounded m')) (cols_bounded m') (λ z. sym q ∙ square z))

    with_rows : Goes (run (kept_lines b (text_of x cols_first f) (loops_of x) (starts_of x f) (marks_of x cols_first f)) c) m (suc m0 + sum_below (count a) (suc m0)) (Left b (start_count f a) (mark_count f a) (cleared b m) (map (placed f (λ e. [])) (entries_before a (suc m0))) (groups_by f.rows (suc m0)))
    with_rows =
        subst (λ g. Goes (run (kept_lines b (text_of x cols_first f) (loops_of x) (starts_of x f) (marks_of x cols_first f)) c) m (suc m0 + sum_below (count a) (suc m0)) (Left b (start_count f a) (mark_count f a) (cleared b m) (map (placed f (λ e. [])) (entries_before a (suc m0))) g)) (sym (groups_above f.rows m0))
        (subst (λ es. Goes (run (kept_lines b (text_of x cols_first f) (loops_of x) (starts_of x f) (marks_of x cols_first f)) c) m (suc m0 + sum_below (count a) (suc m0)) (Left b (start_count f a) (mark_count f a) (cleared b m) es (suc (group_by f.rows m0)))) (met_is f (λ e. []) a (suc m0))
        (subst (λ k. Goes (run (kept_lines b (text_of x cols_first f) (loops_of x) (starts_of x f) (marks_of x cols_first f)) c) m (suc m0 + sum_below (count a) (suc m0)) (Left b (start_count f a) k (cleared b m) (met_before (walk f (λ e. []) a) (suc m0)) (suc (group_by f.rows m0)))) (some_marks f a m0 q)
        (lines_leave b (text_of x cols_first f) (loops_of x) (starts_of x f) (marks_of x cols_first f) c m (least_value f a) (suc (groups_by f.rows a.rows)) (natural ((greatest_value f a -ℤ least_value f a) +ℤ pos 1)) m0 a.first (walk f (λ e. []) a)
        sizes_fit
        (subst (λ r. Fits b (text_of x cols_first f) (loops_of x) c (cleared b m) (sizes (least_value f a) (suc (groups_by f.rows a.rows)) (natural ((greatest_value f a -ℤ least_value f a) +ℤ pos 1))) r a.first (walk f (λ e. []) a)) q (fits (λ e. []))))))

  -- no rows
  module _ (q : a.rows ≡ 0) where
    pub none_fit : SizesFit b c (cleared b m) (starts_of x f) (marks_of x cols_first f) (suc (groups_by f.rows a.rows)) (natural (any_width f a.rows a.cols))
    none_fit = record {
      starts_are = λ m' g. value_bounded _ _ _ (large + 2) (starts_has m') next_fits;
      marks_are = λ m' g. value_bounded _ _ _ (10 * part + 1) (marks_has m') sum_fits;
      starts_small = up _ (large + 2) greatest (value_covered _ _ _ (large + 2) (starts_has m)) next_fits;
      marks_small = up _ (10 * part + 1) greatest (value_covered _ _ _ (10 * part + 1) (marks_has m)) sum_fits;
    }
      where
        starts_has : (m' : Memory) → Bounded (starts_of x f) (sight_of c m') (pos (suc (groups_by f.rows a.rows))) (large + 2)
        starts_has m' = pointers_has x f.rows (sight_of c m') a.rows large (rows_bounded m')

        marks_has : (m' : Memory) → Bounded (marks_of x cols_first f) (sight_of c m') (pos (natural (any_width f a.rows a.cols))) (10 * part + 1)
        marks_has m' = bounded_natural (width (compacted x cols_first f)) (sight_of c m') (any_width f a.rows a.cols) (10 * part + 1) (width_some x cols_first f (sight_of c m') a.rows a.cols k (rows_bounded m') (cols_bounded m') square)

    none : (i : ℕ) → i < 0 → ⊥
    none i l = omega (arith, l)

    pub fits_none : (rest : Entry → List ℤ) → Fits b (text_of x cols_first f) (loops_of x) c (cleared b m) (sizes (pos 0) (suc (groups_by f.rows a.rows)) (natural (any_width f a.rows a.cols))) 0 a.first (walk f rest a)
    fits_none rest = record {
      apart = n.apart;
      rising = rising_by f.rows;
      rows_are = λ m'. value_bounded _ _ (pos a.rows) large (rows_bounded m') large_fits ∙ ap (λ r. Ok (pos r)) q;
      from = λ i m' l g. absurd (none i l);
      to = λ i m' l g. absurd (none i l);
      next = λ i m' l g. absurd (none i l);
      groups_in = λ i l. absurd (none i l);
      gives = λ i j l u. absurd (none i l);
      low_in = λ i j l u. absurd (none i l);
      high_in = λ i j l u. absurd (none i l);
      small = up 2 (large + 2) greatest (omega arith) next_fits;
    }

    without_rows : (g : ℕ) → Goes (run (kept_lines b (text_of x cols_first f) (loops_of x) (starts_of x f) (marks_of x cols_first f)) c) m 0 (Left b (start_count f a) (mark_count f a) (cleared b m) [] g)
    without_rows g =
        subst (λ k. Goes (run (kept_lines b (text_of x cols_first f) (loops_of x) (starts_of x f) (marks_of x cols_first f)) c) m 0 (Left b (start_count f a) k (cleared b m) [] g)) (any_marks f a)
        (no_rows b (text_of x cols_first f) (loops_of x) (starts_of x f) (marks_of x cols_first f) c m (pos 0) (suc (groups_by f.rows a.rows)) (natural (any_width f a.rows a.cols)) g a.first (walk f (λ e. []) a) none_fit (fits_none (λ e. [])))

  by_rows : (r : ℕ) → a.rows ≡ r → Goes (run (kept_lines b (text_of x cols_first f) (loops_of x) (starts_of x f) (marks_of x cols_first f)) c) m (r + sum_below (count a) r) (Left b (start_count f a) (mark_count f a) (cleared b m) (map (placed f (λ e. [])) (entries_before a r)) (groups_by f.rows r))
  by_rows zero q = without_rows q (groups_by f.rows 0)
  by_rows (suc r) q = with_rows r q

  whole : Goes (run (kept_lines b (text_of x cols_first f) (loops_of x) (starts_of x f) (marks_of x cols_first f)) c) m (a.rows + a.first a.rows) (Left b (start_count f a) (mark_count f a) (cleared b m) (map (placed f (λ e. [])) (entries a)) (groups f a))
  whole = subst (λ t. Goes (run (kept_lines b (text_of x cols_first f) (loops_of x) (starts_of x f) (marks_of x cols_first f)) c) m (a.rows + t) (Left b (start_count f a) (mark_count f a) (cleared b m) (map (placed f (λ e. [])) (entries a)) (groups f a))) (all_entries a h.is_csr a.rows (omega arith)) (by_rows a.rows refl)

pub compact_leaves : CompactLinesLeaveKeptValues
compact_leaves x cols_first f b c m a h n k =
    subst (λ ts. Goes (run ts c) m (a.rows + a.first a.rows) (Left (arrays_of b) (start_count f a) (mark_count f a) (cleared (arrays_of b) m) (map (placed f (λ e. [])) (entries a)) (groups f a))) (sym (lines_are x cols_first f b))
    (whole x cols_first f (arrays_of b) c m a h n k)
