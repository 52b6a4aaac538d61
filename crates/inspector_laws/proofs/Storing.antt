-- The lines of a compacted level with a layout, run on any matrix.
use Rattle.std.proofs.Common.{◌≡◌, refl, sym, ap, ◌∙◌, subst, ℕ, suc, ◌+◌, ◌-◌, ◌*◌, ◌≤◌, ◌<◌, ◌^◌, ℤ, pos, ◌+ℤ◌, ◌-ℤ◌, ◌≤ℤ◌, ◌<ℤ◌, Bool, true, ◌&&◌, List, [], ◌∷◌, ◌++◌, length, Ok, arith, nat_le, length-append, if◌then◌else◌}
use Rattle.std.proofs.lemmas.Int.{ints}
use Rattle.std.proofs.lemmas.List.{append-nil}
use Rattle.std.proofs.Math.Nat.{mul-le-mul}
use Rattle.c_tree.specs.declared.program.Matrix.{Matrix}
use Rattle.c_tree.specs.declared.program.Kind.TheVariants.{Number, Position}
use Rattle.c_tree.specs.declared.index.Index.{Index}
use Rattle.c_tree.specs.declared.index.Index.TheVariants.{Const, Var, At, Minus}
use Rattle.c_tree.specs.declared.index.Subscripts.{Subscripts}
use Rattle.c_tree.specs.declared.data.Expr.TheVariants as of_data
use Rattle.c_tree.specs.declared.statement.How.TheVariants.{Add}
use Rattle.c_tree.specs.declared.statement.Stmt.{Stmt}
use Rattle.c_tree.specs.declared.statement.Stmt.TheVariants.{If, Put, Assign, Declare, Grow}
use Rattle.c_meaning.specs.Names.{Name, Place, same_name, same_numbers, line}
use Rattle.c_meaning.specs.Ground.{Step, perform}
use Rattle.c_meaning.specs.Weighed.{greatest, plain, difference_of}
use Rattle.c_meaning.specs.Value.{is_inside, measure, value_of, subscripts_of}
use Rattle.c_meaning.specs.Memory.{Memory, Env, sight_of}
use Rattle.c_meaning.specs.Listing.{spot, scene_of}
use Rattle.c_meaning.specs.Run.{put, grow, grown, declare, assign, do_deed, with_extents, declared, declare_step}
use Rattle.c_meaning.proofs.Equations.{measure-Const}
use Rattle.c_meaning.proofs.Spots.{name_self, unread_cell, or_left, or_right}
use Rattle.inspectors.specs.Trees.{entry_name}
use Rattle.sparse_marks.specs.Matrices.{Csr, Entry, entry_at}
use Rattle.sparse_marks.specs.Matrices as of_matrix
use Rattle.sparse_marks.specs.Kept.{Placed, kept, kept_before, start}
use Rattle.sparse_marks.specs.Forms.{Form}
use Rattle.sparse_marks.specs.Marks.{Marks, unmarked, marked, Follows}
use Rattle.sparse_marks.specs.Walks.{Walk, met_before, walk, marks_in, sum_below}
use Rattle.sparse_marks.specs.Walks as of_walk
use Rattle.sparse_marks.proofs.Walking.{within, values_bound}
use Rattle.sparse_layouts.specs.Layouts.{Cells, laying, layout}
use Rattle.sparse_layouts.specs.Laws.{HoldsSums}
use Rattle.sparse_layouts.proofs.Laying.{holds_all}
use Rattle.inspector_runs.specs.Rules.{Leads}
use Rattle.inspector_runs.specs.Texts.{Arrays, Text, cell, count, new_test}
use Rattle.inspector_runs.specs.Shown.{is_made, Spares, Sizes, Shows, Left, Fits, cleared, SizesFit, row_env, turn_env}
use Rattle.inspector_runs.specs.Laws.{sizes}
use Rattle.inspector_runs.proofs.Values.{inside_long, measure_read, measure_minus, value_by, value_const, value_var, put_line}
use Rattle.inspector_runs.proofs.Targets.{subscripts_one, inside_extents, spot_at, assigned_at, grow_inner}
use Rattle.inspector_runs.proofs.Statements.{goes_end, goes_put, goes_grow, goes_declare, goes_assign, goes_if, weaker}
use Rattle.inspector_runs.proofs.Memories.{apart_from, made_val, long_same, long_other}
use Rattle.inspector_runs.proofs.Spared.{spares_long, spares_declared, spares_assign}
use Rattle.inspector_runs.proofs.Marking.{Turn, test_is, count_is, grown_val, noted, noted_goes, grows_val}
use Rattle.inspector_runs.proofs.Nests.{closed}
use Rattle.inspector_runs.proofs.Whole.{nest_of, left_by}
use Rattle.inspector_runs.proofs.Walked.{over_rows, Turns, rows_go}
use Rattle.inspector_runs.proofs.Heads.{made_arrays, with_marks, head_shows, growths_go, declares_go, other_cell, new_long, other_long}
use Rattle.inspector_runs.proofs.Beside.{declared_before, grown_before, shows_beside, shows_cells}
use Rattle.inspector_laws.specs.Ready.{Holds, HoldsValues, NamesFit, IsSmallForm, value_cell}
use Rattle.inspector_laws.specs.Layouts.{LayoutNamesFit, lay_cell, LaidOut}
use Rattle.inspector_laws.proofs.Sums.{large}
use Rattle.inspector_laws.proofs.Expressions.{loops_of, SeesAll}
use Rattle.inspector_laws.proofs.Matrices.{place_in, all_entries}
use Rattle.inspector_laws.proofs.Compacting.{text_of, starts_of, marks_of, sees_all}
use Rattle.inspector_laws.proofs.Stored.{some_mark, stores, cleared_store, store_adds}

up : (a b c : ℕ) → a ≤ b → b ≤ c → a ≤ c
up a b c p q = omega (arith, p, q)

from_zero : (n : ℕ) → pos 0 ≤ℤ pos n
from_zero n = grind (arith, ints)

below : (r n : ℕ) → r < n → pos r <ℤ pos n
below r n h = grind (arith, ints)

one_more : (n : ℕ) → pos n +ℤ pos 1 ≡ pos (suc n)
one_more n = grind (arith, ints)

one_less : (n : ℕ) → pos (suc n) -ℤ pos 1 ≡ pos n
one_less n = grind (arith, ints)

-- the position of an entry's value
abbrev pub place_text : Arrays → Text → Index
place_text b t = Minus (At (cell b.mark t.from_low)) (Const (pos 1))

-- how a layout is declared, and where an entry is stored
pub record Store (x : Matrix) (b : Arrays) (t : Text) (lay : Name) (c : Env) (a : Csr) (rest : Entry → List ℤ) (tail : List ℤ) (inner : List Index) (at : Subscripts) (w u : ℕ) : Type 0 where
  pub declares : (m : Memory) → declare_step lay Number inner c m ≡ Ok (declare lay Number (pos 0 ∷ pos w ∷ pos u ∷ []))
  pub subscripts : (i j p : ℕ) (m : Memory) → i < a.rows → j < of_matrix.count a i → SeesAll x (sight_of (turn_env (loops_of x) c i (a.first i) j) m) i a.rows a.cols (a.col (a.first i + j))
      → value_of (place_text b t) (sight_of (turn_env (loops_of x) c i (a.first i) j) m) ≡ Ok (pos p)
      → subscripts_of at (sight_of (turn_env (loops_of x) c i (a.first i) j) m) ≡ Ok (pos p ∷ (rest (entry_at a i (a.first i + j)) ++ tail))
  pub inside : (i j p n : ℕ) → i < a.rows → j < of_matrix.count a i → p < n → is_inside (pos p ∷ (rest (entry_at a i (a.first i + j)) ++ tail)) (pos n ∷ pos w ∷ pos u ∷ []) ≡ true
  pub small : w * (u * 1) ≤ 2 ^ 24

-- The memory shows the marks and the layout. Without what was made and stored it is `under`.
pub record State (x : Matrix) (b : Arrays) (lay : Name) (tail : List ℤ) (w u : ℕ) (c : Env) (base : Memory) (a : Csr) (z : Sizes) (s : Marks) (L : Cells) (m : Memory) : Type 0 where
  pub under : Memory
  pub holds : Holds x c under a
  pub values : HoldsValues x under a
  pub shows : Shows b z (cleared b under) s m
  pub long_now : under.extents lay ≡ pos (length s.val) ∷ pos w ∷ pos u ∷ []
  pub cells : (p : ℕ) (o : List ℤ) → under.cells (lay_cell lay tail p o) ≡ L p o
  pub others : Spares (λ y. same_name lay y) base under

-- the statements of an entry, and of the end of a row
abbrev pub grown_lines : Arrays → Text → Name → List Stmt
grown_lines b t lay = Grow b.val (Const (pos 1)) ∷ Grow lay (Const (pos 1)) ∷ noted b t

abbrev pub store_line : Matrix → Name → Subscripts → Stmt
store_line x lay at = Assign (record { array = lay; at = at }) Add (of_data.At (cell x.value (Var entry_name)))

abbrev pub entry_lines : Matrix → Arrays → Text → Name → Subscripts → List Stmt
entry_lines x b t lay at = If (new_test b t) (grown_lines b t lay) ∷ store_line x lay at ∷ []

abbrev pub end_lines : Arrays → Text → List Stmt
end_lines b t = Put (cell b.ptr t.next_group) (count b) ∷ []

abbrev pub all_lines : Matrix → Arrays → Text → Index → Index → Name → List Index → Subscripts → List Stmt
all_lines x b t starts marks lay inner at =
    Declare b.ptr Position [] ∷ Declare b.val Position [] ∷ Declare b.num Position [] ∷ Declare b.mark Position [] ∷ Declare lay Number inner
    ∷ Grow b.ptr starts ∷ Grow b.num (Const (pos 1)) ∷ Grow b.mark marks ∷ over_rows (loops_of x) (entry_lines x b t lay at) (end_lines b t) ∷ []

module _ (x : Matrix) (cols_first : Bool) (f : Form) (b : Arrays) (lay : Name) (c : Env) (m : Memory) (a : Csr) (h : Holds x c m a) (v : HoldsValues x m a) (n : NamesFit x b) (d : LayoutNamesFit x b lay) (k : IsSmallForm f)
    (rest : Entry → List ℤ) (tail : List ℤ) (inner : List Index) (at : Subscripts) (w u : ℕ) (st : Store x b (text_of x cols_first f) lay c a rest tail inner at w u)
    (low : ℤ) (ns nm : ℕ) (fit : (under : Memory) → Holds x c under a → Fits b (text_of x cols_first f) (loops_of x) c (cleared b under) (sizes low ns nm) a.rows a.first (walk f rest a))
    (fit_sizes : (under : Memory) → Holds x c under a → SizesFit b c (cleared b under) (starts_of x f) (marks_of x cols_first f) ns nm) where
  abbrev trip : Walk
  trip = walk f rest a

  abbrev text : Text
  text = text_of x cols_first f

  abbrev env : ℕ → ℕ → Env
  env i j = turn_env (loops_of x) c i (a.first i) j

  abbrev Now : Marks → Cells → Memory → Type 0
  Now s L m' = State x b lay tail w u c m a (sizes low ns nm) s L m'

  -- the matrix stays
  holds_beside : (es : List ℤ) (under : Memory) → Holds x c under a → Holds x c (with_extents lay es under) a
  holds_beside es under g = record {
    is_csr = g.is_csr;
    rows = g.rows;
    cols = g.cols;
    index = g.index;
    col = g.col;
    index_long = long_other lay x.index es under d.index ∙ g.index_long;
    col_long = long_other lay x.col es under d.col ∙ g.col_long;
    rows_small = g.rows_small;
    cols_small = g.cols_small;
    entries_small = g.entries_small;
  }

  holds_declared : (es : List ℤ) → Holds x c (declared lay es m) a
  holds_declared es = record {
    is_csr = h.is_csr;
    rows = h.rows;
    cols = h.cols;
    index = λ r l. other_cell lay x.index es (line (pos r)) m d.index ∙ h.index r l;
    col = λ r l. other_cell lay x.col es (line (pos r)) m d.col ∙ h.col r l;
    index_long = other_long lay x.index es m d.index ∙ h.index_long;
    col_long = other_long lay x.col es m d.col ∙ h.col_long;
    rows_small = h.rows_small;
    cols_small = h.cols_small;
    entries_small = h.entries_small;
  }

  values_declared : (es : List ℤ) → HoldsValues x (declared lay es m) a
  values_declared es = record {
    value = λ r l. ap (λ e. if e then 0 else m.cells (value_cell x r)) d.value ∙ v.value r l;
    value_long = other_long lay x.value es m d.value ∙ v.value_long;
    numbers = v.numbers;
  }

  nothing_else : Spares (λ y. same_name lay y) m m
  nothing_else = record { index = λ y e. refl; extents = λ y e. refl; cells = λ y e. refl }

  -- sizes
  kept_bound : (i j : ℕ) → i < a.rows → j ≤ of_matrix.count a i → length (marks_in trip i j).val ≤ large
  kept_bound i j l e =
      let p : length (marks_in trip i j).val ≤ sum_below trip.count a.rows = values_bound trip a.rows i j l e in
      let q : sum_below (of_matrix.count a) a.rows ≡ a.first a.rows = all_entries a h.is_csr a.rows (omega arith) in
      let r = h.entries_small in
      up (length (marks_in trip i j).val) (a.first a.rows) large (subst (λ y. length (marks_in trip i j).val ≤ y) q p) r

  cells_fit : (y : ℕ) → y ≤ large → (y + 1) * (w * (u * 1)) ≤ greatest
  cells_fit y e =
      let r : y + 1 ≤ 2 ^ 24 + 1 = omega (arith, e) in
      let s = st.small in
      let p : (y + 1) * (w * (u * 1)) ≤ (2 ^ 24 + 1) * 2 ^ 24 = mul-le-mul r s in
      up ((y + 1) * (w * (u * 1))) ((2 ^ 24 + 1) * 2 ^ 24) greatest p (omega arith)

  -- the turn of an entry
  module _ (i j : ℕ) (l : i < a.rows) (e : j < of_matrix.count a i) where
    turn_at : (under : Memory) → Holds x c under a → Turn b text (env i j) (cleared b under) (sizes low ns nm) (trip.value i j) (trip.value i j -ℤ low) (trip.group i) (marks_in trip i j)
    turn_at under g = (nest_of b text (loops_of x) c (cleared b under) (sizes low ns nm) a.rows a.first trip (fit under g)).turn i j l e

    -- a new value: the layout grows too
    abbrev next : Marks
    next =
        let s : Marks = marks_in trip i j in
        let t : Marks = record { mark = marked s.mark (trip.value i j) (suc (length s.val)); ptr = s.ptr; val = s.val ++ trip.value i j ∷ [] } in t

    grown_goes : (L : Cells) (p : Place) (m' : Memory) → Now (marks_in trip i j) L m' → Leads (grown_lines b text lay) (env i j) p 0 m' 0 (Now next L)
    grown_goes L p m' q =
        let s : Marks = marks_in trip i j in
        let y : ℕ = length s.val in
        let es : List ℤ = pos (suc y) ∷ pos w ∷ pos u ∷ [] in
        let t : Turn b text (env i j) (cleared b q.under) (sizes low ns nm) (trip.value i j) (trip.value i j -ℤ low) (trip.group i) (marks_in trip i j) = turn_at q.under q.holds in
        let now : (grown_val b y m').extents lay ≡ pos y ∷ pos w ∷ pos u ∷ [] = long_other b.val lay _ m' (apart_from b b.val lay (made_val b) d.made) ∙ ((q.shows).others).extents lay d.made ∙ q.long_now in
        let small : y + 2 ≤ greatest = t.small in
        goes_grow b.val (Const (pos 1)) _ (env i j) p 0 m' 0 _ (grow b.val (pos 1)) (grows_val b (env i j) m' y (q.shows).val_long small)
        (goes_grow lay (Const (pos 1)) _ (env i j) p 1 (grown_val b y m') 0 _ (grow lay (pos 1))
        (grow_inner lay (Const (pos 1)) (env i j) (grown_val b y m') y 1 w u (value_const (pos 1) _ (omega arith)) now (omega (arith, small)) (cells_fit y (kept_bound i j l (omega (arith, e)))))
        (subst (λ m'. Leads (noted b text) (env i j) p 2 m' 0 (Now next L)) (sym (grown_before b lay d.made y es m' (ap (grown (pos 1)) now ∙ ap (λ z. z ∷ pos w ∷ pos u ∷ []) (one_more y))))
        (weaker (noted b text) (env i j) p 2 (grown_val b y (with_extents lay es m')) 0 0 (Shows b (sizes low ns nm) (cleared b (with_extents lay es q.under)) next) (Now next L) refl
        (λ m'' sh. record {
          under = with_extents lay es q.under;
          holds = holds_beside es q.under q.holds;
          values = record { value = (q.values).value; value_long = long_other lay x.value es q.under d.value ∙ (q.values).value_long; numbers = (q.values).numbers };
          shows = sh;
          long_now = long_same lay es q.under ∙ ap (λ k. pos k ∷ pos w ∷ pos u ∷ []) (more s.val (trip.value i j));
          cells = q.cells;
          others = spares_long (λ y. same_name lay y) m q.under lay (name_self lay) q.others es;
        })
        (noted_goes b text (env i j) p 2 (cleared b (with_extents lay es q.under)) (sizes low ns nm) (trip.value i j) (trip.value i j -ℤ low) (trip.group i) s (with_extents lay es m')
        (turn_at (with_extents lay es q.under) (holds_beside es q.under q.holds)) (shows_beside b lay d.made (sizes low ns nm) (cleared b q.under) s es m' q.shows)))))
      where
        more : (vs : List ℤ) (y : ℤ) → suc (length vs) ≡ length (vs ++ y ∷ [])
        more vs y = let q : length (vs ++ y ∷ []) ≡ length vs + 1 = length-append vs (y ∷ []) in omega (arith, q)

    -- the store of the entry's value
    abbrev seen : Marks
    seen = marks_in trip i (suc j)

    abbrev position : ℕ
    position = (marks_in trip i (suc j)).mark (trip.value i j) - 1

    abbrev in_cell : List ℤ
    in_cell = rest (entry_at a i (a.first i + j))

    abbrev stored : Step
    stored = stores b lay x.value d.made d.value_made tail (line (pos (a.first i + j))) position in_cell

    store_goes : (L : Cells) (p : Place) (y : ℕ) (m' : Memory) → Now (marks_in trip i (suc j)) (laying trip i L j) m' → Leads (store_line x lay at ∷ []) (env i j) p y m' 0 (Now (marks_in trip i (suc j)) (laying trip i L (suc j)))
    store_goes L p y m' q =
        goes_assign (record { array = lay; at = at }) Add (of_data.At (cell x.value (Var entry_name))) [] (env i j) p y m' 0 _ stored
        (assigned_at (record { array = lay; at = at }) (cell x.value (Var entry_name)) Add (env i j) m' (lay_cell lay tail position in_cell) (value_cell x (a.first i + j)) read target)
        (goes_end (env i j) p _ _ _ (record {
          under = do_deed (assign stored) q.under;
          holds = record {
            is_csr = (q.holds).is_csr;
            rows = (q.holds).rows;
            cols = (q.holds).cols;
            index = (q.holds).index;
            col = (q.holds).col;
            index_long = (q.holds).index_long;
            col_long = (q.holds).col_long;
            rows_small = (q.holds).rows_small;
            cols_small = (q.holds).cols_small;
            entries_small = (q.holds).entries_small;
          };
          values = record {
            value = λ r g. unread_cell (q.under).cells (lay_cell lay tail position in_cell) (value_cell x r) _ (ap (λ e. e && same_numbers (pos position ∷ (in_cell ++ tail)) (line (pos r))) d.value) ∙ (q.values).value r g;
            value_long = (q.values).value_long;
            numbers = (q.values).numbers;
          };
          shows = shows_cells b lay d.made (sizes low ns nm) (cleared b q.under) seen _ _ m'
              (ap (perform stored) ((q.shows).others).cells ∙ cleared_store b lay x.value d.made d.value_made tail (line (pos (a.first i + j))) position in_cell q.under) q.shows;
          long_now = q.long_now;
          cells = store_adds b lay x.value d.made d.value_made tail (line (pos (a.first i + j))) position in_cell (seen.mark (trip.value i j)) (trip.worth i j) (laying trip i L j) q.under mark_is ((q.values).value (a.first i + j) inside) q.cells;
          others = spares_assign (λ y. same_name lay y) m q.under lay (name_self lay) q.others stored refl;
        }))
      where
        inside : a.first i + j < a.first a.rows
        inside = place_in a h.is_csr i j l e

        mark_is : seen.mark (trip.value i j) ≡ suc position
        mark_is = let g : 0 < seen.mark (trip.value i j) = some_mark (trip.group i) (marks_in trip i j) (trip.value i j) in omega (arith, g)

        mark_bound : seen.mark (trip.value i j) ≤ length seen.val
        mark_bound = (within trip (fit q.under q.holds).rising i (suc j)).bound (trip.value i j)

        in_lay : position < length seen.val
        in_lay = let g : seen.mark (trip.value i j) ≤ length seen.val = mark_bound in let r : seen.mark (trip.value i j) ≡ suc position = mark_is in omega (arith, g, r)

        mark_read : measure (At (cell b.mark text.from_low)) (sight_of (env i j) m') ≡ Ok (plain (pos (seen.mark (trip.value i j))))
        mark_read =
            let t : Turn b text (env i j) (cleared b q.under) (sizes low ns nm) (trip.value i j) (trip.value i j -ℤ low) (trip.group i) (marks_in trip i j) = turn_at q.under q.holds in
            measure_read b.mark text.from_low (env i j) m' (trip.value i j -ℤ low) _ ((t.gives).from_low m' (q.shows).others) (inside_long _ (trip.value i j -ℤ low) (pos nm) (q.shows).mark_long t.from t.to)
            ((q.shows).mark (trip.value i j -ℤ low) ∙ ap (λ y. pos (seen.mark y)) t.above)

        place_value : value_of (place_text b text) (sight_of (env i j) m') ≡ Ok (pos position)
        place_value =
            value_by (place_text b text) _ (difference_of (plain (pos (seen.mark (trip.value i j)))) (plain (pos 1))) (measure_minus _ (Const (pos 1)) _ _ _ mark_read (measure-Const (pos 1) _))
            (let g : seen.mark (trip.value i j) ≤ length seen.val = mark_bound in let r : length seen.val ≤ large = kept_bound i (suc j) l e in let y : large + 1 ≤ greatest = omega arith in omega (arith, g, r, y))
            ∙ ap (λ y. Ok (pos y -ℤ pos 1)) mark_is ∙ ap Ok (one_less position)

        place_small : a.first i + j ≤ greatest
        place_small = let g = h.entries_small in let r : a.first i + j < a.first a.rows = inside in up (a.first i + j) large greatest (up (a.first i + j) (a.first a.rows) large (omega (arith, r)) g) (omega arith)

        read : spot (cell x.value (Var entry_name)) (scene_of (env i j) m') ≡ Ok (value_cell x (a.first i + j))
        read =
            spot_at (cell x.value (Var entry_name)) (env i j) m' (line (pos (a.first i + j))) (subscripts_one (Var entry_name) _ (pos (a.first i + j)) (value_var entry_name _ place_small))
            (inside_long (m'.extents x.value) (pos (a.first i + j)) (pos (a.first a.rows)) (((q.shows).others).extents x.value d.value_made ∙ (q.values).value_long) (from_zero (a.first i + j)) (below (a.first i + j) (a.first a.rows) inside))

        target : spot (record { array = lay; at = at }) (scene_of (env i j) m') ≡ Ok (lay_cell lay tail position in_cell)
        target =
            spot_at (record { array = lay; at = at }) (env i j) m' (pos position ∷ (in_cell ++ tail))
            (st.subscripts i j position m' l e (sees_all x cols_first f b c q.under a q.holds n k i j l e m' (q.shows).others) place_value)
            (inside_extents (pos position ∷ (in_cell ++ tail)) (pos (length seen.val) ∷ pos w ∷ pos u ∷ []) (m'.extents lay) (((q.shows).others).extents lay d.made ∙ q.long_now) (st.inside i j position (length seen.val) l e in_lay))

    turn_goes : (L : Cells) (p : Place) (m' : Memory) → Now (marks_in trip i j) (laying trip i L j) m' → Leads (entry_lines x b text lay at) (env i j) p 0 m' 0 (Now (marks_in trip i (suc j)) (laying trip i L (suc j)))
    turn_goes L p m' q =
        let s : Marks = marks_in trip i j in
        let t : Turn b text (env i j) (cleared b q.under) (sizes low ns nm) (trip.value i j) (trip.value i j -ℤ low) (trip.group i) (marks_in trip i j) = turn_at q.under q.holds in
        goes_if (new_test b text) (grown_lines b text lay) (store_line x lay at ∷ []) (env i j) p 0 m' 0 (Now (marks_in trip i (suc j)) (laying trip i L j)) _ (nat_le (s.mark (trip.value i j)) (s.ptr (trip.group i)))
        (test_is b text (env i j) (cleared b q.under) (sizes low ns nm) (trip.value i j) (trip.value i j -ℤ low) (trip.group i) s m' t q.shows)
        (λ g. subst (λ y. Leads (grown_lines b text lay) (env i j) p 0 m' 0 (Now (if y then next else s) (laying trip i L j))) (sym g) (grown_goes (laying trip i L j) p m' q))
        (λ g. subst (λ y. Now (if y then next else s) (laying trip i L j) m') (sym g) q)
        (λ m'' q'. store_goes L p _ m'' q')

  -- the end of a row
  end_goes : (i : ℕ) (L : Cells) (p : Place) (m' : Memory) → i < a.rows → Now (marks_in trip i (of_matrix.count a i)) L m' → Leads (end_lines b text) (row_env (loops_of x) c i) p 1 m' 0 (Now (of_walk.marks_of trip (suc i)) L)
  end_goes i L p m' l q =
      let s : Marks = marks_in trip i (of_matrix.count a i) in
      let g : ℕ = trip.group i in
      goes_put (cell b.ptr text.next_group) (count b) [] (row_env (loops_of x) c i) p 1 m' 0 _ (put b.ptr (line (pos (suc g))) (pos (length s.val)))
      (put_line b.ptr text.next_group (count b) (row_env (loops_of x) c i) m' (pos (suc g)) (pos (length s.val))
      (value_by (count b) _ (plain (pos (length s.val))) (count_is b (row_env (loops_of x) c i) m' (length s.val) (q.shows).num_long (q.shows).num) (up (length s.val) large greatest (kept_bound i (of_matrix.count a i) l (omega arith)) (omega arith)))
      ((fit q.under q.holds).next i m' l (q.shows).others) (inside_long _ (pos (suc g)) (pos ns) (q.shows).ptr_long (from_zero (suc g)) ((fit q.under q.holds).groups_in i l)))
      (goes_end (row_env (loops_of x) c i) p _ _ _ (record {
        under = q.under;
        holds = q.holds;
        values = q.values;
        shows = closed b (cleared b q.under) (sizes low ns nm) g s m' n.apart q.shows;
        long_now = q.long_now;
        cells = q.cells;
        others = q.others;
      }))

  turns : Turns (loops_of x) c a.rows a.first (of_matrix.count a) (entry_lines x b text lay at) (end_lines b text) (λ i j. Now (marks_in trip i j) (laying trip i (layout trip i) j))
  turns = record {
    rows_are = λ m'. (fit m h).rows_are m';
    from = λ i m' l q. (fit q.under q.holds).from i m' l (q.shows).others;
    to = λ i m' l q. (fit q.under q.holds).to i m' l (q.shows).others;
    turn = λ i j p m' l e q. turn_goes i j l e (layout trip i) p m' q;
    row_end = λ i p m' l q. end_goes i (laying trip i (layout trip i) (of_matrix.count a i)) p m' l q;
  }

  -- behind the head
  abbrev none : List ℤ
  none = pos 0 ∷ pos w ∷ pos u ∷ []

  begins : Now unmarked (layout trip 0) (with_marks b ns nm (declared lay none m))
  begins = record {
    under = declared lay none m;
    holds = holds_declared none;
    values = values_declared none;
    shows = head_shows b low ns nm (declared lay none m) n.apart;
    long_now = new_long lay none m;
    cells = λ p o. ap (λ e. if e then 0 else m.cells (lay_cell lay tail p o)) (name_self lay);
    others = spares_declared (λ y. same_name lay y) m m lay (name_self lay) nothing_else none;
  }

  pub lines_go : (t : ℕ) (Q : Memory → Type 0) → a.rows + a.first a.rows ≡ t → ((m' : Memory) → Now (of_walk.marks_of trip a.rows) (layout trip a.rows) m' → Q m')
      → Leads (all_lines x b text (starts_of x f) (marks_of x cols_first f) lay inner at) c [] 0 m t Q
  lines_go t Q e left =
      declares_go b _ c m t Q
      (goes_declare lay Number inner _ c [] 4 (made_arrays b m) t Q (declare lay Number none) (st.declares (made_arrays b m))
      (subst (λ m'. Leads (Grow b.ptr (starts_of x f) ∷ Grow b.num (Const (pos 1)) ∷ Grow b.mark (marks_of x cols_first f) ∷ over_rows (loops_of x) (entry_lines x b text lay at) (end_lines b text) ∷ []) c [] 5 m' t Q) (sym (declared_before b lay d.made none m))
      (growths_go b (starts_of x f) (marks_of x cols_first f) _ c (declared lay none m) 5 ns nm t Q n.apart (fit_sizes (declared lay none m) (holds_declared none))
      (weaker _ c [] 8 (with_marks b ns nm (declared lay none m)) _ t (Now (of_walk.marks_of trip a.rows) (layout trip a.rows)) Q (ap (λ y. a.rows + y) (all_entries a h.is_csr a.rows (omega arith)) ∙ e) left
      (rows_go (loops_of x) c a.rows a.first (of_matrix.count a) (entry_lines x b text lay at) (end_lines b text) (λ i j. Now (marks_in trip i j) (laying trip i (layout trip i) j)) turns [] 8 (with_marks b ns nm (declared lay none m)) begins)))))

  -- what is left
  pub laid_out : (groups : ℕ) → Follows (met_before trip a.rows) groups (of_walk.marks_of trip a.rows) → kept groups (met_before trip a.rows) ≡ [] → (m' : Memory) → Now (of_walk.marks_of trip a.rows) (layout trip a.rows) m'
      → LaidOut b (pos ns) (pos nm) lay tail (pos w ∷ pos u ∷ []) m (met_before trip a.rows) groups m'
  laid_out groups g e m' q =
      let s : Marks = of_walk.marks_of trip a.rows in
      let es : List Placed = met_before trip a.rows in
      let kept_left : Left b (pos ns) (pos nm) (cleared b q.under) es groups m' = left_by b (cleared b q.under) (sizes low ns nm) es groups s m' g e q.shows in
      let total : length s.val ≡ start groups es = ap length (g.val ∙ ap (λ l. kept_before groups es ++ l) e ∙ append-nil _) in
      let hs : HoldsSums es (layout trip a.rows) (length s.val) = holds_all trip (fit m h).rising a.rows in
      record {
        ptr = kept_left.ptr;
        val = kept_left.val;
        num = kept_left.num;
        mark_long = kept_left.mark_long;
        ptr_long = kept_left.ptr_long;
        val_long = kept_left.val_long;
        num_long = kept_left.num_long;
        lay_long = ((q.shows).others).extents lay d.made ∙ q.long_now ∙ ap (λ k. pos k ∷ pos w ∷ pos u ∷ []) total;
        sums = record {
          sums = λ g w o i. cell_is q m' _ o ∙ hs.sums g w o i;
          zeros = λ p o i. cell_is q m' p o ∙ hs.zeros p o (subst (λ k. k ≤ p) (sym total) i);
        };
        others = record {
          index = λ y i. ((q.shows).others).index y (or_left _ _ i) ∙ (q.others).index y (or_right (is_made b y) _ i);
          extents = λ y i. ((q.shows).others).extents y (or_left _ _ i) ∙ (q.others).extents y (or_right (is_made b y) _ i);
          cells = λ y i.
              ap (λ f. f y) ((q.shows).others).cells ∙ ap (λ e. if e then 0 else (q.under).cells y) (or_left (is_made b y.array) (same_name lay y.array) i) ∙ (q.others).cells y (or_right (is_made b y.array) _ i);
        };
      }
    where
      cell_is : (q : Now (of_walk.marks_of trip a.rows) (layout trip a.rows) m') (m'' : Memory) (p : ℕ) (o : List ℤ) → m'.cells (lay_cell lay tail p o) ≡ layout trip a.rows p o
      cell_is q m'' p o = ap (λ f. f (lay_cell lay tail p o)) ((q.shows).others).cells ∙ ap (λ e. if e then 0 else (q.under).cells (lay_cell lay tail p o)) d.made ∙ q.cells p o
