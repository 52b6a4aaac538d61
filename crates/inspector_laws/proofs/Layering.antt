-- The lines of blocks and of diagonals, on any matrix.
use Rattle.std.proofs.Common.{◌≡◌, refl, sym, subst, ℕ, zero, suc, ◌+◌, ◌<◌, ℤ, pos, ◌+ℤ◌, ◌-ℤ◌, Bool, List, [], ◌∷◌, map, arith}
use Rattle.c_tree.specs.declared.program.Matrix.{Matrix}
use Rattle.c_tree.specs.declared.index.Index.{Index}
use Rattle.c_tree.specs.declared.index.Index.TheVariants.{Const, Var}
use Rattle.c_tree.specs.declared.index.Subscripts.{Subscripts}
use Rattle.c_tree.specs.declared.index.Subscripts.TheVariants.{Two, Three}
use Rattle.c_meaning.specs.Names.{Name}
use Rattle.c_meaning.specs.Memory.{Memory, Env}
use Rattle.c_meaning.specs.Run.{run}
use Rattle.inspectors.specs.declared.names.MarkNames.{MarkNames}
use Rattle.inspectors.specs.Trees.{row_name}
use Rattle.inspectors.specs.Layouts.{row_in_block, column_in_block}
use Rattle.inspectors.specs.Marks.{mark_lines, block_lines, diag_lines}
use Rattle.sparse_marks.specs.Matrices.{Csr, Entry, entries_before, entries}
use Rattle.sparse_marks.specs.Forms.{Form, group_by, groups_by, groups, placed, least_value, greatest_value}
use Rattle.sparse_marks.specs.Marks.{Follows}
use Rattle.sparse_marks.specs.Walks.{walk, met_before, marks_of as marks_behind}
use Rattle.sparse_marks.specs.Kept.{Placed, kept}
use Rattle.sparse_marks.proofs.Marking.{none_yet}
use Rattle.sparse_marks.proofs.Walking.{within, at_end}
use Rattle.sparse_marks.proofs.Telling.{met_is, rising_by, groups_above}
use Rattle.sparse_marks.specs.Matrices as of_matrix
use Rattle.sparse_layouts.specs.Layouts.{blocks, in_block, diagonals, in_diagonal}
use Rattle.inspector_runs.specs.Rules.{Goes, Leads}
use Rattle.inspector_runs.specs.Texts.{Arrays}
use Rattle.inspector_runs.specs.Shown.{Fits, cleared}
use Rattle.inspector_runs.specs.Laws.{sizes}
use Rattle.inspector_laws.specs.Ready.{Holds, HoldsValues, NamesFit, IsSmallForm, start_count, mark_count, arrays_of, compacted}
use Rattle.inspector_laws.specs.Layouts.{LayoutNamesFit, LaidOut, BlockLinesLeaveBlocks, DiagLinesLeaveDiagonals}
use Rattle.inspector_laws.proofs.Bounded.{natural}
use Rattle.inspector_laws.proofs.Expressions.{loops_of, any_width, any_marks, some_marks}
use Rattle.inspector_laws.proofs.Compacting.{text_of, starts_of, marks_of, fits, fits_none, sizes_fit, none_fit}
use Rattle.inspector_laws.proofs.Storing.{place_text, Store, all_lines, lines_go, laid_out}
use Rattle.inspector_laws.proofs.Placed.{blocks_small, diagonals_small, block_store, diagonal_store}

module _ (x : Matrix) (cols_first : Bool) (f : Form) (b : Arrays) (lay : Name) (c : Env) (m : Memory) (a : Csr) (h : Holds x c m a) (v : HoldsValues x m a) (n : NamesFit x b) (d : LayoutNamesFit x b lay) (k : IsSmallForm f)
    (rest : Entry → List ℤ) (tail : List ℤ) (inner : List Index) (at : Subscripts) (w u : ℕ) (st : Store x b (text_of x cols_first f) lay c a rest tail inner at w u) where
  abbrev Laid : List Placed → ℕ → Memory → Type 0
  Laid es g m' = LaidOut b (start_count f a) (mark_count f a) lay tail (pos w ∷ pos u ∷ []) m es g m'

  abbrev lines_go_to : ℕ → (Memory → Type 0) → Type 0
  lines_go_to t Q = Leads (all_lines x b (text_of x cols_first f) (starts_of x f) (marks_of x cols_first f) lay inner at) c [] 0 m t Q

  marked : {k : ℤ} → k ≡ mark_count f a → (es : List Placed) (g : ℕ) (m' : Memory) → LaidOut b (start_count f a) k lay tail (pos w ∷ pos u ∷ []) m es g m' → Laid es g m'
  marked e es g m' l = subst (λ z. LaidOut b (start_count f a) z lay tail (pos w ∷ pos u ∷ []) m es g m') e l

  some_rows : (r : ℕ) → a.rows ≡ suc r → lines_go_to (a.rows + a.first a.rows) (Laid (map (placed f rest) (entries_before a a.rows)) (groups_by f.rows a.rows))
  some_rows r q =
      lines_go x cols_first f b lay c m a h v n d k rest tail inner at w u st (least_value f a) (suc (groups_by f.rows a.rows)) (natural ((greatest_value f a -ℤ least_value f a) +ℤ pos 1))
      (λ under g. fits x cols_first f b c under a g n k r q rest) (λ under g. sizes_fit x cols_first f b c under a g n k r q)
      (a.rows + a.first a.rows) _ refl
      (λ m' s.
      subst (λ es. Laid es (groups_by f.rows a.rows) m') (met_is f rest a a.rows)
      (marked (some_marks f a r q) _ _ m' (laid_out x cols_first f b lay c m a h v n d k rest tail inner at w u st (least_value f a) (suc (groups_by f.rows a.rows)) (natural ((greatest_value f a -ℤ least_value f a) +ℤ pos 1))
      (λ under g. fits x cols_first f b c under a g n k r q rest) (λ under g. sizes_fit x cols_first f b c under a g n k r q)
      (groups_by f.rows a.rows)
      (subst (λ y. Follows (met_before (walk f rest a) y) (groups_by f.rows y) (marks_behind (walk f rest a) y)) (sym q) (subst (λ g. Follows (met_before (walk f rest a) (suc r)) g (marks_behind (walk f rest a) (suc r))) (sym (groups_above f.rows r)) (at_end (walk f rest a) (rising_by f.rows) r)))
      (subst (λ y. kept (groups_by f.rows y) (met_before (walk f rest a) y) ≡ []) (sym q) (subst (λ g. kept g (met_before (walk f rest a) (suc r)) ≡ []) (sym (groups_above f.rows r)) ((within (walk f rest a) (rising_by f.rows) r (of_matrix.count a r)).later (suc (group_by f.rows r)) (omega arith))))
      m' s)))

  no_rows : a.rows ≡ 0 → lines_go_to (a.rows + a.first a.rows) (Laid (map (placed f rest) (entries_before a a.rows)) (groups_by f.rows a.rows))
  no_rows q =
      lines_go x cols_first f b lay c m a h v n d k rest tail inner at w u st (pos 0) (suc (groups_by f.rows a.rows)) (natural (any_width f a.rows a.cols))
      fit_none (λ under g. none_fit x cols_first f b c under a g n k q)
      (a.rows + a.first a.rows) _ refl
      (λ m' s.
      subst (λ es. Laid es (groups_by f.rows a.rows) m') (met_is f rest a a.rows)
      (marked (any_marks f a) _ _ m' (laid_out x cols_first f b lay c m a h v n d k rest tail inner at w u st (pos 0) (suc (groups_by f.rows a.rows)) (natural (any_width f a.rows a.cols))
      fit_none (λ under g. none_fit x cols_first f b c under a g n k q)
      (groups_by f.rows a.rows)
      (subst (λ y. Follows (met_before (walk f rest a) y) (groups_by f.rows a.rows) (marks_behind (walk f rest a) y)) (sym q) (none_yet (groups_by f.rows a.rows)))
      (subst (λ y. kept (groups_by f.rows a.rows) (met_before (walk f rest a) y) ≡ []) (sym q) refl)
      m' s)))
    where
      fit_none : (under : Memory) → Holds x c under a → Fits b (text_of x cols_first f) (loops_of x) c (cleared b under) (sizes (pos 0) (suc (groups_by f.rows a.rows)) (natural (any_width f a.rows a.cols))) a.rows a.first (walk f rest a)
      fit_none under g =
          subst (λ y. Fits b (text_of x cols_first f) (loops_of x) c (cleared b under) (sizes (pos 0) (suc (groups_by f.rows a.rows)) (natural (any_width f a.rows a.cols))) y a.first (walk f rest a)) (sym q)
          (fits_none x cols_first f b c under a g n k q rest)

  by_rows : (r : ℕ) → a.rows ≡ r → lines_go_to (a.rows + a.first a.rows) (Laid (map (placed f rest) (entries a)) (groups f a))
  by_rows zero q = no_rows q
  by_rows (suc r) q = some_rows r q

  pub goes_out : Goes (run (all_lines x b (text_of x cols_first f) (starts_of x f) (marks_of x cols_first f) lay inner at) c) m (a.rows + a.first a.rows) (Laid (map (placed f rest) (entries a)) (groups f a))
  goes_out = (by_rows a.rows refl).goes

block_lines_are : (x : Matrix) (cols_first : Bool) (k cols : ℕ) (b : MarkNames) (lay : Name)
    → block_lines x cols_first (pos (suc k)) (pos cols) b lay ≡ all_lines x (arrays_of b) (text_of x cols_first (blocks (suc k) cols)) (starts_of x (blocks (suc k) cols)) (marks_of x cols_first (blocks (suc k) cols)) lay (Const (pos (suc k)) ∷ Const (pos cols) ∷ [])
    (Three (place_text (arrays_of b) (text_of x cols_first (blocks (suc k) cols))) (row_in_block (pos (suc k))) (column_in_block (compacted x cols_first (blocks (suc k) cols)) (pos cols)))
unfolding mark_lines
block_lines_are x cols_first k cols b lay = refl

pub lays_blocks : BlockLinesLeaveBlocks
lays_blocks x cols_first zero cols b lay c m a h v n d p q r s = absurd (let z : 0 < 0 = p in omega (arith, z))
lays_blocks x cols_first (suc k) cols b lay c m a h v n d p q r s =
    subst (λ ts. Goes (run ts c) m (a.rows + a.first a.rows) (LaidOut (arrays_of b) (start_count (blocks (suc k) cols) a) (mark_count (blocks (suc k) cols) a) lay [] (pos (suc k) ∷ pos cols ∷ []) m (map (placed (blocks (suc k) cols) (in_block (suc k) cols)) (entries a)) (groups (blocks (suc k) cols) a)))
    (sym (block_lines_are x cols_first k cols b lay))
    (goes_out x cols_first (blocks (suc k) cols) (arrays_of b) lay c m a h v n d (blocks_small (suc k) cols r) (in_block (suc k) cols) [] (Const (pos (suc k)) ∷ Const (pos cols) ∷ []) _ (suc k) cols (block_store x cols_first (suc k) cols (arrays_of b) lay c a p q r s))

diag_lines_are : (x : Matrix) (cols_first : Bool) (b : MarkNames) (lay : Name)
    → diag_lines x cols_first b lay ≡ all_lines x (arrays_of b) (text_of x cols_first diagonals) (starts_of x diagonals) (marks_of x cols_first diagonals) lay (Var x.rows ∷ []) (Two (place_text (arrays_of b) (text_of x cols_first diagonals)) (Var row_name))
unfolding mark_lines
diag_lines_are x cols_first b lay = refl

pub lays_diagonals : DiagLinesLeaveDiagonals
lays_diagonals x cols_first b lay c m a h v n d =
    subst (λ ts. Goes (run ts c) m (a.rows + a.first a.rows) (LaidOut (arrays_of b) (start_count diagonals a) (mark_count diagonals a) lay (pos 0 ∷ []) (pos a.rows ∷ pos 1 ∷ []) m (map (placed diagonals in_diagonal) (entries a)) (groups diagonals a)))
    (sym (diag_lines_are x cols_first b lay))
    (goes_out x cols_first diagonals (arrays_of b) lay c m a h v n d diagonals_small in_diagonal (pos 0 ∷ []) (Var x.rows ∷ []) _ a.rows 1 (diagonal_store x cols_first (arrays_of b) lay c m a h))
