-- The parts of padded statements fit.
use Rattle.std.proofs.Common.{◌≡◌, ℕ, zero, suc, ◌+◌, ◌≤◌, ◌<◌, arith, length, List, ◌∷◌, [], map, Bool, true, cond, refl, ◌∙◌, length-append, lt-ltb, ℤ, pos, negsuc}
use Rattle.std.specs.Prelude.{IsTrue, Option, Some, None}
use Rattle.std.specs.List.{list_all, range_with_len}
use Rattle.std.proofs.lemmas.Bool.{cond_both}
use Rattle.c_tree.specs.declared.program.Matrix.{Matrix}
use Rattle.int_rows.specs.declared.row.Aff.{Aff}
use Rattle.nest_tree.specs.declared.kernel.KernelRow.{KernelRow}
use Rattle.nest_core.specs.Forms.{has_vars}
use Rattle.nest_core.specs.Shapes.{is_row_over, is_term_over}
use Rattle.pad_layouts.specs.declared.block.Sides.{Sides}
use Rattle.pad_layouts.specs.declared.parts.KeptArrays.{KeptArrays}
use Rattle.pad_layouts.specs.declared.parts.RowArrays.{RowArrays}
use Rattle.pad_layouts.specs.Forms.{one, two, fixed}
use Rattle.pad_layouts.specs.Moved.{is_pick, kept_rows}
use Rattle.pad_layouts.specs.Parts.{picks_of, read, kept_terms, pointer_rows, AreFitting}
use Rattle.pad_layouts.specs.Kinds.{with_group, block_rows, block_cell, block_picks, block_parts, below, square_rows, diag_cell, diag_picks, diag_parts, row_vars, row_picks, row_terms, row_rows, row_parts}
use Rattle.pad_layouts.proofs.Mapping.{length-range}
use Rattle.pad_layouts.proofs.Widths.{form-has, bound-over, missing-over, kept-over, all_both}

-- ---- what new variables stand for
range-picks : (n a k : ℕ) → a + k ≤ n → list_all (is_pick n) (map Some (range_with_len a k)) ≡ true
range-picks n a zero l = refl
range-picks n a (suc k) l =
    let h : a < n = omega (arith, l) in
    let r : a + 1 + k ≤ n = omega (arith, l) in
    rw (lt-ltb a n h, range-picks n (a + 1) k r) refl

pub picks-within : (n params : ℕ) (more : List (Option ℕ)) → params ≤ n → IsTrue (list_all (is_pick n) more) → IsTrue (list_all (is_pick n) (picks_of params more))
picks-within n params more l h = all_both (is_pick n) (map Some (range_with_len 0 params)) more (range-picks n 0 params (omega (arith, l))) h

pub length-picks : (params : ℕ) (more : List (Option ℕ)) → length (picks_of params more) ≡ params + length more
length-picks params more = omega (arith, length-append (map (λ (v : ℕ). Some v) (range_with_len 0 params)) more, length-range (λ (v : ℕ). Some v) 0 params)

-- ---- terms
read-over : (n : ℕ) (a : List ℕ) (f : Aff) → IsTrue (has_vars n f) → IsTrue (is_term_over n (read a f))
read-over n a f h = rw h refl

kept-terms-over : (vars : ℕ) (arrays : KeptArrays) (level : ℕ) (group next : Aff) → IsTrue (has_vars vars group) → IsTrue (has_vars vars next) → IsTrue (list_all (is_term_over vars) (kept_terms vars arrays level group next))
kept-terms-over vars arrays level group next g n =
    rw (read-over vars arrays.kept (one vars level (pos 0)) (form-has vars _ _ _ _ _ _), read-over vars arrays.pointer group g, read-over vars arrays.pointer next n) refl

-- ---- rows
pointer-over : (vars d own level begin : ℕ) → own ≤ d → IsTrue (list_all (is_row_over vars d) (pointer_rows vars own level begin))
pointer-over vars d own level begin l =
    rw (bound-over vars d own (two vars level (pos 1) begin (negsuc 0) (pos 0)) (form-has vars _ _ _ _ _ _) l, bound-over vars d own (two vars (begin + 1) (pos 1) level (negsuc 0) (negsuc 0)) (form-has vars _ _ _ _ _ _) l) refl

group-over : (vars d own member group : ℕ) (side : ℤ) (rows : List KernelRow) → own ≤ d → IsTrue (list_all (is_row_over vars d) rows) → IsTrue (list_all (is_row_over vars d) (with_group vars own member group side rows))
group-over vars d own member group side rows l h = missing-over vars d own _ _ (form-has vars _ _ _ _ _ _) l (missing-over vars d own _ rows (form-has vars _ _ _ _ _ _) l h)

level-within : (b : Bool) (x y d : ℕ) → x ≤ d → y ≤ d → cond b x y ≤ d
level-within b x y d l m = cond_both b x y (λ n. n ≤ d) (λ _. l) (λ _. m)

-- ---- blocks
block-rows-over : (params : ℕ) (s : Sides) (rows : List KernelRow) (n levels : ℕ) → IsTrue (list_all (is_row_over n levels) rows)
    → IsTrue (list_all (is_row_over (params + 7) 4) (block_rows params s (block_picks params) rows))
unfolding block_rows
block-rows-over params s rows n levels h =
    let w : length (block_picks params) ≡ params + 7 = length-picks params _ in
    let kept : IsTrue (list_all (is_row_over (params + 7) 4) (kept_rows params 4 (params + 4) (block_picks params) rows)) = rw w at (kept-over params 4 (params + 4) n levels (block_picks params) rows h) in
    group-over (params + 7) 4 _ _ _ _ _ (level-within s.swapped 3 4 4 (omega arith) (omega arith))
    (group-over (params + 7) 4 _ _ _ _ _ (level-within s.swapped 4 3 4 (omega arith) (omega arith))
    (all_both (is_row_over (params + 7) 4) (kept_rows params 4 (params + 4) (block_picks params) rows) _ kept (pointer-over (params + 7) 4 2 (params + 1) (params + 5) (omega arith))))

pub block-fitting : (params : ℕ) (s : Sides) (arrays : KeptArrays) (rows : List KernelRow) (n levels : ℕ) → IsTrue (list_all (is_row_over n levels) rows) → AreFitting params (block_parts params s arrays rows)
unfolding block_parts block_cell
block-fitting params s arrays rows n levels h =
    let w : length (block_picks params) ≡ params + 7 = length-picks params _ in
    record {
      depth = omega arith;
      picks = omega (arith, w);
      terms = rw w (kept-terms-over (params + 7) arrays (params + 1) (one (params + 7) params (pos 0)) (one (params + 7) params (pos 1)) (form-has (params + 7) _ _ _ _ _ _) (form-has (params + 7) _ _ _ _ _ _));
      rows = rw w (block-rows-over params s rows n levels h);
      cell = rw (w, form-has (params + 7) _ _ _ _ _ _, form-has (params + 7) _ _ _ _ _ _, form-has (params + 7) _ _ _ _ _ _) refl;
    }

pub block-within : (params n : ℕ) → params + 5 ≤ n → IsTrue (list_all (is_pick n) (block_picks params))
block-within params n l =
    let a : params < n = omega (arith, l) in
    let b : params + 2 < n = omega (arith, l) in
    let c : params + 3 < n = omega (arith, l) in
    let d : params + 1 < n = omega (arith, l) in
    picks-within n params _ (omega (arith, l)) (rw (lt-ltb params n a, lt-ltb (params + 2) n b, lt-ltb (params + 3) n c, lt-ltb (params + 1) n d) refl)

-- ---- diagonals
below-has : (params : List (List ℕ)) (name : List ℕ) (row other : ℕ) → IsTrue (has_vars (length params + 5) (below params name row other))
unfolding below
below-has params name row other = form-has (length params + 5) _ _ _ _ _ _

square-over : (params : List (List ℕ)) (m : Matrix) → IsTrue (list_all (is_row_over (length params + 5) 2) (square_rows params m))
unfolding square_rows
square-over params m =
    let v = length params + 5 in
    let row = length params + 1 in
    let kept = length params + 2 in
    let a = bound-over v 2 2 (one v row (pos 0)) (form-has v _ _ _ _ _ _) (omega arith) in
    let b = bound-over v 2 2 (below params m.rows row row) (below-has params m.rows row row) (omega arith) in
    let c = bound-over v 2 2 (two v row (pos 1) kept (pos 1) (pos 0)) (form-has v _ _ _ _ _ _) (omega arith) in
    let d = bound-over v 2 2 (below params m.cols row kept) (below-has params m.cols row kept) (omega arith) in
    rw (a, b, c, d) refl

pub diag-fitting : (params : List (List ℕ)) (m : Matrix) (arrays : KeptArrays) → AreFitting (length params) (diag_parts params m arrays)
unfolding diag_parts diag_cell
diag-fitting params m arrays =
    let w : length (diag_picks (length params)) ≡ length params + 5 = length-picks (length params) _ in
    let v = length params + 5 in
    record {
      depth = omega arith;
      picks = omega (arith, w);
      terms = rw w (kept-terms-over v arrays (length params) (fixed v (pos 0)) (fixed v (pos 1)) (form-has v _ _ _ _ _ _) (form-has v _ _ _ _ _ _));
      rows = rw w (all_both (is_row_over v 2) (square_rows params m) _ (square-over params m) (pointer-over v 2 1 (length params) (length params + 3) (omega arith)));
      cell = rw (w, form-has v _ _ _ _ _ _, form-has v _ _ _ _ _ _) refl;
    }

pub diag-within : (params n : ℕ) → params + 3 ≤ n → IsTrue (list_all (is_pick n) (diag_picks params))
diag-within params n l =
    let a : params + 1 < n = omega (arith, l) in
    let b : params < n = omega (arith, l) in
    picks-within n params _ (omega (arith, l)) (rw (lt-ltb (params + 1) n a, lt-ltb params n b) refl)

-- ---- padded rows
pub row-within : (params n : ℕ) (column : Option ℕ) → params + 2 ≤ n → IsTrue (is_pick n column) → IsTrue (list_all (is_pick n) (row_picks params column))
row-within params n (Some v) l h =
    let a : params < n = omega (arith, l) in
    picks-within n params _ (omega (arith, l)) (rw (lt-ltb params n a, h) refl)
row-within params n None l h =
    let a : params < n = omega (arith, l) in
    picks-within n params _ (omega (arith, l)) (rw (lt-ltb params n a) refl)

pair-over : (n : ℕ) (f g : Aff) → IsTrue (has_vars n f) → IsTrue (has_vars n g) → IsTrue (list_all (has_vars n) (f ∷ g ∷ []))
pair-over n f g h k = rw (h, k) refl

length-row-picks : (params : ℕ) (column : Option ℕ) → length (row_picks params column) ≡ row_vars params column
length-row-picks params (Some v) = length-picks params _
length-row-picks params None = length-picks params _

row-terms-over : (params : ℕ) (arrays : RowArrays) (column : Option ℕ) → IsTrue (list_all (is_term_over (row_vars params column)) (row_terms params arrays column))
row-terms-over params arrays (Some v) =
    rw (read-over (params + 4) arrays.width (fixed (params + 4) (pos 0)) (form-has (params + 4) _ _ _ _ _ _), form-has (params + 4) [] params (pos 1) params (pos 1) (pos 0), form-has (params + 4) [] (params + 1) (pos 1) (params + 1) (pos 1) (pos 0)) refl
row-terms-over params arrays None = rw (read-over (params + 3) arrays.width (fixed (params + 3) (pos 0)) (form-has (params + 3) _ _ _ _ _ _)) refl

row-rows-over : (params : ℕ) (column : Option ℕ) (rows : List KernelRow) (n levels : ℕ) → IsTrue (list_all (is_row_over n levels) rows)
    → IsTrue (list_all (is_row_over (row_vars params column) 2) (row_rows params column (row_picks params column) rows))
unfolding row_rows
row-rows-over params column rows n levels h =
    let v = row_vars params column in
    let kept : IsTrue (list_all (is_row_over v 2) (kept_rows params 2 (params + 1) (row_picks params column) rows)) = rw (length-row-picks params column) at (kept-over params 2 (params + 1) n levels (row_picks params column) rows h) in
    all_both (is_row_over v 2) (kept_rows params 2 (params + 1) (row_picks params column) rows) _ kept
    (rw (bound-over v 2 2 (one v (params + 1) (pos 0)) (form-has v _ _ _ _ _ _) (omega arith), bound-over v 2 2 (two v (params + 2) (pos 1) (params + 1) (negsuc 0) (negsuc 0)) (form-has v _ _ _ _ _ _) (omega arith)) refl)

count-row-terms : (params : ℕ) (arrays : RowArrays) (column : Option ℕ) → row_vars params column ≡ params + 2 + length (row_terms params arrays column)
count-row-terms params arrays (Some v) = omega arith
count-row-terms params arrays None = omega arith

pub row-fitting : (params : ℕ) (arrays : RowArrays) (column : Option ℕ) (rows : List KernelRow) (n levels : ℕ) → IsTrue (list_all (is_row_over n levels) rows) → AreFitting params (row_parts params arrays column rows)
unfolding row_parts
row-fitting params arrays column rows n levels h =
    let v = row_vars params column in
    let w : length (row_picks params column) ≡ v = length-row-picks params column in
    record {
      depth = omega arith;
      picks = w ∙ count-row-terms params arrays column;
      terms = rw w (row-terms-over params arrays column);
      rows = rw w (row-rows-over params column rows n levels h);
      cell = rw (w, form-has v _ _ _ _ _ _, form-has v _ _ _ _ _ _) refl;
    }
