-- The piece for a new level fits the statement.
use Rattle.std.proofs.Common.{◌≡◌, ℕ, zero, suc, arith, ◌<◌, ◌≤◌, ◌+◌, ◌-◌, true, ◌&&◌, ◌||◌, not, nat_eq, nat_lt, nat_le, List, [], ◌∷◌, ◌++◌, length, map, refl, sym, ap, ◌∙◌, ℤ, pos, negsuc, length-append, length-take, length-drop, eq-eqb, le-leb}
use Rattle.std.specs.Prelude.{Option, Some, None, IfSome, insert, slice_get}
use Rattle.std.specs.List.{list_all, range_with_len}
use Rattle.std.proofs.Math.Facts.{leb_yes}
use Rattle.std.proofs.lemmas.Bool.{cond_both, eqb-true}
use Rattle.std.proofs.lemmas.List.{length-map}
use Rattle.std.proofs.lemmas.List.FromFn.{length-map-range_with_len}
use Rattle.c_tree.specs.declared.program.Matrix.{Matrix}
use Rattle.c_tree.specs.declared.program.Program.{Program}
use Rattle.nest_tree.specs.declared.kernel.KernelRow.{KernelRow}
use Rattle.nest_tree.specs.declared.kernel.Nest.{Nest}
use Rattle.nest_tree.specs.declared.kernel.Term.{Term}
use Rattle.nest_core.specs.Forms.{has_vars}
use Rattle.nest_core.specs.Pieces.{frame_of, own_made, kept}
use Rattle.nest_core.specs.Shapes.{vars_of, is_row_over, is_term_over, keeps_own, IsShapedNest, FitsNest}
use Rattle.nest_core.proofs.Kept.{and}
use Rattle.nest_systems.specs.Ranges.{of_one, of_two}
use Rattle.affine_moves.specs.Change.{padded, unit}
use Rattle.affine_moves.proofs.Fitting.{true-and, bound-over, all-range, got-range, not_none, or-right}
use Rattle.affine_moves.proofs.Holding.{HoldsOne, unit-holds, last_held-level, length-padded}
use Rattle.make_dense.specs.declared.places.Places.{Places}
use Rattle.make_dense.specs.Forms.{difference, find_read, reads_at}
use Rattle.make_dense.specs.Places.{vars, further, place_or, dense_var, entry_var, column_var, new_place}
use Rattle.make_dense.specs.Piece.{places_of, old_form, below_columns, dense_rows, column_read, terms_for, dense_terms, dense_form, dense_piece}

pub length-inserted : {A : Type 0} (xs : List A) (i : ℕ) (x : A) → i ≤ length xs → length (insert xs i x) ≡ suc (length xs)
length-inserted xs i x l = grind (arith, length-append, length-take, length-drop)

-- ---- the term that is found
weaker : (o : Option ℕ) (a b : ℕ) → a ≡ b → IfSome o (λ k. k < a) → IfSome o (λ k. k < b)
weaker None a b e h = tt
weaker (Some k) a b e h = omega (arith, e, h)

find_read-below : (array : List ℕ) (v k : ℕ) (ts : List Term) → IfSome (find_read array v k ts) (λ j. j < k + length ts)
find_read-below array v k [] = tt
find_read-below array v k (t ∷ ts) =
    cond_both (reads_at array v (pos 0) t) (Some k) (find_read array v (suc k) ts) (λ (o : Option ℕ). IfSome o (λ j. j < k + suc (length ts)))
    (λ _. omega arith) (λ _. weaker (find_read array v (suc k) ts) (suc k + length ts) (k + suc (length ts)) (omega arith) (find_read-below array v (suc k) ts))

pub find_read-within : (array : List ℕ) (v : ℕ) (ts : List Term) → IfSome (find_read array v 0 ts) (λ j. j < length ts)
find_read-within array v ts = weaker (find_read array v 0 ts) (0 + length ts) (length ts) (omega arith) (find_read-below array v 0 ts)

pub further-few : (o : Option ℕ) → further o ≤ 1
further-few None = omega arith
further-few (Some k) = omega arith

-- ---- the forms
new_place-below : (level d l : ℕ) → l < d → new_place level l < suc d
new_place-below level d l h = cond_both (nat_lt (suc l) level) l (suc l) (λ k. k < suc d) (λ _. omega (arith, h)) (λ _. omega (arith, h))

length-of_one : (ps : List (List ℕ)) (c : List ℕ) (z : ℤ) → length (of_one ps c z).coefs ≡ length ps
unfolding of_one of_two
length-of_one ps c z = length-map ps _

column-below : (o : Option ℕ) (terms : ℕ) → IfSome o (λ k. k < terms) → place_or o terms < terms + further o
column-below None terms h = omega arith
column-below (Some k) terms h = omega (arith, h)

module _ (q : Places) (low : 1 ≤ q.level) (high : q.level ≤ q.depth) where
  pub old-holds : (l : ℕ) → l < q.depth → HoldsOne (vars q) (q.params + new_place q.level l) (old_form q l)
  unfolding old_form
  old-holds l h = unit-holds (vars q) (q.params + new_place q.level l) (omega (arith, new_place-below q.level q.depth l h))

  dense-holds : has_vars (vars q) (unit (vars q) (dense_var q)) ≡ true
  dense-holds = (unit-holds (vars q) (dense_var q) (omega (arith, low, high))).width

  entry-holds : has_vars (vars q) (unit (vars q) (entry_var q)) ≡ true
  entry-holds = (unit-holds (vars q) (entry_var q) (omega (arith, high))).width

  below-holds : (ps : List (List ℕ)) (columns : List ℕ) → q.params ≡ length ps → has_vars (vars q) (below_columns ps q columns) ≡ true
  unfolding below_columns
  below-holds ps columns e =
      let front : ℕ = length (of_one ps columns (pos 0)).coefs in
      let here : front ≡ length ps = length-of_one ps columns (pos 0) in
      let back : length (padded (vars q - q.params) (q.level - 1) (negsuc 0 ∷ [])) ≡ vars q - q.params = length-padded (vars q - q.params) (q.level - 1) (negsuc 0 ∷ []) (omega (arith, low, high)) in
      eq-eqb (length ((of_one ps columns (pos 0)).coefs ++ padded (vars q - q.params) (q.level - 1) (negsuc 0 ∷ []))) (vars q)
      (length-append (of_one ps columns (pos 0)).coefs (padded (vars q - q.params) (q.level - 1) (negsuc 0 ∷ [])) ∙ omega (arith, here, back, e))

  difference-holds : (x y : ℕ) → has_vars (vars q) (difference (vars q) x y) ≡ true
  unfolding difference
  difference-holds x y = eq-eqb _ (vars q) (length-map-range_with_len _ 0 (vars q))

  pub rows-over : (ps : List (List ℕ)) (columns : List ℕ) → q.params ≡ length ps → list_all (is_row_over (vars q) (suc q.depth)) (dense_rows ps q columns) ≡ true
  rows-over ps columns e =
      let own : q.level ≤ suc q.depth = omega (arith, high) in
      true-and _ _ (bound-over (vars q) (suc q.depth) q.level (unit (vars q) (dense_var q)) own dense-holds)
      (true-and _ _ (bound-over (vars q) (suc q.depth) q.level (below_columns ps q columns) own (below-holds ps columns e))
      (true-and _ _ (rw (difference-holds (dense_var q) (column_var q), le-leb 0 (suc q.depth) (omega arith)) refl) refl))

  pub terms-over : (array : List ℕ) (o : Option ℕ) → list_all (is_term_over (vars q)) (terms_for o (column_read q array)) ≡ true
  terms-over array None = rw entry-holds refl
  terms-over array (Some k) = refl

length-terms_for : (o : Option ℕ) (t : Term) → length (terms_for o t) ≡ further o
length-terms_for None t = refl
length-terms_for (Some k) t = refl

kept-none : (i : ℕ) (rows : List KernelRow) → kept [] i rows ≡ rows
kept-none i [] = refl
kept-none i (r ∷ rows) = ap (λ (rs : List KernelRow). r ∷ rs) (kept-none (suc i) rows)

module _ (head : Program) (n : Nest) (level : ℕ) (m : Matrix) (s : IsShapedNest head n) (low : 1 ≤ level) (high : level ≤ length n.levels) (few : length n.levels < 8) where
  own_some : (l : ℕ) → l < length n.levels → 0 < own_made (frame_of (length head.params) n (dense_piece head.params n level m)) (dense_piece head.params n level m).old (suc l)
  unfolding own_made dense_piece places_of
  own_some l h =
      let q : Places = places_of (length head.params) n level m in
      let holds = old-holds q low high l h in
      let zero_more : 0 + l ≡ l = omega arith in
      let got : slice_get (map (old_form q) (range_with_len 0 (length n.levels))) l ≡ Some (old_form q l) = got-range (old_form q) 0 (length n.levels) l h ∙ ap (λ (k : ℕ). Some (old_form q k)) zero_more in
      let wide : length (old_form q l).coefs ≡ vars q = eqb-true (length (old_form q l).coefs) (vars q) holds.width in
      let count : length (insert n.levels (level - 1) (dense_form n.whole)) ≡ suc (length n.levels) = length-inserted n.levels (level - 1) (dense_form n.whole) (omega (arith, high)) in
      rw (got, count) (last_held-level (length head.params) (suc (length n.levels)) (new_place level l) (old_form q l).coefs (new_place-below level (length n.levels) l h) (omega (arith, wide)) holds.one)

  keeps_each : (rows : List KernelRow) → list_all (is_row_over (vars_of (length head.params) n) (length n.levels)) rows ≡ true
      → list_all (keeps_own (frame_of (length head.params) n (dense_piece head.params n level m)) (dense_piece head.params n level m).old) rows ≡ true
  keeps_each [] e = refl
  keeps_each (r ∷ rows) e =
      let h = and (is_row_over (vars_of (length head.params) n) (length n.levels) r) (list_all (is_row_over (vars_of (length head.params) n) (length n.levels)) rows) e in
      let w = and (has_vars (vars_of (length head.params) n) r.row.form) (nat_le r.own (length n.levels) && (nat_eq r.own 0 || not r.row.equal)) h.0 in
      let o = and (nat_le r.own (length n.levels)) (nat_eq r.own 0 || not r.row.equal) w.1 in
      true-and _ _ (keeps_one r.own (leb_yes (rw o.0 tt))) (keeps_each rows h.1)
    where
      keeps_one : (own : ℕ) → own ≤ length n.levels
          → nat_eq own 0 || nat_lt 0 (own_made (frame_of (length head.params) n (dense_piece head.params n level m)) (dense_piece head.params n level m).old own) ≡ true
      keeps_one zero l = refl
      keeps_one (suc o) l = or-right (nat_eq (suc o) 0) _ (not_none _ (own_some o (omega (arith, l))))

  pub dense-fits : FitsNest (length head.params) n (dense_piece head.params n level m)
  unfolding dense_piece places_of
  dense-fits =
      let q : Places = places_of (length head.params) n level m in
      let count : length (insert n.levels (level - 1) (dense_form n.whole)) ≡ suc (length n.levels) = length-inserted n.levels (level - 1) (dense_form n.whole) (omega (arith, high)) in
      let more : length (dense_terms q m.col) ≡ further q.column = length-terms_for q.column (column_read q m.col) in
      let all : vars q ≡ length head.params + length (insert n.levels (level - 1) (dense_form n.whole)) + length n.terms + length (dense_terms q m.col) = omega (arith, count, more) in
      record {
        counts = length-map-range_with_len _ 0 (length n.levels);
        positions = length-inserted n.positions level 0 (omega (arith, s.positions, high)) ∙ ap suc (s.positions ∙ sym count);
        depth = rw count (omega (arith, few));
        old = rw (← all) (all-range (has_vars (vars q)) (old_form q) 0 (length n.levels) (length n.levels) (omega arith) (λ k l. (old-holds q low high k l).width));
        rows = rw (← all, count) (rows-over q low high head.params m.cols refl);
        terms = rw (← all) (terms-over q low high m.col q.column);
        drops = refl;
        bounds = rw (kept-none 0 n.rows) (keeps_each n.rows s.rows);
      }
