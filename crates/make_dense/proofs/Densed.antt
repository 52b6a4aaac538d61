-- The statement with its new level has the shapes of statements.
use Rattle.std.proofs.Common.{◌≡◌, ℕ, suc, arith, ◌<◌, ◌≤◌, ◌+◌, ◌-◌, true, List, [], ◌∷◌, length, refl, ap, ◌∙◌, length-append}
use Rattle.std.specs.Prelude.{Result, Ok, IfOk, IsTrue, insert}
use Rattle.std.proofs.lemmas.List.FromFn.{length-map-range_with_len}
use Rattle.chill_base.specs.declared.faults.Stop.{Stop}
use Rattle.c_tree.specs.declared.program.Matrix.{Matrix}
use Rattle.c_tree.specs.declared.program.Program.{Program}
use Rattle.int_rows.specs.declared.row.Excess.{Excess}
use Rattle.nest_tree.specs.declared.body.Access.{Access}
use Rattle.nest_tree.specs.declared.body.Body.{Body}
use Rattle.nest_tree.specs.declared.kernel.Nest.{Nest}
use Rattle.nest_tree.specs.declared.kernel.Term.{Term}
use Rattle.nest_tree.specs.declared.moves.Piece.{Piece}
use Rattle.nest_core.specs.Making.{Gives, each_made, both_lists}
use Rattle.nest_core.specs.Forms.{rewritten, judged_form}
use Rattle.nest_core.specs.Pieces.{row_made, row_judged, kept, term_made, access_made, body_made, frame_of, nest_of_piece, nests_made}
use Rattle.nest_core.specs.Shapes.{vars_of, is_access_over, is_body_over, IsShapedNest, FitsNest}
use Rattle.nest_core.proofs.Kept.{after_ok}
use Rattle.nest_core.proofs.Shaped.{nests_made-shaped}
use Rattle.one_statement.proofs.Replaced.{gives-has}
use Rattle.make_dense.specs.Column.{same_levels, term_images, column_images, with_cells}
use Rattle.make_dense.specs.Dense.{nest_with_level}
use Rattle.make_dense.specs.Piece.{dense_piece, dense_form}
use Rattle.make_dense.proofs.Fitted.{length-inserted, dense-fits}

-- ---- one piece
module _ (head : Program) (n : Nest) (p : Piece) (m : Nest) where
  pub one-shaped : IsShapedNest head n → FitsNest (length head.params) n p → nest_of_piece (length head.params) true n p ≡ Ok m → IsShapedNest head m
  one-shaped s f e =
      let made : nests_made (length head.params) (n ∷ []) ((p ∷ []) ∷ []) ≡ Ok (m ∷ []) = rw e refl in
      let t = nests_made-shaped head (n ∷ []) ((p ∷ []) ∷ []) (m ∷ []) (s, tt) (omega arith, (f, tt), tt) made in
      t.0.0

  levels-kept : nest_of_piece (length head.params) true n p ≡ Ok m → m.levels ≡ p.levels
  unfolding nest_of_piece
  levels-kept e =
      let fr = frame_of (length head.params) n p in
      let make = rewritten fr p.old in
      let rows = after_ok (both_lists (each_made (row_made fr p.old) (kept p.drops 0 n.rows)) (each_made row_judged p.rows)) _ m e in
      let terms = after_ok (both_lists (each_made (term_made make) n.terms) (each_made (term_made judged_form) p.terms)) _ m rows.2 in
      let target = after_ok (access_made make n.target) _ m terms.2 in
      let value = after_ok (body_made make n.value) _ m target.2 in
      let is : m ≡ record { levels = p.levels; positions = p.positions; terms = terms.0; rows = rows.0; target = target.0; how = n.how; value = value.0; whole = n.whole } = cc in
      ap (λ (x : Nest). x.levels) is

piece-levels : (params : List (List ℕ)) (n : Nest) (level : ℕ) (m : Matrix) → (dense_piece params n level m).levels ≡ insert n.levels (level - 1) (dense_form n.whole)
unfolding dense_piece
piece-levels params n level m = refl

module _ (head : Program) (n : Nest) (level : ℕ) (m : Matrix) (s : IsShapedNest head n) (low : 1 ≤ level) (high : level ≤ length n.levels) (few : length n.levels < 8) where
  pub level-shaped : (r : Result Nest (Stop Excess)) → Gives r (nest_with_level head.params n level m) → IfOk r (λ x. IsShapedNest head x)
  level-shaped r g = gives-has (λ x. IsShapedNest head x) r (nest_with_level head.params n level m) (λ x e. one-shaped head n (dense_piece head.params n level m) x s (dense-fits head n level m s low high few) e) g

  pub level-high : (r : Result Nest (Stop Excess)) → Gives r (nest_with_level head.params n level m) → IfOk r (λ x. level ≤ length x.levels)
  level-high r g = gives-has (λ x. level ≤ length x.levels) r (nest_with_level head.params n level m)
      (λ x e. (let same : length x.levels ≡ suc (length n.levels) = ap length (levels-kept head n (dense_piece head.params n level m) x e ∙ piece-levels head.params n level m) ∙ length-inserted n.levels (level - 1) (dense_form n.whole) (omega (arith, high)) in omega (arith, same, high))) g

-- ---- other cells
length-term_images : (column : List ℕ) (dense entry vars v : ℕ) (ts : List Term) → length (term_images column dense entry vars v ts) ≡ length ts
length-term_images column dense entry vars v [] = refl
length-term_images column dense entry vars v (t ∷ ts) = ap suc (length-term_images column dense entry vars (suc v) ts)

pub images-count : (params : ℕ) (n : Nest) (level : ℕ) (column : List ℕ) → (column_images params n level column).params + length (column_images params n level column).forms ≡ vars_of params n
unfolding column_images
images-count params n level column =
    let front : length (same_levels (vars_of params n) params (length n.levels)) ≡ length n.levels = length-map-range_with_len _ 0 (length n.levels) in
    let back = length-term_images column (params + (level - 1)) (params + level) (vars_of params n) (params + length n.levels) n.terms in
    let both = length-append (same_levels (vars_of params n) params (length n.levels)) (term_images column (params + (level - 1)) (params + level) (vars_of params n) (params + length n.levels) n.terms) in
    omega (arith, front, back, both)

pub images-params : (params : ℕ) (n : Nest) (level : ℕ) (column : List ℕ) → (column_images params n level column).params ≡ params
unfolding column_images
images-params params n level column = refl

pub images-vars : (params : ℕ) (n : Nest) (level : ℕ) (column : List ℕ) → (column_images params n level column).vars ≡ vars_of params n
unfolding column_images
images-vars params n level column = refl

pub images-room : (params : ℕ) (n : Nest) (level : ℕ) (column : List ℕ) → (column_images params n level column).params ≤ (column_images params n level column).vars
unfolding column_images
images-room params n level column = omega arith

pub cells-shaped : (head : Program) (n : Nest) (target : Access) (value : Body) → IsShapedNest head n → IsTrue (is_access_over (vars_of (length head.params) n) target) → IsTrue (is_body_over (vars_of (length head.params) n) value)
    → IsShapedNest head (with_cells n target value)
cells-shaped head n target value s t v = record {
  positions = s.positions;
  depth = s.depth;
  rows = s.rows;
  terms = s.terms;
  target = t;
  value = v;
  whole = s.whole;
}
