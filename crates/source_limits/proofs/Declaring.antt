-- Which arrays have the extents that cells need.
use Rattle.std.proofs.Common.{◌≡◌, ℕ, arith, ◌<◌, Bool, true, false, ◌&&◌, ◌||◌, List, [], ◌∷◌, length, map, refl, sym, ap, ◌∙◌, subst}
use Rattle.std.specs.Prelude.{◌==◌, bytes_eq}
use Rattle.std.specs.List.{list_all}
use Rattle.std.proofs.lemmas.Bool.{eqb-true}
use Rattle.std.proofs.lemmas.Slice.Eq.{bytes_eq-Decides}
use Rattle.c_tree.specs.declared.data.Expr.{Expr}
use Rattle.c_tree.specs.declared.index.Cell.{Cell}
use Rattle.c_tree.specs.declared.index.Index.{Index}
use Rattle.c_tree.specs.declared.program.Array.{Array}
use Rattle.c_tree.specs.declared.program.Matrix.{Matrix}
use Rattle.c_tree.specs.declared.program.Program.{Program}
use Rattle.c_tree.specs.declared.statement.How.{How}
use Rattle.c_tree.specs.declared.statement.Test.{Test}
use Rattle.c_tree.specs.declared.statement.Stmt.{Stmt, Stmt-F, fold_out-Stmt, map-Stmt, out-Stmt}
use Rattle.c_tree.specs.declared.statement.Stmt.TheVariants.{For, If, Assign, outs-For, outs-If, outs-Assign}
use Rattle.c_judge.specs.Signature.{extents_of}
use Rattle.source_limits.specs.Matrices.{is_index_array}
use Rattle.source_limits.specs.Dimensions.{has_one_extent, is_declared_matrix, HasMatrices, are_declared, declared_layer, has_declared, have_declared}
use Rattle.source_limits.proofs.Lists.{both}

module _ (arrays : List Array) where
  indexed_one : (ms : List Matrix) (x : List ℕ) → list_all (is_declared_matrix arrays) ms ≡ true → is_index_array ms x ≡ true → length (extents_of arrays x) ≡ 1
  indexed_one [] x h k = absurd cc
  indexed_one (m ∷ ms) x h k = by (bytes_eq m.index x) refl (bytes_eq m.col x) refl k (indexed_one ms x parts.1)
    where
      parts : (is_declared_matrix arrays m ≡ true) × (list_all (is_declared_matrix arrays) ms ≡ true)
      parts = both (is_declared_matrix arrays m) (list_all (is_declared_matrix arrays) ms) h

      own : (has_one_extent arrays m.index ≡ true) × (has_one_extent arrays m.col ≡ true)
      own = both (has_one_extent arrays m.index) (has_one_extent arrays m.col) parts.0

      there : (y : List ℕ) → bytes_eq y x ≡ true → has_one_extent arrays y ≡ true → length (extents_of arrays x) ≡ 1
      there y e o = subst (λ (z : List ℕ). length (extents_of arrays z) ≡ 1) ((bytes_eq-Decides y x).0 e) (eqb-true (length (extents_of arrays y)) 1 o)

      by : (a : Bool) → bytes_eq m.index x ≡ a → (b : Bool) → bytes_eq m.col x ≡ b → ((a || b) || is_index_array ms x) ≡ true → (is_index_array ms x ≡ true → length (extents_of arrays x) ≡ 1) → length (extents_of arrays x) ≡ 1
      by true e b f k more = there m.index e own.0
      by false e true f k more = there m.col f own.1
      by false e false f k more = more k

  -- ---- statements
  declared_at : (s : Stmt) (d : Stmt-F Stmt) → out-Stmt s ≡ d → has_declared arrays s ≡ declared_layer arrays (map-Stmt Stmt Bool (has_declared arrays) d)
  unfolding has_declared
  declared_at s d h = fold_out-Stmt Bool (declared_layer arrays) s ∙ ap (λ d. declared_layer arrays (map-Stmt Stmt Bool (has_declared arrays) d)) h

  each_in : (ss : List Stmt) → list_all (λ (b : Bool). b) (map (has_declared arrays) ss) ≡ have_declared arrays ss
  each_in [] = refl
  each_in (s ∷ ss) = ap (λ (b : Bool). has_declared arrays s && b) (each_in ss)

  pub declared-For : (x : List ℕ) (low high : Index) (body : List Stmt) → has_declared arrays (For x low high body) ≡ have_declared arrays body
  declared-For x low high body = declared_at (For x low high body) _ (outs-For x low high body) ∙ each_in body

  pub declared-If : (tests : List Test) (body : List Stmt) → has_declared arrays (If tests body) ≡ have_declared arrays body
  declared-If tests body = declared_at (If tests body) _ (outs-If tests body) ∙ each_in body

  pub declared-Assign : (target : Cell) (how : How) (value : Expr) → has_declared arrays (Assign target how value) ≡ are_declared arrays target value
  declared-Assign target how value = declared_at (Assign target how value) _ (outs-Assign target how value)

  -- what a body has
  pub body_declared : (s t : Stmt) (body bs : List Stmt) → s ≡ t → has_declared arrays t ≡ have_declared arrays body → bs ≡ body → has_declared arrays s ≡ true → have_declared arrays bs ≡ true
  body_declared s t body bs is at e h = ap (have_declared arrays) e ∙ sym at ∙ sym (ap (has_declared arrays) is) ∙ h

  pub body_assigned : (s : Stmt) (target : Cell) (how : How) (value : Expr) → s ≡ Assign target how value → has_declared arrays s ≡ true → are_declared arrays target value ≡ true
  body_assigned s target how value is h = sym (declared-Assign target how value) ∙ sym (ap (has_declared arrays) is) ∙ h

-- a term has an extent
pub first_below : (p : Program) (x : List ℕ) → HasMatrices p → is_index_array p.matrices x ≡ true → 0 < length (extents_of p.arrays x)
first_below p x h k = let e = indexed_one p.arrays p.matrices x h.each k in omega (arith, e)

-- each subscript has an extent
pub place_below : (n count place : ℕ) → (n == count) ≡ true → place < count → place < n
place_below n count place h l = let e = eqb-true n count h in omega (arith, e, l)
