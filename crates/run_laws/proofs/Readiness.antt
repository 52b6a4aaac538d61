-- Statements whose parts fit the scope can be run.
use Rattle.std.proofs.Common.{◌≡◌, refl, sym, ap, ◌∙◌, ℕ, suc, ◌<◌, ◌≤◌, Bool, true, ◌&&◌, List, [], ◌∷◌, map, nat_le, nat_lt, arith}
use Rattle.std.specs.List.{list_all}
use Rattle.c_tree.specs.declared.index.Cell.{Cell}
use Rattle.c_tree.specs.declared.index.Index.{Index}
use Rattle.c_tree.specs.declared.data.Expr.{Expr}
use Rattle.c_tree.specs.declared.statement.How.{How}
use Rattle.c_tree.specs.declared.statement.Test.{Test}
use Rattle.c_tree.specs.declared.statement.Stmt.{Stmt, para-Stmt, para-roll-Stmt}
use Rattle.c_tree.specs.declared.statement.Stmt.TheOpen as layer
use Rattle.c_tree.specs.declared.statement.Stmt.TheVariants.{For, If, Assign, Put, Grow, rolls-For, rolls-If, rolls-Assign, rolls-Put, rolls-Grow}
use Rattle.c_meaning.specs.Names.{Name}
use Rattle.c_meaning.specs.Scope.{Scope, fits, cell_fits, data_cell_fits, test_fits}
use Rattle.c_meaning.specs.Run.{part, widths}
use Rattle.c_walk.specs.State.{with_number}
use Rattle.c_walk.specs.Ready.{data_fits, is_ready, are_ready, ready_layer, has_array, most_children, most_loops}
use Rattle.run_laws.proofs.Choices.{both}

abbrev Ready : Type 0
Ready = Scope → ℕ → Bool

same_parts : (body : List Stmt) → map (λ (p : Stmt × Ready). part p.0) (map (λ t. (t, is_ready t)) body) ≡ map part body
same_parts [] = refl
same_parts (t ∷ ts) = ap (λ ps. part t ∷ ps) (same_parts ts)

same_ready : (body : List Stmt) (c : Scope) (d : ℕ) → list_all (λ (p : Stmt × Ready). p.1 c d) (map (λ t. (t, is_ready t)) body) ≡ are_ready body c d
same_ready [] c d = refl
same_ready (t ∷ ts) c d = ap (λ b. is_ready t c d && b) (same_ready ts c d)

below : (d : ℕ) → d < most_loops → nat_lt d most_loops ≡ true
below d h = grind (arith, h)

at_most : (n : ℕ) → n ≤ most_children → nat_le n most_children ≡ true
at_most n h = grind (arith, h)

module _ (c : Scope) (d : ℕ) where
  pub ready-For : (x : Name) (low high : Index) (body : List Stmt) → fits low c ≡ true → fits high c ≡ true → d < most_loops → widths (map part body) ≤ most_children
      → are_ready body (with_number x c) (suc d) ≡ true → is_ready (For x low high body) c d ≡ true
  unfolding is_ready
  ready-For x low high body l h loops few inner =
      ap (λ (f : Ready). f c d) (ap (para-Stmt Ready ready_layer) (sym (rolls-For x low high body)) ∙ para-roll-Stmt Ready ready_layer _)
      ∙ both (fits low c && fits high c)
      ((nat_lt d most_loops && nat_le (widths (map (λ (p : Stmt × Ready). part p.0) (map (λ t. (t, is_ready t)) body))) most_children) && list_all (λ (p : Stmt × Ready). p.1 (with_number x c) (suc d)) (map (λ t. (t, is_ready t)) body))
      (both (fits low c) (fits high c) l h)
      (both (nat_lt d most_loops && nat_le (widths (map (λ (p : Stmt × Ready). part p.0) (map (λ t. (t, is_ready t)) body))) most_children)
      (list_all (λ (p : Stmt × Ready). p.1 (with_number x c) (suc d)) (map (λ t. (t, is_ready t)) body))
      (both (nat_lt d most_loops) (nat_le (widths (map (λ (p : Stmt × Ready). part p.0) (map (λ t. (t, is_ready t)) body))) most_children) (below d loops) (ap (λ ps. nat_le (widths ps) most_children) (same_parts body) ∙ at_most _ few))
      (same_ready body (with_number x c) (suc d) ∙ inner))

  pub ready-If : (tests : List Test) (body : List Stmt) → list_all (λ t. test_fits t c) tests ≡ true → are_ready body c d ≡ true → is_ready (If tests body) c d ≡ true
  unfolding is_ready
  ready-If tests body h inner =
      ap (λ (f : Ready). f c d) (ap (para-Stmt Ready ready_layer) (sym (rolls-If tests body)) ∙ para-roll-Stmt Ready ready_layer _)
      ∙ both (list_all (λ t. test_fits t c) tests) (list_all (λ (p : Stmt × Ready). p.1 c d) (map (λ t. (t, is_ready t)) body)) h (same_ready body c d ∙ inner)

  pub ready-Assign : (target : Cell) (how : How) (value : Expr) → data_cell_fits target c ≡ true → data_fits value c ≡ true → is_ready (Assign target how value) c d ≡ true
  unfolding is_ready
  ready-Assign target how value h k =
      ap (λ (f : Ready). f c d) (ap (para-Stmt Ready ready_layer) (sym (rolls-Assign target how value)) ∙ para-roll-Stmt Ready ready_layer _)
      ∙ both (data_cell_fits target c) (data_fits value c) h k

  pub ready-Put : (target : Cell) (value : Index) → cell_fits target c ≡ true → fits value c ≡ true → is_ready (Put target value) c d ≡ true
  unfolding is_ready
  ready-Put target value h k =
      ap (λ (f : Ready). f c d) (ap (para-Stmt Ready ready_layer) (sym (rolls-Put target value)) ∙ para-roll-Stmt Ready ready_layer _) ∙ both (cell_fits target c) (fits value c) h k

  pub ready-Grow : (name : Name) (by : Index) → has_array name c ≡ true → fits by c ≡ true → is_ready (Grow name by) c d ≡ true
  unfolding is_ready
  ready-Grow name by h k =
      ap (λ (f : Ready). f c d) (ap (para-Stmt Ready ready_layer) (sym (rolls-Grow name by)) ∙ para-roll-Stmt Ready ready_layer _) ∙ both (has_array name c) (fits by c) h k
