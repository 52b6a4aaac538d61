-- What is asked of a statement, at each kind.
use Rattle.std.proofs.Common.{◌≡◌, refl, sym, ap, ◌∙◌, ℕ, suc, ◌<◌, ◌≤◌, Bool, true, false, ◌&&◌, List, [], ◌∷◌, map, nat_le, nat_lt, arith}
use Rattle.std.specs.List.{list_all}
use Rattle.c_tree.specs.declared.index.Cell.{Cell}
use Rattle.c_tree.specs.declared.index.Index.{Index}
use Rattle.c_tree.specs.declared.program.Kind.{Kind}
use Rattle.c_tree.specs.declared.data.Expr.{Expr}
use Rattle.c_tree.specs.declared.statement.How.{How}
use Rattle.c_tree.specs.declared.statement.Test.{Test}
use Rattle.c_tree.specs.declared.statement.Stmt.{Stmt, para-Stmt, para-roll-Stmt}
use Rattle.c_tree.specs.declared.statement.Stmt.TheOpen as layer
use Rattle.c_tree.specs.declared.statement.Stmt.TheVariants.{For, If, Assign, Put, Declare, Grow, rolls-For, rolls-If, rolls-Assign, rolls-Put, rolls-Declare, rolls-Grow}
use Rattle.c_meaning.specs.Names.{Name}
use Rattle.c_meaning.specs.Scope.{Scope, fits, cell_fits, data_cell_fits, test_fits}
use Rattle.c_meaning.specs.Run.{part, widths}
use Rattle.c_meaning.proofs.Fitting.{and_left, and_right}
use Rattle.c_walk.specs.State.{with_number}
use Rattle.c_walk.specs.Ready.{data_fits, is_ready, are_ready, ready_layer, has_array, most_children, most_loops}

abbrev Ready : Type 0
Ready = Scope → ℕ → Bool

ready-For : (x : Name) (low high : Index) (body : List Stmt) → is_ready (For x low high body) ≡ ready_layer (layer.For x low high (map (λ t. (t, is_ready t)) body))
unfolding is_ready
ready-For x low high body = ap (para-Stmt Ready ready_layer) (sym (rolls-For x low high body)) ∙ para-roll-Stmt Ready ready_layer _

ready-If : (tests : List Test) (body : List Stmt) → is_ready (If tests body) ≡ ready_layer (layer.If tests (map (λ t. (t, is_ready t)) body))
unfolding is_ready
ready-If tests body = ap (para-Stmt Ready ready_layer) (sym (rolls-If tests body)) ∙ para-roll-Stmt Ready ready_layer _

ready-Assign : (target : Cell) (how : How) (value : Expr) → is_ready (Assign target how value) ≡ ready_layer (layer.Assign target how value)
unfolding is_ready
ready-Assign target how value = ap (para-Stmt Ready ready_layer) (sym (rolls-Assign target how value)) ∙ para-roll-Stmt Ready ready_layer _

ready-Put : (target : Cell) (value : Index) → is_ready (Put target value) ≡ ready_layer (layer.Put target value)
unfolding is_ready
ready-Put target value = ap (para-Stmt Ready ready_layer) (sym (rolls-Put target value)) ∙ para-roll-Stmt Ready ready_layer _

ready-Declare : (name : Name) (kind : Kind) (inner : List Index) → is_ready (Declare name kind inner) ≡ ready_layer (layer.Declare name kind inner)
unfolding is_ready
ready-Declare name kind inner = ap (para-Stmt Ready ready_layer) (sym (rolls-Declare name kind inner)) ∙ para-roll-Stmt Ready ready_layer _

ready-Grow : (name : Name) (by : Index) → is_ready (Grow name by) ≡ ready_layer (layer.Grow name by)
unfolding is_ready
ready-Grow name by = ap (para-Stmt Ready ready_layer) (sym (rolls-Grow name by)) ∙ para-roll-Stmt Ready ready_layer _

same_parts : (body : List Stmt) → map (λ (p : Stmt × Ready). part p.0) (map (λ t. (t, is_ready t)) body) ≡ map part body
same_parts [] = refl
same_parts (t ∷ ts) = ap (λ ps. part t ∷ ps) (same_parts ts)

same_ready : (body : List Stmt) (c : Scope) (d : ℕ) → list_all (λ (p : Stmt × Ready). p.1 c d) (map (λ t. (t, is_ready t)) body) ≡ are_ready body c d
same_ready [] c d = refl
same_ready (t ∷ ts) c d = ap (λ b. is_ready t c d && b) (same_ready ts c d)

below : (d : ℕ) → nat_lt d most_loops ≡ true → d < most_loops
below d h = grind arith

at_most : (n : ℕ) → nat_le n most_children ≡ true → n ≤ most_children
at_most n h = grind arith

module _ (c : Scope) (d : ℕ) where
  pub record LoopReady (x : Name) (from to : Index) (children : List Stmt) : Type 0 where
    pub low : fits from c ≡ true
    pub high : fits to c ≡ true
    pub loops : d < most_loops
    pub few : widths (map part children) ≤ most_children
    pub body : are_ready children (with_number x c) (suc d) ≡ true

  loop_parts : (x : Name) (low high : Index) (body : List Stmt) → ready_layer (layer.For x low high (map (λ t. (t, is_ready t)) body)) c d ≡ true → LoopReady x low high body
  loop_parts x low high body h =
      let bounds : (fits low c && fits high c) ≡ true = and_left _ _ h in
      let rest : ((nat_lt d most_loops && nat_le (widths (map (λ (p : Stmt × Ready). part p.0) (map (λ t. (t, is_ready t)) body))) most_children) && list_all (λ (p : Stmt × Ready). p.1 (with_number x c) (suc d)) (map (λ t. (t, is_ready t)) body)) ≡ true = and_right (fits low c && fits high c) _ h in
      let counts : (nat_lt d most_loops && nat_le (widths (map (λ (p : Stmt × Ready). part p.0) (map (λ t. (t, is_ready t)) body))) most_children) ≡ true = and_left _ _ rest in
      record {
        low = and_left _ _ bounds;
        high = and_right (fits low c) _ bounds;
        loops = below d (and_left _ _ counts);
        few = at_most _ (ap (λ ps. nat_le (widths ps) most_children) (sym (same_parts body)) ∙ and_right (nat_lt d most_loops) _ counts);
        body = sym (same_ready body (with_number x c) (suc d)) ∙ and_right (nat_lt d most_loops && nat_le (widths (map (λ (p : Stmt × Ready). part p.0) (map (λ t. (t, is_ready t)) body))) most_children) _ rest;
      }

  pub loop_ready : (t : Stmt) (x : Name) (low high : Index) (body : List Stmt) → t ≡ For x low high body → is_ready t c d ≡ true → LoopReady x low high body
  loop_ready t x low high body h k = loop_parts x low high body (ap (λ f. f c d) (sym (ready-For x low high body)) ∙ ap (λ t. is_ready t c d) (sym h) ∙ k)

  guard_all : (t : Stmt) (tests : List Test) (body : List Stmt) → t ≡ If tests body → is_ready t c d ≡ true → (list_all (λ t. test_fits t c) tests && list_all (λ (p : Stmt × Ready). p.1 c d) (map (λ t. (t, is_ready t)) body)) ≡ true
  guard_all t tests body h k = ap (λ f. f c d) (sym (ready-If tests body)) ∙ ap (λ t. is_ready t c d) (sym h) ∙ k

  pub guard_tests : (t : Stmt) (tests : List Test) (body : List Stmt) → t ≡ If tests body → is_ready t c d ≡ true → list_all (λ t. test_fits t c) tests ≡ true
  guard_tests t tests body h k = and_left _ _ (guard_all t tests body h k)

  pub guard_body : (t : Stmt) (tests : List Test) (body : List Stmt) → t ≡ If tests body → is_ready t c d ≡ true → are_ready body c d ≡ true
  guard_body t tests body h k = sym (same_ready body c d) ∙ and_right (list_all (λ t. test_fits t c) tests) _ (guard_all t tests body h k)

  pub assignment_ready : (t : Stmt) (target : Cell) (how : How) (value : Expr) → t ≡ Assign target how value → is_ready t c d ≡ true → (data_cell_fits target c && data_fits value c) ≡ true
  assignment_ready t target how value h k = ap (λ f. f c d) (sym (ready-Assign target how value)) ∙ ap (λ t. is_ready t c d) (sym h) ∙ k

  pub put_ready : (t : Stmt) (target : Cell) (value : Index) → t ≡ Put target value → is_ready t c d ≡ true → (cell_fits target c && fits value c) ≡ true
  put_ready t target value h k = ap (λ f. f c d) (sym (ready-Put target value)) ∙ ap (λ t. is_ready t c d) (sym h) ∙ k

  pub no_declaration : (t : Stmt) (name : Name) (kind : Kind) (inner : List Index) → t ≡ Declare name kind inner → is_ready t c d ≡ true → ⊥
  no_declaration t name kind inner h k = let e : false ≡ true = ap (λ f. f c d) (sym (ready-Declare name kind inner)) ∙ ap (λ t. is_ready t c d) (sym h) ∙ k in absurd cc

  pub growth_ready : (t : Stmt) (name : Name) (by : Index) → t ≡ Grow name by → is_ready t c d ≡ true → (has_array name c && fits by c) ≡ true
  growth_ready t name by h k = ap (λ f. f c d) (sym (ready-Grow name by)) ∙ ap (λ t. is_ready t c d) (sym h) ∙ k
