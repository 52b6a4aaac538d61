-- The copying statement has the shapes of statements.
use Rattle.std.proofs.Common.{◌≡◌, ℕ, suc, ◌+◌, ◌<◌, List, [], ◌∷◌, ◌++◌, length, take, replicate, arith, refl, sym, ap, ◌∙◌, length-append, length-take}
use Rattle.std.proofs.lemmas.List.{length-replicate}
use Rattle.std.specs.Prelude.{IsTrue}
use Rattle.std.specs.List.{list_all}
use Rattle.c_tree.specs.declared.program.Program.{Program}
use Rattle.nest_tree.specs.declared.body.Access.{Access}
use Rattle.nest_tree.specs.declared.kernel.KernelRow.{KernelRow}
use Rattle.nest_tree.specs.declared.kernel.Nest.{Nest}
use Rattle.nest_tree.specs.declared.kernel.Term.{Term}
use Rattle.nest_core.specs.Shapes.{is_term_over, is_access_over, IsShapedNest}
use Rattle.nest_core.proofs.Bodies.{over_is-At}
use Rattle.datacopy.specs.declared.narrow.Narrow.{Narrow}
use Rattle.datacopy.specs.Copied.{copying_positions}
use Rattle.datacopy.specs.Narrow.{depth_of, terms_of, new_vars, IsNarrow, AreRows, IsCopying}

-- one more position than there are levels
pub length-positions : (place levels statements dims : ℕ) (old ps : List ℕ) → ps ≡ copying_positions (take place old) statements dims → length old ≡ suc levels → place < levels → length ps ≡ suc (place + dims)
length-positions place levels statements dims old ps e long l =
    omega (arith, ap length e, length-append (take place old ++ statements ∷ []) (replicate dims 0), length-append (take place old) (statements ∷ []), length-replicate {A = ℕ} dims 0, length-take place old, long, l)

module _ (head : Program) (w : Narrow) (rs : List KernelRow) (ts : List Term) (to from : Access) (ps : List ℕ) (n : Nest) where
  pub copying-shaped : IsNarrow w → w.params ≡ length head.params → AreRows w rs → length ts ≡ terms_of w → IsTrue (list_all (is_term_over (new_vars w)) ts)
      → IsTrue (is_access_over (new_vars w) to) → IsTrue (is_access_over (new_vars w) from) → length ps ≡ suc (depth_of w) → IsCopying w rs ts to from ps n → IsShapedNest head n
  copying-shaped narrow params rows count terms target value long c =
      let many : length n.terms ≡ terms_of w = ap length c.terms ∙ count in
      let vars : length head.params + length n.levels + length n.terms ≡ new_vars w = rw (c.levels, many, params) refl in
      record {
        positions = ap length c.positions ∙ long ∙ ap suc (sym c.levels);
        depth = rw c.levels narrow.depth;
        rows = rw (vars, c.levels, c.rows) rows;
        terms = rw (vars, c.terms) terms;
        target = rw (vars, c.target) target;
        value = rw (vars, c.value) (over_is-At _ _ ∙ value);
        whole = rw c.whole refl;
      }
