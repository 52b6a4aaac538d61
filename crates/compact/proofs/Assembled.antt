-- The statement over the places of kept values has the shape of statements.
use Rattle.std.proofs.Common.{◌≡◌, ℕ, arith, ◌+◌, true, ◌||◌, nat_le, nat_eq, ◌++◌, length, refl, ◌∙◌, ℤ, pos, negsuc, length-append, eq-eqb, le-leb}
use Rattle.std.specs.Prelude.{replicate, slice_set}
use Rattle.std.specs.List.{list_all}
use Rattle.std.proofs.lemmas.List.{length-replicate, length-set}
use Rattle.std.proofs.lemmas.List.Folds.{list_all-append}
use Rattle.std.proofs.lemmas.List.FromFn.{length-map-range_with_len}
use Rattle.c_tree.specs.declared.program.Program.{Program}
use Rattle.nest_tree.specs.declared.form.Form.{Form}
use Rattle.nest_tree.specs.declared.form.Form.TheVariants.{Other}
use Rattle.nest_tree.specs.declared.kernel.Nest.{Nest}
use Rattle.nest_core.specs.Forms.{has_vars}
use Rattle.nest_core.specs.Shapes.{is_row_over, is_term_over, IsShapedNest}
use Rattle.nest_systems.specs.Spans.{unit_at, unit_form}
use Rattle.inspectors.specs.declared.level.Group.{Group}
use Rattle.inspectors.specs.declared.level.Group.TheVariants.{All, Rows}
use Rattle.inspectors.specs.declared.names.MarkNames.{MarkNames}
use Rattle.compact.specs.declared.counts.Counts.{Counts}
use Rattle.compact.specs.declared.parts.Parts.{Parts}
use Rattle.compact.specs.Statement.{new_vars, place_var, begin_var, end_var, group_plus, new_terms, difference, bound, new_rows, assembled, AreCounts, AreParts, AreOf}

unit-long : (a n : ℕ) → length (unit_form a n).coefs ≡ n
unfolding unit_form
unit-long a n = length-map-range_with_len (unit_at a) 0 n

group-long : (v : Counts) (g : Group) (z : ℤ) → length (group_plus v g z).coefs ≡ new_vars v
group-long v All z = length-replicate (new_vars v) (pos 0)
group-long v (Rows r) z = unit-long v.params (new_vars v)

difference-long : (n a b : ℕ) (z : ℤ) → length (difference n a b z).coefs ≡ n
unfolding difference
difference-long n a b z = length-set (slice_set (replicate n (pos 0)) a (pos 1)) b (negsuc 0) ∙ length-set (replicate n (pos 0)) a (pos 1) ∙ length-replicate n (pos 0)

bound-over : (v : Counts) (a b : ℕ) (z : ℤ) → AreCounts v → is_row_over (new_vars v) v.levels (bound v a b z) ≡ true
bound-over v a b z c =
    let long : nat_eq (length (difference (new_vars v) a b z).coefs) (new_vars v) ≡ true = eq-eqb _ _ (difference-long (new_vars v) a b z) in
    let own : nat_le (v.level + 1) v.levels ≡ true = le-leb (v.level + 1) v.levels (omega (arith, c.level)) in
    let own_none : (nat_eq (v.level + 1) 0 || true) ≡ true = grind arith in
    rw (long, own, own_none) refl

rows-over : (v : Counts) → AreCounts v → list_all (is_row_over (new_vars v) v.levels) (new_rows v) ≡ true
unfolding new_rows
rows-over v c = rw (bound-over v (place_var v) (begin_var v) (pos 0) c, bound-over v (end_var v) (place_var v) (negsuc 0) c) refl

terms-over : (v : Counts) (g : Group) (b : MarkNames) → list_all (is_term_over (new_vars v)) (new_terms v g b) ≡ true
unfolding new_terms
terms-over v g b =
    let first : has_vars (new_vars v) (unit_form (v.params + v.level) (new_vars v)) ≡ true = eq-eqb _ _ (unit-long (v.params + v.level) (new_vars v)) in
    let second : has_vars (new_vars v) (group_plus v g (pos 0)) ≡ true = eq-eqb _ _ (group-long v g (pos 0)) in
    let third : has_vars (new_vars v) (group_plus v g (pos 1)) ≡ true = eq-eqb _ _ (group-long v g (pos 1)) in
    rw (first, second, third) refl

terms-long : (v : Counts) (g : Group) (b : MarkNames) → length (new_terms v g b) ≡ 3
unfolding new_terms
terms-long v g b = refl

pub assembled-shaped : (head : Program) (v : Counts) (g : Group) (b : MarkNames) (n : Nest) (p : Parts) → AreCounts v → AreOf (length head.params) n v → IsShapedNest head n
    → AreParts (new_vars v) (length n.levels) (length n.terms) p → IsShapedNest head (assembled v g b n p)
assembled-shaped head v g b n p c of shaped parts =
    let none : Form = Other in
    let levels : length (replicate (length n.levels) none) ≡ length n.levels = length-replicate (length n.levels) none in
    let terms : length (p.terms ++ new_terms v g b) ≡ length n.terms + 3 = length-append p.terms (new_terms v g b) ∙ rw (parts.count, terms-long v g b) refl in
    let vars : length head.params + length (replicate (length n.levels) none) + length (p.terms ++ new_terms v g b) ≡ new_vars v =
    omega (arith, levels, terms, of.params, of.levels, of.terms) in
    record {
      positions = rw levels shaped.positions;
      depth = rw levels shaped.depth;
      rows = rw (vars, levels, list_all-append, parts.rows, ← of.levels) (rows-over v c);
      terms = rw (vars, list_all-append, parts.terms) (terms-over v g b);
      target = rw vars parts.target;
      value = rw vars parts.value;
      whole = refl;
    }
