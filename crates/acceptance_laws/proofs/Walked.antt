-- Loop variables keep to their sizes on the way, and what is passed has its values.
use Rattle.std.specs.Prelude.{if◌then◌else◌, bytes_eq, unsigned_abs, ◌≤◌}
use Rattle.std.proofs.Common.{◌≡◌, inl, inr, ℕ, Bool, true, false, max, List, [], ◌∷◌, ◌++◌, refl, sym, ◌∙◌, ap, subst, arith, ℤ, ◌≤ℤ◌, ◌<ℤ◌, Ok}
use Rattle.std.specs.List.{list_any, AllByRecursion}
use Rattle.std.proofs.lemmas.Int.{ints}
use Rattle.std.proofs.lemmas.Slice.Eq.{bytes_eq-Decides}
use Rattle.c_tree.specs.declared.program.Matrix.{Matrix}
use Rattle.c_tree.specs.declared.index.Index.{Index}
use Rattle.c_tree.specs.declared.statement.Test.{Test}
use Rattle.c_meaning.specs.Names.{Name}
use Rattle.c_meaning.specs.Weighed.{greatest}
use Rattle.c_meaning.specs.Value.{Sight, value_of}
use Rattle.c_meaning.specs.Listing.{Scene, bind}
use Rattle.nest_tree.specs.Loops.{Levels}
use Rattle.nest_tree.specs.Lists.{IsIn}
use Rattle.nest_laws.specs.Trees.{bind_all}
use Rattle.nest_laws.proofs.Weights.{small}
use Rattle.acceptance.specs.Expressions.{Expression, plain, index_of}
use Rattle.acceptance.specs.Affine.{Mention, mentions, lowers, uppers}
use Rattle.acceptance.specs.Sizes.{Size, size_of, weight}
use Rattle.acceptance.specs.Forms.{Vars, form, read_of, is_among, reads_of}
use Rattle.acceptance.specs.Visits.{Passed, looped, tested}
use Rattle.acceptance.specs.Around.{loop_names, around_expressions}
use Rattle.acceptance_laws.specs.Reached.{Reached}
use Rattle.acceptance_laws.specs.Formed.{AreApart, sizes_of, point, KeepSizes}
use Rattle.acceptance_laws.specs.Rows.{IsOperand, LowerValue, UpperValue}
use Rattle.acceptance_laws.specs.Scopes.{IsScoped, IsEvaluated}
use Rattle.acceptance_laws.specs.Seen.{AreSeen, IsInScope}
use Rattle.acceptance_laws.specs.Kept.{IsKeptBy, IsKept, HasSmallCells}
use Rattle.acceptance_laws.proofs.Formed.{all-left, all-right}
use Rattle.acceptance_laws.proofs.Plain.{plain_back}
use Rattle.acceptance_laws.proofs.Rows.{all-both, bounds_values}
use Rattle.acceptance_laws.proofs.Listed.{listed}
use Rattle.acceptance_laws.proofs.Scopes.{here, keeps, value-is, ok-is, any-last}
use Rattle.acceptance_laws.proofs.Found.{AllMentions, all_in, in_lowers, in_uppers, scoped_lowers, scoped_uppers, small_lower, small_upper, are_found, all_operands}

-- a lower bound's value in the sight, its size and its operands
module _ (ms : List Matrix) (sizes : List Size) (s : Sight) (v : Vars) (front behind : List Name) (all : v.names ≡ front ++ behind) (apart : AreApart v.names) (reads : AreApart v.reads) (keep : KeepSizes sizes s front) (cells : HasSmallCells ms s) where
  -- the terms of an expression are among the reads
  abbrev pub Listed : Expression → Type 0
  Listed e = AllByRecursion (λ m. is_among v.reads (read_of v.names m) ≡ true) (mentions ms e)

  pub lower_operands : (e : Expression) → IsInScope front e → IsKeptBy ms sizes e (lowers e) → AreSeen ms s e → Listed e → AllByRecursion (IsOperand sizes s v) (lowers e)
  lower_operands e i k h l = all_operands ms sizes s v front behind all apart keep cells reads (lowers e) k.affine (scoped_lowers front e i) (in_lowers ms _ e (are_found ms sizes s v front behind all apart keep cells e i k.terms h l))

  pub upper_operands : (e : Expression) → IsInScope front e → IsKeptBy ms sizes e (uppers e) → AreSeen ms s e → Listed e → AllByRecursion (IsOperand sizes s v) (uppers e)
  upper_operands e i k h l = all_operands ms sizes s v front behind all apart keep cells reads (uppers e) k.affine (scoped_uppers front e i) (in_uppers ms _ e (are_found ms sizes s v front behind all apart keep cells e i k.terms h l))

  pub side_operand : (e : Expression) → IsInScope front e → IsKeptBy ms sizes e (e ∷ []) → AreSeen ms s e → Listed e → IsOperand sizes s v e
  side_operand e i k h l = (all_operands ms sizes s v front behind all apart keep cells reads (e ∷ []) k.affine (i, tt) (are_found ms sizes s v front behind all apart keep cells e i k.terms h l, tt)).0

-- a value with its bound on the size
pub record Valued (sizes : List Size) (s : Sight) (a : Index) : Type 0 where
  pub value : ℤ
  pub is : value_of a s ≡ Ok value
  pub small : unsigned_abs value ≤ weight sizes (plain a)

module _ (ms : List Matrix) (sizes : List Size) (s : Sight) (front behind : List Name) (apart : AreApart (front ++ behind)) (keep : KeepSizes sizes s front) (cells : HasSmallCells ms s) where
  abbrev vars : List Expression → Vars
  vars es = record { names = front ++ behind; reads = reads_of ms (front ++ behind) es }

  listed_in : (es : List Expression) (e : Expression) → IsIn e es → AllByRecursion (λ m. is_among (reads_of ms (front ++ behind) es) (read_of (front ++ behind) m) ≡ true) (mentions ms e)
  listed_in es e k = all_in _ (mentions ms e) (λ m h. (listed ms (front ++ behind) es).1 e m k h)

  pub lower_value : (a : Index) → IsInScope front (plain a) → IsKeptBy ms sizes (plain a) (lowers (plain a)) → AreSeen ms s (plain a) → Valued sizes s a
  lower_value a i k h =
      let es = plain a ∷ [] in
      let w = (bounds_values sizes s (vars es) (plain a)).0 (lower_operands ms sizes s (vars es) front behind refl apart ((listed ms (front ++ behind) es).0) keep cells (plain a) i k h (listed_in es (plain a) (inl refl))) in
      let l = small_lower sizes (plain a) k.small in
      record { value = w.bound; is = value-is sizes s a w.bound _ w.has l; small = (small (sizes_of sizes) s (index_of (plain a)) w.bound _ w.has l).1 }

  pub upper_value : (a : Index) → IsInScope front (plain a) → IsKeptBy ms sizes (plain a) (uppers (plain a)) → AreSeen ms s (plain a) → Valued sizes s a
  upper_value a i k h =
      let es = plain a ∷ [] in
      let w = (bounds_values sizes s (vars es) (plain a)).1 (upper_operands ms sizes s (vars es) front behind refl apart ((listed ms (front ++ behind) es).0) keep cells (plain a) i k h (listed_in es (plain a) (inl refl))) in
      let l = small_upper sizes (plain a) k.small in
      record { value = w.bound; is = value-is sizes s a w.bound _ w.has l; small = (small (sizes_of sizes) s (index_of (plain a)) w.bound _ w.has l).1 }

  pub side_value : (a : Index) → IsInScope front (plain a) → IsKeptBy ms sizes (plain a) (plain a ∷ []) → AreSeen ms s (plain a) → Valued sizes s a
  side_value a i k h =
      let es = plain a ∷ [] in
      let w = side_operand ms sizes s (vars es) front behind refl apart ((listed ms (front ++ behind) es).0) keep cells (plain a) i k h (listed_in es (plain a) (inl refl)) in
      record { value = _; is = value-is sizes s a _ _ w (k.small).0; small = (small (sizes_of sizes) s (index_of (plain a)) _ _ w (k.small).0).1 }

pub small_bounds : (ms : List Matrix) (sizes : List Size) (low high : Index) → IsKeptBy ms sizes (plain low) (lowers (plain low)) → IsKeptBy ms sizes (plain high) (uppers (plain high)) → (weight sizes (plain low) ≤ greatest) × (weight sizes (plain high) ≤ greatest)
small_bounds ms sizes low high k l = (small_lower sizes (plain low) k.small, small_upper sizes (plain high) l.small)

-- ## Along the way

append-names : (ps : List Name) → ps ++ [] ≡ ps
append-names [] = refl
append-names (x ∷ ps) = ap (λ (qs : List Name). x ∷ qs) (append-names ps)

pub one_more : (ps : List Name) (x : Name) (zs : List Name) → ps ++ (x ∷ zs) ≡ (ps ++ (x ∷ [])) ++ zs
one_more [] x zs = refl
one_more (p ∷ ps) x zs = ap (λ (ns : List Name). p ∷ ns) (one_more ps x zs)

between-small : (l h v : ℤ) (a b n : ℕ) → unsigned_abs l ≤ a → unsigned_abs h ≤ b → l ≤ℤ v → v <ℤ h → n ≡ max a b → unsigned_abs v ≤ n
between-small l h v a b n p q r t e = grind (arith, ints, p, q, r, t, e)

module _ (ms : List Matrix) (sizes : List Size) (inner : List Name) where
  abbrev S : List Passed → Levels → Scene → Sight
  S ps e c = (bind_all (loop_names ps) e c).sight

  pub walk : (front : List Name) (ps : List Passed) (c : Scene) (e : Levels) → IsScoped front ps → AllByRecursion (IsKept ms sizes) ps → Reached ps c e → AllByRecursion (AreSeen ms (S ps e c)) (around_expressions ps)
      → AreApart (front ++ (loop_names ps ++ inner)) → HasSmallCells ms (S ps e c) → KeepSizes sizes (S ps e c) front → KeepSizes sizes (S ps e c) (front ++ loop_names ps)
  walk front [] c e i k r h a z keep = subst (KeepSizes sizes c.sight) (sym (append-names front)) keep
  walk front (looped x low high ∷ ps) c [] i k r h a z keep = absurd r
  walk front (looped x low high ∷ ps) c (w ∷ e) i k r h a z keep =
      let s : Sight = S ps e (bind x w c) in
      let lo = lower_value ms sizes s front (x ∷ (loop_names ps ++ inner)) a keep z low i.0 (k.0).0 h.0 in
      let hi = upper_value ms sizes s front (x ∷ (loop_names ps ++ inner)) a keep z high i.1 (k.0).1 (h.1).0 in
      let l : (r.0).0 ≡ lo.value = ok-is (r.0).0 lo.value (value_of low c.sight) (r.0).2 (sym (here front (looped x low high ∷ ps) (w ∷ e) c low i i.0) ∙ lo.is) in
      let u : (r.0).1 ≡ hi.value = ok-is (r.0).1 hi.value (value_of high c.sight) (r.0).3 (sym (here front (looped x low high ∷ ps) (w ∷ e) c high i i.1) ∙ hi.is) in
      let y : s.value x ≡ w = keeps (front ++ x ∷ []) ps e (bind x w c) i.3 x (any-last x front) ∙ ap (λ (t : Bool). if t then w else c.sight.value x) ((bytes_eq-Decides x x).1 refl) in
      let p : lo.value ≤ℤ s.value x = subst (λ (z : ℤ). z ≤ℤ s.value x) l (subst (λ (z : ℤ). (r.0).0 ≤ℤ z) (sym y) (r.0).4) in
      let q : s.value x <ℤ hi.value = subst (λ (z : ℤ). s.value x <ℤ z) u (subst (λ (z : ℤ). z <ℤ (r.0).1) (sym y) (r.0).5) in
      let kept : unsigned_abs (s.value x) ≤ size_of sizes x = between-small lo.value hi.value (s.value x) (weight sizes (plain low)) (weight sizes (plain high)) (size_of sizes x) lo.small hi.small p q (k.0).2 in
      let wider : KeepSizes sizes s (front ++ x ∷ []) = all-both _ front (x ∷ []) keep (kept, tt) in
      subst (KeepSizes sizes s) (sym (one_more front x (loop_names ps)))
      (walk (front ++ x ∷ []) ps (bind x w c) e i.3 k.1 r.1 (h.1).1 (subst AreApart (one_more front x (loop_names ps ++ inner)) a) z wider)
  walk front (tested t ∷ ps) c e i k r h a z keep = walk front ps c e i.2 k.1 r.1 (h.1).1 a z keep
