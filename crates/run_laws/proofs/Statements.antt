-- Statements of the grammar that were judged can be run where the scope agrees with the names.
use Rattle.std.proofs.Common.{◌≡◌, ℕ, suc, ◌+◌, ◌<◌, ◌≤◌, ◌^◌, Bool, true, false, ◌&&◌, ◌||◌, nat_lt, List, [], ◌∷◌, map, length, Option, Some, None, Ok, refl, sym, ap, ◌∙◌, subst, arith}
use Rattle.std.specs.Option.{option_or}
use Rattle.c_tokens.specs.declared.token.Token.{Token}
use Rattle.c_tree.specs.declared.index.Subscripts.{Subscripts}
use Rattle.c_tree.specs.declared.program.Kind.{Kind}
use Rattle.c_tree.specs.declared.program.Kind.TheVariants as kind
use Rattle.c_tree.specs.declared.statement.Stmt.{Stmt}
use Rattle.c_tree.specs.declared.statement.Stmt.TheVariants.{For, If, Assign, Put, Grow}
use Rattle.c_grammar.specs.declared.pieces.Section.{Section}
use Rattle.c_grammar.specs.Index.{Word, cell_of, AreSubscripts}
use Rattle.c_grammar.specs.Statement.{AreStatements, IsStatement, IsBody}
use Rattle.c_grammar.specs.Statement as rule
use Rattle.c_judge.specs.declared.limits.Counted.{Counted}
use Rattle.c_judge.specs.declared.names.Part.{Part}
use Rattle.c_judge.specs.declared.names.Part.TheVariants as part_is
use Rattle.c_judge.specs.declared.scope.Meaning.{Meaning}
use Rattle.c_judge.specs.declared.scope.Meaning.TheVariants as meaning
use Rattle.c_judge.specs.declared.uses.Rule.TheVariants.{InScope}
use Rattle.c_judge.specs.Names.{Name, Names, find, enter}
use Rattle.c_judge.specs.Limits.{count_in, count_of, plain}
use Rattle.c_judge.specs.Outcomes.{one_by_one}
use Rattle.c_judge.specs.Uses.{index_fault, expr_fault, inside}
use Rattle.c_judge.specs.Statements.{judged, judged_all, new_fault, loop_fault, loop_outcome, tests_fault, target_fault, assign_fault, put_fault, put_statement_fault, grow_fault, grow_statement_fault}
use Rattle.c_judge.specs.Fixed.{Changes, changes, change_fault, bound_fault, fixed_fault}
use Rattle.c_judge.proofs.SizesAt.{count_for, count_if}
use Rattle.c_judge.proofs.StatementsAt.{judged_for, judged_if, judged_assign, judged_put, judged_grow, changes_for, changes_if, changes_assign}
use Rattle.c_meaning.specs.Scope.{Scope, data_cell_fits, cell_fits}
use Rattle.c_meaning.specs.Run.{part, widths}
use Rattle.c_meaning.proofs.Equations.{cell_fits_is}
use Rattle.c_walk.specs.State.{with_number}
use Rattle.c_walk.specs.Ready.{is_ready, are_ready, has_array, most_children}
use Rattle.csr_data.proofs.Fits.{none_first, none_second}
use Rattle.run_laws.proofs.Choices.{both, in_first, in_others, no_fault, then_outcome, went_on, was_left}
use Rattle.run_laws.proofs.Agreement.{Means, Agrees, Keeps, agrees_inside, keeps_inside}
use Rattle.run_laws.proofs.Indexes.{same_count, index_fits, subscripts_fits, tests_fit}
use Rattle.run_laws.proofs.Values.{value_fits}
use Rattle.run_laws.proofs.Readiness.{ready-For, ready-If, ready-Assign, ready-Put, ready-Grow}
use Rattle.run_laws.proofs.Stays.{stays}

positive : (n m : ℕ) → n ≡ m → 1 ≤ m → nat_lt 0 n ≡ true
positive n m e h = grind (arith, e, h)

-- ---- targets
module _ (final names : Names) (c : Scope) (agrees : Agrees names c) (keeps : Keeps names final) where
  -- where data are assigned to, the array has cells of data, and as many extents as there are subscripts
  data_target : (p : Part) (x : Name) (n : ℕ) → target_fault p x n (find names x) ≡ None → change_fault p x (find final x) ≡ None → c.data_arrays x ≡ n
  data_target p x n h fixed = by p (find names x) refl (agrees x) h fixed
    where
      never : {A : Type 0} (p : Part) (e : ℕ) (g : Bool) → find names x ≡ Some (meaning.Array kind.Position e g) → target_fault p x n (Some (meaning.Array kind.Position e g)) ≡ None → change_fault p x (find final x) ≡ None → A
      never part_is.Executor e g is h fixed = absurd (let clash = sym (ap (change_fault part_is.Executor x) (keeps x kind.Position e g is)) ∙ fixed in cc)
      never part_is.Inspector e true is h fixed = absurd cc
      never part_is.Inspector e false is h fixed = absurd (let clash = sym (ap (change_fault part_is.Inspector x) (keeps x kind.Position e false is)) ∙ fixed in cc)

      same : (p : Part) (e : ℕ) (g : Bool) → target_fault p x n (Some (meaning.Array kind.Number e g)) ≡ None → e ≡ n
      same part_is.Executor e g h = same_count x e n h
      same part_is.Inspector e g h = same_count x e n h

      by : (p : Part) (m : Option Meaning) → find names x ≡ m → Means c x m → target_fault p x n m ≡ None → change_fault p x (find final x) ≡ None → c.data_arrays x ≡ n
      by p None is means h fixed = cc
      by p (Some meaning.Value) is means h fixed = cc
      by p (Some (meaning.Array kind.Number e g)) is means h fixed = means.0 ∙ same p e g h
      by p (Some (meaning.Array kind.Position e g)) is means h fixed = never p e g is h fixed

  index_target : (x : Name) (n : ℕ) → put_fault x n (find names x) ≡ None → c.index_arrays x ≡ n
  index_target x n h = by (find names x) (agrees x) h
    where
      by : (m : Option Meaning) → Means c x m → put_fault x n m ≡ None → c.index_arrays x ≡ n
      by None means h = cc
      by (Some meaning.Value) means h = cc
      by (Some (meaning.Array kind.Position e true)) means h = means.0 ∙ same_count x e n h
      by (Some (meaning.Array kind.Position e false)) means h = cc
      by (Some (meaning.Array kind.Number e g)) means h = cc

  grown_array : (x : Name) → grow_fault x (find names x) ≡ None → has_array x c ≡ true
  grown_array x h = by (find names x) (agrees x) h
    where
      by : (m : Option Meaning) → Means c x m → grow_fault x m ≡ None → has_array x c ≡ true
      by None means h = cc
      by (Some meaning.Value) means h = cc
      by (Some (meaning.Array kind.Position e g)) means h = in_first (nat_lt 0 (c.index_arrays x)) (nat_lt 0 (c.data_arrays x)) (positive (c.index_arrays x) e means.0 means.1)
      by (Some (meaning.Array kind.Number e g)) means h = in_others (nat_lt 0 (c.index_arrays x)) (nat_lt 0 (c.data_arrays x)) (positive (c.data_arrays x) e means.0 means.1)

-- a loop that still may stand here
one_more : (d l : ℕ) → d + suc l ≡ 8 → suc d + l ≡ 8
one_more d l h = omega (arith, h)

few_loops : (d l : ℕ) → d + suc l ≡ 8 → d < 8
few_loops d l h = omega (arith, h)

smaller : (own inner whole most : ℕ) → whole ≡ own + inner → whole ≤ most → inner ≤ most
smaller own inner whole most e h = omega (arith, e, h)

within : (w n most : ℕ) → w ≤ n → n ≤ most → w ≤ most
within w n most h k = omega (arith, h, k)

-- the bodies of a section take at most as many child positions as are counted
abbrev pub AreNarrow : Section → Counted → Type 0
AreNarrow section k = (b l g : ℕ) (ts after : List Token) (xs : List Stmt) → IsBody section b l g ts xs after → widths (map part xs) ≤ count_of k xs

-- what is known of a statement, or of statements, at a place
pub record At (final names : Names) (c : Scope) (count d l : ℕ) : Type 0 where
  pub agrees : Agrees names c
  pub keeps : Keeps names final
  pub few : count ≤ most_children
  pub loops : d + l ≡ 8

module _ {section : Section} (p : Part) (k : Counted) (final : Names) (narrow : AreNarrow section k) where
  mutual
    ready : {b l g : ℕ} {ts after : List Token} {x : Stmt} → IsStatement section b l g ts x after → (names left : Names) (c : Scope) (d : ℕ) → At final names c (count_in k x) d l
        → judged p x names ≡ Ok left → (changes final p x).fault ≡ None → is_ready x c d ≡ true
    ready (rule.loop {l = l} {v = v} {low = low} {high = high} {body = body} i j inner) names left c d at h fixed =
        let is = sym (judged_for p v low high body names) ∙ h in
        let none = no_fault (loop_fault names v low high) (loop_outcome p v body names) left is in
        let bounds = none_second (new_fault v (find names v)) (option_or (index_fault InScope names low) (index_fault InScope names high)) none in
        let o = was_left (length names) (one_by_one (map (judged p) body) (enter names v meaning.Value)) left (then_outcome (loop_fault names v low high) (loop_outcome p v body names) left is) in
        let few = smaller (plain k) (count_of k body) (count_in k (For v low high body)) most_children (count_for k v low high body) at.few in
        let all_fixed = sym (ap (λ (w : Changes). w.fault) (changes_for final p v low high body)) ∙ fixed in
        ready-For c d v low high body
        (index_fits names c at.agrees i (none_first (index_fault InScope names low) (index_fault InScope names high) bounds))
        (index_fits names c at.agrees j (none_second (index_fault InScope names low) (index_fault InScope names high) bounds))
        (few_loops d l at.loops)
        (within (widths (map part body)) (count_of k body) most_children (narrow _ _ _ _ _ _ inner) few)
        (body_ready inner (enter names v meaning.Value) o.0 (with_number v c) (suc d)
        (record { agrees = agrees_inside names c v at.agrees; keeps = keeps_inside names final v at.keeps; few = few; loops = one_more d l at.loops }) o.1.0
        (none_second (bound_fault p high (map (changes final p) body)) (fixed_fault final p body) all_fixed))
    ready (rule.guard {tests = tests} {body = body} t inner) names left c d at h fixed =
        let is = sym (judged_if p tests body names) ∙ h in
        let few = smaller (plain k) (count_of k body) (count_in k (If tests body)) most_children (count_if k tests body) at.few in
        ready-If c d tests body (tests_fit names c at.agrees t (no_fault (tests_fault names tests) (judged_all p body names) left is))
        (body_ready inner names left c d (record { agrees = at.agrees; keeps = at.keeps; few = few; loops = at.loops }) (then_outcome (tests_fault names tests) (judged_all p body names) left is)
        (sym (ap (λ (w : Changes). w.fault) (changes_if final p tests body)) ∙ fixed))
    ready (rule.assignment {x = x} {subscripts = s} {h = how} {value = value} a q other v) names left c d at h fixed =
        let none = no_fault (assign_fault names p (cell_of x s) value) (Ok names) left (sym (judged_assign p (cell_of x s) how value names) ∙ h) in
        let behind = none_second (target_fault p x (inside InScope names s).count (find names x)) (option_or (inside InScope names s).fault (expr_fault InScope names value)) none in
        let free = sym (ap (λ (w : Changes). w.fault) (changes_assign final p (cell_of x s) how value)) ∙ fixed in
        ready-Assign c d (cell_of x s) how value
        (subscripts_fits names c at.agrees a (none_first (inside InScope names s).fault (expr_fault InScope names value) behind) (c.data_arrays x)
        (data_target final names c at.agrees at.keeps p x (inside InScope names s).count (none_first (target_fault p x (inside InScope names s).count (find names x)) (option_or (inside InScope names s).fault (expr_fault InScope names value)) none) free))
        (value_fits names c at.agrees v (none_second (inside InScope names s).fault (expr_fault InScope names value) behind))
    ready (rule.index_assignment {x = x} {subscripts = s} {value = value} a grows i) names left c d at h fixed =
        let none = no_fault (put_statement_fault names (cell_of x s) value) (Ok names) left (sym (judged_put p (cell_of x s) value names) ∙ h) in
        let behind = none_second (put_fault x (inside InScope names s).count (find names x)) (option_or (inside InScope names s).fault (index_fault InScope names value)) none in
        ready-Put c d (cell_of x s) value
        (cell_fits_is (cell_of x s) c ∙ subscripts_fits names c at.agrees a (none_first (inside InScope names s).fault (index_fault InScope names value) behind) (c.index_arrays x)
        (index_target final names c at.agrees at.keeps x (inside InScope names s).count (none_first (put_fault x (inside InScope names s).count (find names x)) (option_or (inside InScope names s).fault (index_fault InScope names value)) none)))
        (index_fits names c at.agrees i (none_second (inside InScope names s).fault (index_fault InScope names value) behind))
    ready (rule.growth {x = x} {by = by} here i) names left c d at h fixed =
        let none = no_fault (grow_statement_fault names x by) (Ok names) left (sym (judged_grow p x by names) ∙ h) in
        ready-Grow c d x by (grown_array final names c at.agrees at.keeps x (none_first (grow_fault x (find names x)) (index_fault InScope names by) none))
        (index_fits names c at.agrees i (none_second (grow_fault x (find names x)) (index_fault InScope names by) none))

    pub all_ready : {b l g : ℕ} {ts after : List Token} {xs : List Stmt} → AreStatements section b l g ts xs after → (names left : Names) (c : Scope) (d : ℕ) → At final names c (count_of k xs) d l
        → judged_all p xs names ≡ Ok left → fixed_fault final p xs ≡ None → are_ready xs c d ≡ true
    all_ready (rule.one {x = x} s) names left c d at h fixed =
        let o = went_on (judged p x names) (one_by_one []) left h in
        let few = at.few in
        both (is_ready x c d) true (ready s names o.0 c d (record { agrees = at.agrees; keeps = at.keeps; few = omega (arith, few); loops = at.loops }) o.1.0 (none_first (changes final p x).fault None fixed)) refl
    all_ready (rule.more {x = x} {xs = xs} s rest) names left c d at h fixed =
        let o = went_on (judged p x names) (judged_all p xs) left h in
        let few = at.few in
        let same = stays p s names o.0 o.1.0 in
        both (is_ready x c d) (are_ready xs c d)
        (ready s names o.0 c d (record { agrees = at.agrees; keeps = at.keeps; few = omega (arith, few); loops = at.loops }) o.1.0 (none_first (changes final p x).fault (fixed_fault final p xs) fixed))
        (all_ready rest names left c d (record { agrees = at.agrees; keeps = at.keeps; few = omega (arith, few); loops = at.loops }) (ap (judged_all p xs) (sym same) ∙ o.1.1)
        (none_second (changes final p x).fault (fixed_fault final p xs) fixed))

    body_ready : {b l g : ℕ} {ts after : List Token} {xs : List Stmt} → IsBody section b l g ts xs after → (names left : Names) (c : Scope) (d : ℕ) → At final names c (count_of k xs) d l
        → judged_all p xs names ≡ Ok left → fixed_fault final p xs ≡ None → are_ready xs c d ≡ true
    body_ready (rule.braces inner) names left c d at h fixed = all_ready inner names left c d at h fixed
    body_ready (rule.bare {x = x} s) names left c d at h fixed =
        let o = went_on (judged p x names) (one_by_one []) left h in
        let few = at.few in
        both (is_ready x c d) true (ready s names o.0 c d (record { agrees = at.agrees; keeps = at.keeps; few = omega (arith, few); loops = at.loops }) o.1.0 (none_first (changes final p x).fault None fixed)) refl

  -- by what the place must be known
  pub statements_ready : {b l g : ℕ} {ts after : List Token} {xs : List Stmt} → AreStatements section b l g ts xs after → (names left : Names) (c : Scope) (d : ℕ) → Agrees names c → Keeps names final
      → count_of k xs ≤ most_children → d + l ≡ 8 → judged_all p xs names ≡ Ok left → fixed_fault final p xs ≡ None → are_ready xs c d ≡ true
  statements_ready s names left c d agrees keeps few loops h fixed = all_ready s names left c d (record { agrees = agrees; keeps = keeps; few = few; loops = loops }) h fixed

  pub statement_ready : {b l g : ℕ} {ts after : List Token} {x : Stmt} → IsStatement section b l g ts x after → (names left : Names) (c : Scope) (d : ℕ) → Agrees names c → Keeps names final
      → count_in k x ≤ most_children → d + l ≡ 8 → judged p x names ≡ Ok left → (changes final p x).fault ≡ None → is_ready x c d ≡ true
  statement_ready s names left c d agrees keeps few loops h fixed = ready s names left c d (record { agrees = agrees; keeps = keeps; few = few; loops = loops }) h fixed
