-- What is known of an accepted program that keeps the rules.
use Rattle.std.proofs.Common.{◌≡◌, inl, inr, ℕ, ◌+◌, ◌≤◌, Bool, true, false, nat_lt, List, [], ◌∷◌, ◌++◌, length, Some, None, Ok, Err, refl, sym, ◌∙◌, ap, subst, arith}
use Rattle.std.specs.Prelude.{bytes_eq}
use Rattle.std.specs.List.{list_all}
use Rattle.std.specs.Option.{option_or}
use Rattle.std.proofs.lemmas.Bool.{cases_Bool}
use Rattle.std.proofs.lemmas.Bool.Decides.{nat_tests}
use Rattle.std.proofs.lemmas.Slice.Eq.{bytes_eq-Decides}
use Rattle.c_tree.specs.declared.program.Program.{Program}
use Rattle.c_tree.specs.declared.statement.Stmt.{Stmt}
use Rattle.c_judge.specs.declared.faults.LimitWhat.TheVariants as limit_what
use Rattle.c_judge.specs.declared.limits.Counted.TheVariants as counted
use Rattle.c_judge.specs.declared.names.Part.TheVariants as part
use Rattle.c_judge.specs.Limits.{count_in, count_of, over, large_extent, limit_fault}
use Rattle.c_judge.proofs.SizesAt.{count_for, count_if, count_assign, count_put, count_declare, count_grow}
use Rattle.c_judge.specs.Names.{Names, Fault}
use Rattle.c_judge.specs.Outcomes.{Outcome, and_then}
use Rattle.c_judge.specs.Rules.{all_names, fixed_in, fault_of, KeepsRules}
use Rattle.c_judge.specs.Signature.{signature, signature_fault, is_among, param_fault, params_from, matrices_from, arrays_from}
use Rattle.c_judge.specs.Statements.{judged_all}
use Rattle.c_meaning.specs.Names.{Name}
use Rattle.c_meaning.proofs.Induction.{induct}
use Rattle.csr_data.proofs.Fits.{none_first, none_second}
use Rattle.nest_tree.specs.declared.kernel.Kernel.{Kernel}
use Rattle.nest_tree.specs.Lists.{IsIn}
use Rattle.nest_laws.proofs.Lists.{in_append-left, in_append-right}
use Rattle.source_limits.specs.declared.fault.Part.TheVariants as fault_part
use Rattle.source_limits.specs.declared.fault.SourceFault.TheVariants.{NotAffine}
use Rattle.source_limits.specs.declared.fault.SourceWhat.TheVariants as what
use Rattle.acceptance.specs.Accepted.{has_affine_extents, kernel_of, refusal, unless_refused, accepted}
use Rattle.acceptance.specs.Judged.{Judged, unless, at_most}
use Rattle.acceptance.proofs.Judged.{first_none}
use Rattle.acceptance_laws.specs.Formed.{AreApart}
use Rattle.scene_laws.specs.Rules.{RulesScopeNames}
use Rattle.scene_laws.proofs.Scopes.{executor_scoped}

-- ---- an accepted program has no inspector, and affine extents
no_refusal : (p : Program) (k : Kernel) → accepted p ≡ Ok k → refusal p ≡ None
unfolding accepted
no_refusal p k h = by (refusal p) refl h
  where
    by : (r : Judged) → refusal p ≡ r → unless_refused r (kernel_of p) ≡ Ok k → refusal p ≡ None
    by None e h = e
    by (Some f) e h = absurd cc

counts_one : (t : Stmt) → 1 ≤ count_in counted.All t
counts_one = induct (λ t. 1 ≤ count_in counted.All t) (record {
  loop = λ x low high body h. (let e = count_for counted.All x low high body in omega (arith, e));
  guard = λ tests body h. (let e = count_if counted.All tests body in omega (arith, e));
  assignment = λ target how value. (let e = count_assign counted.All target how value in omega (arith, e));
  index_assignment = λ target value. (let e = count_put counted.All target value in omega (arith, e));
  declaration = λ x k inner. (let e = count_declare counted.All x k inner in omega (arith, e));
  growth = λ x by. (let e = count_grow counted.All x by in omega (arith, e));
})

within_most : (most : ℕ) (n : ℕ) → at_most most what.Inspector n ≡ None → n ≤ most
within_most most n h = elim (cases_Bool (nat_lt most n)) [
  | inl t ↦ absurd (let h' = rw t at h in cc)
  | inr t ↦ grind (arith, nat_tests, t)
]

no_inspector : (ts : List Stmt) → at_most 0 what.Inspector (count_of counted.All ts) ≡ None → ts ≡ []
no_inspector [] h = refl
no_inspector (t ∷ ts) h = absurd (let k = within_most 0 (count_of counted.All (t ∷ ts)) h in let o = counts_one t in omega (arith, k, o))

pub inspector_empty : (p : Program) (k : Kernel) → accepted p ≡ Ok k → p.inspector ≡ []
inspector_empty p k h = no_inspector p.inspector (first_none _ (no_refusal p k h)).0

pub affine_extents : (p : Program) (k : Kernel) → accepted p ≡ Ok k → list_all (has_affine_extents p) p.arrays ≡ true
affine_extents p k h = by (list_all (has_affine_extents p) p.arrays) refl (first_none _ (no_refusal p k h)).1.0
  where
    by : (b : Bool) → list_all (has_affine_extents p) p.arrays ≡ b → unless b (NotAffine 0 fault_part.Subscript) ≡ None → list_all (has_affine_extents p) p.arrays ≡ true
    by true e h = e
    by false e h = absurd cc

-- ---- parameters
among-in : (x : Name) (xs : List Name) → IsIn x xs → is_among x xs ≡ true
among-in x [] a = absurd a
among-in x (y ∷ ys) (inl e) = let t : bytes_eq y x ≡ true = (bytes_eq-Decides y x).1 (sym e) in rw t refl
among-in x (y ∷ ys) (inr a) = elim (cases_Bool (bytes_eq y x)) [ inl t ↦ rw t refl | inr t ↦ rw t (among-in x ys a) ]

not_before : (before : List Name) (x : Name) → param_fault before x ≡ None → IsIn x before → ⊥
not_before before x h a = let t = among-in x before a in (let h' = rw t at h in cc)

apart-from : (before xs : List Name) → params_from before xs ≡ None → ((y : Name) → IsIn y before → IsIn y xs → ⊥) × AreApart xs
apart-from before [] h = (λ y a b. b, tt)
apart-from before (x ∷ xs) h =
    let own = none_first (param_fault before x) (params_from (before ++ x ∷ []) xs) h in
    let rest = apart-from (before ++ x ∷ []) xs (none_second (param_fault before x) (params_from (before ++ x ∷ []) xs) h) in (
      λ y a b. elim b [
        | inl e ↦ not_before before x own (subst (λ (z : Name). IsIn z before) e a)
        | inr c ↦ rest.0 y (in_append-left y before (x ∷ []) a) c
      ],
      (λ a. rest.0 x (in_append-right x before (x ∷ []) (inl refl)) a, rest.1),
    )

-- ---- the rules
pub record HasRules (p : Program) : Type 0 where
  pub left : Names
  pub judged : judged_all part.Executor p.executor (signature p) ≡ Ok left
  pub apart : AreApart p.params
  pub matrices : matrices_from (signature p) p.arrays p.matrices 0 p.matrices ≡ None
  pub extents : large_extent 0 p.arrays ≡ None

named : (p : Program) → fixed_in p (all_names p) ≡ None → p.inspector ≡ [] → (left : Names) × (judged_all part.Executor p.executor (signature p) ≡ Ok left)
unfolding all_names
named p h e = by (judged_all part.Executor p.executor (signature p)) refl
  where
    is : all_names p ≡ judged_all part.Executor p.executor (signature p)
    is = ap (λ (ts : List Stmt). and_then (judged_all part.Inspector ts (signature p)) (judged_all part.Executor p.executor)) e

    by : (o : Outcome) → judged_all part.Executor p.executor (signature p) ≡ o → (left : Names) × (judged_all part.Executor p.executor (signature p) ≡ Ok left)
    by (Ok left) k = (left, k)
    by (Err f) k = absurd (let h' = sym (ap (fixed_in p) (is ∙ k)) ∙ h in cc)

last_of_six : (a b c d e f : Fault) → option_or a (option_or b (option_or c (option_or d (option_or e f)))) ≡ None → f ≡ None
last_of_six a b c d e f h =
    none_second e f (none_second d (option_or e f) (none_second c (option_or d (option_or e f)) (none_second b (option_or c (option_or d (option_or e f))) (none_second a (option_or b (option_or c (option_or d (option_or e f)))) h))))

extents_small : (p : Program) → limit_fault p ≡ None → large_extent 0 p.arrays ≡ None
unfolding limit_fault
extents_small p h =
    last_of_six (over limit_what.Signature (length p.params + length p.arrays) 32) (over limit_what.Locals (count_of counted.Declarations p.inspector) 384)
    (over limit_what.Assignments (count_of counted.Assignments p.executor) 64) (over limit_what.InspectorStatements (count_of counted.All p.inspector) 2048)
    (over limit_what.Matrices (length p.matrices + 0) 2) (large_extent 0 p.arrays) h

pub has_rules : (p : Program) (k : Kernel) → KeepsRules p → accepted p ≡ Ok k → HasRules p
unfolding fault_of limit_fault signature_fault
has_rules p k h a =
    let limits = none_first (limit_fault p) (option_or (signature_fault (signature p) p) (fixed_in p (all_names p))) h in
    let behind = none_second (limit_fault p) (option_or (signature_fault (signature p) p) (fixed_in p (all_names p))) h in
    let sign = none_first (signature_fault (signature p) p) (fixed_in p (all_names p)) behind in
    let n = named p (none_second (signature_fault (signature p) p) (fixed_in p (all_names p)) behind) (inspector_empty p k a) in
    record {
      left = n.0;
      judged = n.1;
      apart = (apart-from [] p.params (none_first (params_from [] p.params) (arrays_from (signature p) p.params p.matrices [] p.arrays) (none_second (matrices_from (signature p) p.arrays p.matrices 0 p.matrices) (option_or (params_from [] p.params) (arrays_from (signature p) p.params p.matrices [] p.arrays)) sign))).1;
      matrices = none_first (matrices_from (signature p) p.arrays p.matrices 0 p.matrices) (option_or (params_from [] p.params) (arrays_from (signature p) p.params p.matrices [] p.arrays)) sign;
      extents = extents_small p limits;
    }

pub scope_names : RulesScopeNames
scope_names p k h a = let r = has_rules p k h a in (r.apart, executor_scoped p r.left r.judged)
