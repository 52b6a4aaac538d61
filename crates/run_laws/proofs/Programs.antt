-- A program of the grammar that keeps the rules can be run on values of its signature.
use Rattle.std.proofs.Common.{◌≡◌, ℕ, ◌+◌, ◌<◌, ◌≤◌, ◌^◌, Bool, true, false, List, [], ◌∷◌, map, length, Option, Some, None, Ok, Err, if◌then◌else◌, refl, sym, ap, ◌∙◌, subst, arith}
use Rattle.std.specs.Prelude.{nat_lt, min}
use Rattle.std.specs.Option.{option_or}
use Rattle.std.specs.List.{list_all}
use Rattle.std.proofs.lemmas.Bool.Decides.{nat_tests}
use Rattle.c_tokens.specs.declared.token.Token.{Token}
use Rattle.c_tree.specs.declared.program.Program.{Program}
use Rattle.c_tree.specs.declared.statement.Stmt.{Stmt}
use Rattle.c_grammar.specs.Statement.{AreStatements}
use Rattle.c_grammar.specs.Program.{executor, loops, guards, brackets, IsProgram, AreSections}
use Rattle.c_grammar.specs.Program as whole
use Rattle.c_judge.specs.declared.faults.LimitWhat.{LimitWhat}
use Rattle.c_judge.specs.declared.faults.LimitWhat.TheVariants as what
use Rattle.c_judge.specs.declared.faults.ProgramFault.{ProgramFault}
use Rattle.c_judge.specs.declared.limits.Counted.TheVariants as limited
use Rattle.c_judge.specs.declared.names.Part.TheVariants as part_is
use Rattle.c_judge.specs.Names.{Names, Fault, find}
use Rattle.c_judge.specs.Limits.{capped, count_of, over, large_extent, limit_fault}
use Rattle.c_judge.specs.Outcomes.{Outcome, and_then}
use Rattle.c_judge.specs.Rules.{KeepsRules, fault_of, fixed_in, all_names}
use Rattle.c_judge.specs.Signature.{signature, signature_fault}
use Rattle.c_judge.specs.Statements.{judged_all}
use Rattle.c_judge.specs.Fixed.{fixed_fault}
use Rattle.c_meaning.specs.Scope.{Scope}
use Rattle.c_meaning.specs.Run.{part, widths}
use Rattle.c_meaning.specs.Programs.{is_executor}
use Rattle.c_walk.specs.Ready.{are_ready, most_children}
use Rattle.c_run.specs.Ready.{are_inspectable, scope_behind, CanInspect, HasArrays}
use Rattle.c_run.specs.Store.{prepared}
use Rattle.csr_data.specs.declared.values.Parameter.{Parameter}
use Rattle.csr_data.specs.declared.values.Table.{Table}
use Rattle.csr_data.proofs.Fits.{none_first, none_second}
use Rattle.csr_data.specs.Headings.{HasSignature}
use Rattle.run_laws.proofs.Choices.{went_on}
use Rattle.run_laws.proofs.Agreement.{Agrees}
use Rattle.run_laws.proofs.Declared.{agrees_first, arrays_first}
use Rattle.run_laws.proofs.Widths.{all_narrow}
use Rattle.run_laws.proofs.Executors.{statements_execute, body_executes}
use Rattle.run_laws.proofs.Stays.{all_stay}
use Rattle.run_laws.proofs.Statements.{AreNarrow, statements_ready}
use Rattle.run_laws.proofs.Items.{keeps_all, items_ready, Inspected}

unless_some : (b : Bool) (f : ProgramFault) → (if b then Some f else None) ≡ None → b ≡ false
unless_some true f h = cc
unless_some false f h = refl

under : (w : LimitWhat) (n limit : ℕ) → limit < 2 ^ 63 → over w n limit ≡ None → n ≤ limit
under w n limit small h = let below = unless_some (nat_lt limit (capped n)) _ h in grind (arith, nat_tests, below, small)

-- the names behind both sections, and nothing is changed that stays
is_fixed : (p : Program) (o : Outcome) → fixed_in p o ≡ None → (final : Names) × ((o ≡ Ok final) × (option_or (fixed_fault final part_is.Inspector p.inspector) (fixed_fault final part_is.Executor p.executor) ≡ None))
is_fixed p (Ok names) h = (names, (refl, h))
is_fixed p (Err f) h = cc

executor_narrow : AreNarrow executor limited.Assignments
executor_narrow b l g ts after xs h = (body_executes h).few

-- what the sections are
record Sections (inspector executor : List Stmt) (sig final : Names) (c : Scope) : Type 0 where
  fit : are_inspectable inspector c ≡ true
  ready : are_ready executor (scope_behind inspector c) 0 ≡ true
  simple : list_all is_executor executor ≡ true
  few : widths (map part executor) ≤ count_of limited.Assignments executor

module _ (sig mid final : Names) (c : Scope) (agrees : Agrees sig c) where
  executes : {b : ℕ} {ts after : List Token} {xs ys : List Stmt} → AreStatements executor b loops guards ts ys after → are_inspectable xs c ≡ true → Agrees mid (scope_behind xs c)
      → count_of limited.Assignments ys ≤ most_children → judged_all part_is.Executor ys mid ≡ Ok final → fixed_fault final part_is.Executor ys ≡ None → Sections xs ys sig final c
  executes {xs = xs} {ys = ys} h fit behind few is fixed =
      let same = all_stay part_is.Executor h mid final is in
      let all = statements_execute h in
      record {
        fit = fit;
        ready = statements_ready part_is.Executor limited.Assignments final executor_narrow h mid final (scope_behind xs c) 0 behind (keeps_all mid final (λ x m found. ap (λ (n : Names). find n x) same ∙ found)) few refl is fixed;
        simple = all.simple;
        few = all.few;
      }

  sections : {b : ℕ} {ts after : List Token} {xs ys : List Stmt} → AreSections b ts xs ys after → count_of limited.All xs ≤ most_children → count_of limited.Assignments ys ≤ most_children
      → judged_all part_is.Inspector xs sig ≡ Ok mid → judged_all part_is.Executor ys mid ≡ Ok final → fixed_fault final part_is.Inspector xs ≡ None → fixed_fault final part_is.Executor ys ≡ None
      → Sections xs ys sig final c
  sections (whole.alone h) few_before few first is before fixed = executes h refl (let same : sig ≡ mid = cc in subst (λ (n : Names). Agrees n c) same agrees) few is fixed
  sections (whole.both i h) few_before few first is before fixed =
      let same = all_stay part_is.Executor h mid final is in
      let inspected = items_ready final i sig mid c agrees (λ x m found. ap (λ (n : Names). find n x) same ∙ found) few_before first before in
      executes h inspected.fit inspected.agrees few is fixed

narrow_of : (n m most : ℕ) → n ≤ m → m ≤ most → most ≤ 2 ^ 32 → n ≤ 2 ^ 33
narrow_of n m most h k l = omega (arith, h, k, l)

small_of : (m most : ℕ) → m ≤ most → most ≤ 2 ^ 32 → m ≤ most_children
small_of m most k l = omega (arith, k, l)

module _ (ts : List Token) (p : Program) (ps : List Parameter) (tables : List Table) (keeps : KeepsRules p) where
  limits : limit_fault p ≡ None
  unfolding fault_of
  limits = none_first (limit_fault p) (option_or (signature_fault (signature p) p) (fixed_in p (all_names p))) keeps

  fixed : fixed_in p (all_names p) ≡ None
  unfolding fault_of
  fixed = none_second (signature_fault (signature p) p) (fixed_in p (all_names p)) (none_second (limit_fault p) (option_or (signature_fault (signature p) p) (fixed_in p (all_names p))) keeps)

  few_assignments : count_of limited.Assignments p.executor ≤ 64
  unfolding limit_fault
  few_assignments =
      let a = none_second (over what.Signature (length p.params + length p.arrays) 32) _ limits in
      let b = none_second (over what.Locals (count_of limited.Declarations p.inspector) 384) _ a in
      under what.Assignments (count_of limited.Assignments p.executor) 64 (omega arith) (none_first (over what.Assignments (count_of limited.Assignments p.executor) 64) _ b)

  few_statements : count_of limited.All p.inspector ≤ 2048
  unfolding limit_fault
  few_statements =
      let a = none_second (over what.Signature (length p.params + length p.arrays) 32) _ limits in
      let b = none_second (over what.Locals (count_of limited.Declarations p.inspector) 384) _ a in
      let c = none_second (over what.Assignments (count_of limited.Assignments p.executor) 64) _ b in
      under what.InspectorStatements (count_of limited.All p.inspector) 2048 (omega arith) (none_first (over what.InspectorStatements (count_of limited.All p.inspector) 2048) _ c)

  judged_both : (final : Names) → all_names p ≡ Ok final → and_then (judged_all part_is.Inspector p.inspector (signature p)) (judged_all part_is.Executor p.executor) ≡ Ok final
  unfolding all_names
  judged_both final h = h

  parts : {b : ℕ} {us after : List Token} → AreSections b us p.inspector p.executor after → (c : Scope) → Agrees (signature p) c → (final : Names) × Sections p.inspector p.executor (signature p) final c
  parts s c agrees =
      let f = is_fixed p (all_names p) fixed in
      let o = went_on (judged_all part_is.Inspector p.inspector (signature p)) (judged_all part_is.Executor p.executor) f.0 (judged_both f.0 f.1.0) in (
        f.0,
        sections (signature p) o.0 f.0 c agrees s (small_of (count_of limited.All p.inspector) 2048 few_statements (omega arith)) (small_of (count_of limited.Assignments p.executor) 64 few_assignments (omega arith)) o.1.0 o.1.1
            (none_first (fixed_fault f.0 part_is.Inspector p.inspector) (fixed_fault f.0 part_is.Executor p.executor) f.1.1)
            (none_second (fixed_fault f.0 part_is.Inspector p.inspector) (fixed_fault f.0 part_is.Executor p.executor) f.1.1),
      )

  can_inspect : {b : ℕ} {us after : List Token} → AreSections b us p.inspector p.executor after → Agrees (signature p) (prepared ps tables).scope → HasArrays p (prepared ps tables).scope → CanInspect p (prepared ps tables)
  can_inspect s agrees arrays =
      let all = (parts s (prepared ps tables).scope agrees).1 in
      record {
        loops = refl;
        fits = all.fit;
        few = narrow_of (widths (map part p.inspector)) (count_of limited.All p.inspector) 2048 (all_narrow p.inspector) few_statements (omega arith);
        executor = all.ready;
        simple = all.simple;
        few_behind = narrow_of (widths (map part p.executor)) (count_of limited.Assignments p.executor) 64 all.few few_assignments (omega arith);
        arrays = arrays;
      }

-- the sections of a program of the grammar
record Grammar (p : Program) : Type 0 where
  b : ℕ
  us : List Token
  after : List Token
  sections : AreSections b us p.inspector p.executor after

grammar_of : (ts : List Token) (p : Program) → IsProgram ts p → Grammar p
grammar_of ts p (whole.program m a s) = record { b = _; us = _; after = _; sections = s }

pub program_can_run : (ts : List Token) (p : Program) (ps : List Parameter) (tables : List Table) → IsProgram ts p → KeepsRules p → HasSignature p ps tables → CanInspect p (prepared ps tables)
program_can_run ts p ps tables is keeps h = can_inspect ts p ps tables keeps (grammar_of ts p is).sections (agrees_first ts p ps tables is h) (arrays_first ts p ps tables is h)
