-- A written program keeps the rules that its source keeps.
use Rattle.std.proofs.Common.{◌≡◌, ◌+◌, Bool, true, false, ◌&&◌, ◌||◌, List, [], ◌∷◌, ◌++◌, length, take, pos, refl, arith, sym, ap, subst, ◌∙◌, Option, Some, None, Ok, Err, if◌then◌else◌}
use Rattle.std.specs.Prelude.{bytes_eq, is_some}
use Rattle.std.specs.Option.{option_or}
use Rattle.c_tree.specs.declared.index.Index.{Index}
use Rattle.c_tree.specs.declared.index.Index.TheVariants as tree
use Rattle.c_tree.specs.declared.statement.Stmt.{Stmt}
use Rattle.c_tree.specs.declared.statement.Stmt.TheVariants.{For, Assign}
use Rattle.c_tree.specs.declared.statement.How.{How}
use Rattle.c_tree.specs.declared.data.Expr.{Expr}
use Rattle.c_tree.specs.declared.index.Cell.{Cell}
use Rattle.c_tree.specs.declared.program.Array.{Array}
use Rattle.c_tree.specs.declared.program.Kind.TheVariants as kind
use Rattle.c_tree.specs.declared.program.Matrix.{Matrix}
use Rattle.c_tree.specs.declared.program.Program.{Program}
use Rattle.c_judge.specs.declared.limits.Counted.TheVariants as counted
use Rattle.c_judge.specs.declared.faults.LimitWhat.TheVariants as what
use Rattle.c_judge.specs.declared.names.Part.TheVariants as part
use Rattle.c_judge.specs.declared.faults.NameWhy.TheVariants as why
use Rattle.c_judge.specs.declared.scope.Meaning.{Meaning}
use Rattle.c_judge.specs.declared.scope.Meaning.TheVariants as meaning
use Rattle.c_judge.specs.declared.uses.Rule.TheVariants as rule
use Rattle.c_judge.specs.Names.{Name, Names, find, enter, because}
use Rattle.c_judge.specs.Outcomes.{Outcome, and_then, one_by_one}
use Rattle.c_judge.specs.Uses.{same_kind, number_fault}
use Rattle.c_judge.specs.Limits.{limit_fault, count_in, count_of, over, large_extent}
use Rattle.c_judge.specs.Signature.{signature, signature_fault, is_reserved, is_among, is_declared, param_fault, params_from, declaration_fault, array_fault, arrays_from, matrices_from, is_position_of_none, enter_first, with_params, with_arrays, meaning_of}
use Rattle.c_judge.specs.Statements.{judged, judged_all}
use Rattle.c_judge.specs.Fixed.{Changes, change_fault, fixed_fault}
use Rattle.c_judge.specs.Rules.{all_names, fixed_in, fault_of, KeepsRules}
use Rattle.c_judge.proofs.SizesAt.{count_for, count_assign}
use Rattle.c_judge.proofs.StatementsAt.{changes_for, changes_assign}
use Rattle.c_judge.proofs.UsesAt.{at_const, at_var}
use Rattle.c_meaning.proofs.Spots.{name_is}
use Rattle.first_form.specs.declared.size.Size.{Size}
use Rattle.first_form.specs.declared.size.Size.TheVariants.{Param, Number}
use Rattle.first_form.specs.declared.nest.Turn.{Turn}
use Rattle.first_form.specs.Sizes.{has_name, expression_of}
use Rattle.first_form.specs.Nests.{Around, outer_name, inner_name, loop_of, assignment, below, nest_in, nest}
use Rattle.first_form.specs.Written.{written}
use Rattle.first_laws.proofs.Inversion.{IsKnown, IsLoop, loop_is, IsAssignment, assignment_is}
use Rattle.first_laws.proofs.Nests.{IsInLoop, in_loop_is}
use Rattle.first_laws.proofs.Programs.{made, IsWritten, written_is}
use Rattle.headline.proofs.Cells.{OfTurns, cell_holds}
use Rattle.headline.proofs.Judged.{first_none, second_none, both_none, only_one, same_name, found_stays, missing_at_end, with_value, Extends, extends_self, extends_more, Fine, Assigned, assignment_fine, Looped, looped, left_again, loop_fine}

-- ---- names of the signature

reserved_param : (before : List Name) (x : Name) → param_fault before x ≡ None → is_reserved x ≡ false
reserved_param before x h = by_tests (is_among x before) (is_reserved x) h
  where
    by_tests : (b c : Bool) → (if b then because x why.Twice else (if c then because x why.Reserved else None)) ≡ None → c ≡ false
    by_tests true c k = absurd cc
    by_tests false true k = absurd cc
    by_tests false false k = refl

reserved_array : (params : List Name) (ms : List Matrix) (before : List Array) (a : Array) → declaration_fault params ms before a ≡ None → is_reserved a.name ≡ false
reserved_array params ms before a h = by_tests (is_among a.name params || is_declared before a.name) (same_kind a.kind kind.Position && is_position_of_none ms a.name) (is_reserved a.name) h
  where
    by_tests : (b c d : Bool) → (if b then because a.name why.Twice else (if c then because a.name why.NoMatrix else (if d then because a.name why.Reserved else None))) ≡ None → d ≡ false
    by_tests true c d k = absurd cc
    by_tests false true d k = absurd cc
    by_tests false false true k = absurd cc
    by_tests false false false k = refl

-- a reserved name is no other
apart : (z x : Name) (b : Bool) → bytes_eq z x ≡ b → is_reserved z ≡ true → is_reserved x ≡ false → b ≡ false
apart z x true e h k = absurd (let g : is_reserved x ≡ true = ap is_reserved (sym (name_is z x e)) ∙ h in cc)
apart z x false e h k = refl

entered_missing : (names : Names) (x z : Name) (m : Meaning) (b : Bool) → is_reserved z ≡ true → is_reserved x ≡ false → find names z ≡ None → find (if b then names else enter names x m) z ≡ None
entered_missing names x z m true r s h = h
entered_missing names x z m false r s h = missing_at_end names z x m false h (apart z x (bytes_eq z x) refl r s)

params_missing : (names : Names) (before xs : List Name) (z : Name) → is_reserved z ≡ true → params_from before xs ≡ None → find names z ≡ None → find (with_params names xs) z ≡ None
params_missing names before [] z r h k = k
params_missing names before (x ∷ xs) z r h k =
    params_missing (enter_first names x meaning.Value) (before ++ x ∷ []) xs z r (second_none (param_fault before x) _ h)
    (entered_missing names x z meaning.Value (is_some (find names x)) r (reserved_param before x (first_none _ _ h)) k)

arrays_missing : (all names : Names) (params : List Name) (ms : List Matrix) (before arrays : List Array) (z : Name) → is_reserved z ≡ true → arrays_from all params ms before arrays ≡ None → find names z ≡ None
    → find (with_arrays names arrays) z ≡ None
arrays_missing all names params ms before [] z r h k = k
arrays_missing all names params ms before (a ∷ more) z r h k =
    arrays_missing all (enter_first names a.name (meaning_of a)) params ms (before ++ a ∷ []) more z r (second_none (array_fault all params ms before a) _ h)
    (entered_missing names a.name z (meaning_of a) (is_some (find names a.name)) r (reserved_array params ms before a (first_none _ _ (first_none (array_fault all params ms before a) _ h))) k)

nothing_found : (z : Name) → find [] z ≡ None
unfolding find
nothing_found z = refl

signature_missing : (p : Program) (z : Name) → is_reserved z ≡ true → params_from [] p.params ≡ None → arrays_from (signature p) p.params p.matrices [] p.arrays ≡ None → find (signature p) z ≡ None
unfolding signature
signature_missing p z r h k =
    arrays_missing (signature p) (with_params [] p.params) p.params p.matrices [] p.arrays z r k (params_missing [] [] p.params z r h (nothing_found z))

-- a name is found
pub record Found (names : Names) (x : Name) : Type 0 where
  pub meaning : Meaning
  pub is : find names x ≡ Some meaning

entered_found : (names : Names) (x z : Name) (m : Meaning) (b : Bool) → Found names z → Found (if b then names else enter names x m) z
entered_found names x z m true f = f
entered_found names x z m false f = record { meaning = f.meaning; is = found_stays names z x f.meaning m f.is }

params_keep : (names : Names) (xs : List Name) (z : Name) → Found names z → Found (with_params names xs) z
params_keep names [] z f = f
params_keep names (x ∷ xs) z f = params_keep (enter_first names x meaning.Value) xs z (entered_found names x z meaning.Value (is_some (find names x)) f)

arrays_keep : (names : Names) (arrays : List Array) (z : Name) → Found names z → Found (with_arrays names arrays) z
arrays_keep names [] z f = f
arrays_keep names (a ∷ more) z f = arrays_keep (enter_first names a.name (meaning_of a)) more z (entered_found names a.name z (meaning_of a) (is_some (find names a.name)) f)

entered_is_found : (names : Names) (x : Name) (m : Meaning) (o : Option Meaning) → find names x ≡ o → Found (if is_some o then names else enter names x m) x
entered_is_found names x m (Some k) e = record { meaning = k; is = e }
entered_is_found names x m None e = record { meaning = m; is = missing_at_end names x x m true e (same_name x) }

params_found : (names : Names) (xs : List Name) (z : Name) → has_name xs z ≡ true → Found (with_params names xs) z
params_found names [] z h = absurd cc
params_found names (x ∷ xs) z h = by_test (λ k. params_found (enter_first names x meaning.Value) xs z k) (bytes_eq x z) refl h
  where
    by_test : (has_name xs z ≡ true → Found (with_params (enter_first names x meaning.Value) xs) z) → (b : Bool) → bytes_eq x z ≡ b → (if b then true else has_name xs z) ≡ true
        → Found (with_params (enter_first names x meaning.Value) xs) z
    by_test more true e k =
        params_keep (enter_first names x meaning.Value) xs z (subst (Found (enter_first names x meaning.Value)) (name_is x z e) (entered_is_found names x meaning.Value (find names x) refl))
    by_test more false e k = more k

signature_found : (p : Program) (z : Name) → has_name p.params z ≡ true → Found (signature p) z
unfolding signature
signature_found p z h = arrays_keep (with_params [] p.params) p.arrays z (params_found [] p.params z h)

-- ---- statements

-- The written statement has no fault where the source's has none: with these names in scope, in what it changes, and it is
-- one assignment.
record Follows (base names names' : Names) (s s' : Stmt) (left : Names) : Type 0 where
  kept : names ≡ left
  fine : judged part.Executor s' names' ≡ Ok names'
  fixed : fixed_fault base part.Executor (s ∷ []) ≡ None → fixed_fault base part.Executor (s' ∷ []) ≡ None
  counted : count_in counted.Assignments s' ≡ 1

fixed_loop : (base : Names) (x : Name) (low high : Index) (body : List Stmt) → fixed_fault base part.Executor (For x low high body ∷ []) ≡ option_or (fixed_fault base part.Executor body) None
fixed_loop base x low high body = ap (λ (c : Changes). option_or c.fault None) (changes_for base part.Executor x low high body)

count_loop : (x : Name) (low high : Index) (body : Stmt) → count_in counted.Assignments body ≡ 1 → count_in counted.Assignments (For x low high (body ∷ [])) ≡ 1
count_loop x low high body h = count_for counted.Assignments x low high (body ∷ []) ∙ (let e : 0 + (count_in counted.Assignments body + 0) ≡ 1 = omega arith in e)

module _ (base : Names) where
  loop_follows : (names names' : Names) (x y : Name) (high : Index) (inner body s s' : Stmt) (left : Names) → s ≡ For x (tree.Const (pos 0)) high (inner ∷ []) → s' ≡ For y (tree.Const (pos 0)) high (body ∷ [])
      → find names' y ≡ None → (Fine names high → Fine names' high) → judged part.Executor s names ≡ Ok left
      → ((inside : Names) → judged part.Executor inner (with_value names x) ≡ Ok inside → Follows base (with_value names x) (with_value names' y) inner body inside)
      → Follows base names names' s s' left
  loop_follows names names' x y high inner body s s' left is is' new bound e below =
      let l : Looped names x high inner left = looped names x high inner left (sym (ap (λ s. judged part.Executor s names) is) ∙ e) in
      let f : Follows base (with_value names x) (with_value names' y) inner body l.inside = below l.inside l.inner_is in
      record {
        kept = sym (left_again names x) ∙ ap (take (length names)) f.kept ∙ l.left_is;
        fine = ap (λ s. judged part.Executor s names') is' ∙ loop_fine names' y high body new (bound l.high_fine) f.fine;
        fixed = λ h.
            ap (λ s. fixed_fault base part.Executor (s ∷ [])) is' ∙ fixed_loop base y (tree.Const (pos 0)) high (body ∷ [])
            ∙ ap (λ o. option_or o None) (f.fixed (first_none _ _ (sym (ap (λ s. fixed_fault base part.Executor (s ∷ [])) is ∙ fixed_loop base x (tree.Const (pos 0)) high (inner ∷ [])) ∙ h)));
        counted = ap (count_in counted.Assignments) is' ∙ count_loop y (tree.Const (pos 0)) high body f.counted;
      }

  fixed_assignment : (target : Cell) (how : How) (value : Expr) → fixed_fault base part.Executor (Assign target how value ∷ []) ≡ option_or (change_fault part.Executor target.array (find base target.array)) None
  fixed_assignment target how value = ap (λ (c : Changes). option_or c.fault None) (changes_assign base part.Executor target how value)

  assignment_follows : (names names' : Names) (arrays : List Array) (ts : List Turn) (s s' : Stmt) (left : Names) → Extends base names → Extends base names' → OfTurns (Fine names') ts → IsAssignment arrays ts s s'
      → judged part.Executor s names ≡ Ok left → Follows base names names' s s' left
  assignment_follows names names' arrays ts s s' left h h' all a e =
      let f : Assigned base names names' h h' arrays ts all s s' left = assignment_fine base names names' h h' arrays ts all s s' left a e in
      let same : (a.new_target).array ≡ (a.target).array = sym (ap (λ (c : Cell). c.array) (cell_holds (Fine names') ts all arrays a.target a.new_target a.cells).is) in
      record {
        kept = f.kept;
        fine = f.fine;
        fixed = λ k.
            ap (λ s. fixed_fault base part.Executor (s ∷ [])) a.is_written ∙ fixed_assignment a.new_target a.how a.new_side
            ∙ ap (λ x. option_or (change_fault part.Executor x (find base x)) None) same
            ∙ sym (ap (λ s. fixed_fault base part.Executor (s ∷ [])) a.is ∙ fixed_assignment a.target a.how a.side) ∙ k;
        counted = ap (count_in counted.Assignments) a.is_written ∙ count_assign counted.Assignments a.new_target a.how a.new_side;
      }

  module _ (params : List Name) (arrays : List Array) (no_outer : find base outer_name ≡ None) (no_inner : find base inner_name ≡ None) (known : (x : Name) → has_name params x ≡ true → Found base x) where
    bound_fine : (names names' : Names) (z : Size) → Extends base names → Extends base names' → IsKnown params z → Fine names (expression_of z) → Fine names' (expression_of z)
    bound_fine names names' (Number n) h h' k e = at_const rule.InScope names' n
    bound_fine names names' (Param x) h h' k e =
        let f : Found base x = known x k in
        at_var rule.InScope names' x ∙ ap (number_fault x) (h'.up x f.meaning f.is ∙ sym (h.up x f.meaning f.is)) ∙ sym (at_var rule.InScope names x) ∙ e

    abbrev outer : Names
    outer = with_value base outer_name

    abbrev inner : Names
    inner = with_value outer inner_name

    inner_is_new : find outer inner_name ≡ None
    inner_is_new = missing_at_end base inner_name outer_name meaning.Value false no_inner refl

    variable_fine : (names : Names) (x y : Name) → x ≡ y → find names y ≡ Some meaning.Value → Fine names (tree.Var x)
    variable_fine names x y is h = at_var rule.InScope names x ∙ ap (λ x. number_fault x (find names x)) is ∙ ap (number_fault y) h

    outer_found : find outer outer_name ≡ Some meaning.Value
    outer_found = missing_at_end base outer_name outer_name meaning.Value true no_outer refl

    inner_found : find inner inner_name ≡ Some meaning.Value
    inner_found = missing_at_end outer inner_name inner_name meaning.Value true inner_is_new refl

    outer_stays : find inner outer_name ≡ Some meaning.Value
    outer_stays = found_stays outer outer_name inner_name meaning.Value meaning.Value outer_found

    extends_outer : Extends base outer
    extends_outer = extends_more base base outer_name (extends_self base)

    below_follows : (t : Turn) (s s' : Stmt) (o : Option Around) (names left : Names) → Extends base names → t.written ≡ outer_name → loop_of params inner_name s ≡ o → below arrays t s o ≡ Some s'
        → judged part.Executor s names ≡ Ok left → Follows base names outer s s' left
    below_follows t s s' None names left h n e w j =
        assignment_follows names outer arrays (t ∷ []) s s' left h extends_outer (variable_fine outer t.written outer_name n outer_found, tt) (assignment_is arrays (t ∷ []) s s' w) j
    below_follows t s s' (Some a) names left h n e w j =
        let k : IsLoop params inner_name s a = loop_is params inner_name s a e in
        let i : IsInLoop a.turn (assignment arrays (a.turn ∷ t ∷ []) a.inner) s' = in_loop_is a.turn (assignment arrays (a.turn ∷ t ∷ []) a.inner) s' w in
        let x : Name = (a.turn).variable in
        loop_follows names outer x inner_name (expression_of (a.turn).high) a.inner i.body s s' left k.is
        (i.is ∙ ap (λ y. For y (tree.Const (pos 0)) (expression_of (a.turn).high) (i.body ∷ [])) k.written) inner_is_new
        (bound_fine names outer (a.turn).high h extends_outer k.known) j
        (λ inside g. assignment_follows (with_value names x) inner arrays (a.turn ∷ t ∷ []) a.inner i.body inside (extends_more base names x h) (extends_more base outer inner_name extends_outer)
        (variable_fine inner (a.turn).written inner_name k.written inner_found, (variable_fine inner t.written outer_name n outer_stays, tt))
        (assignment_is arrays (a.turn ∷ t ∷ []) a.inner i.body i.some) g)

    nest_follows : (s s' : Stmt) (o : Option Around) (left : Names) → loop_of params outer_name s ≡ o → nest_in params arrays o ≡ Some s' → judged part.Executor s base ≡ Ok left → Follows base base base s s' left
    nest_follows s s' None left e w j = absurd cc
    nest_follows s s' (Some a) left e w j =
        let k : IsLoop params outer_name s a = loop_is params outer_name s a e in
        let i : IsInLoop a.turn (below arrays a.turn a.inner (loop_of params inner_name a.inner)) s' = in_loop_is a.turn (below arrays a.turn a.inner (loop_of params inner_name a.inner)) s' w in
        let x : Name = (a.turn).variable in
        loop_follows base base x outer_name (expression_of (a.turn).high) a.inner i.body s s' left k.is
        (i.is ∙ ap (λ y. For y (tree.Const (pos 0)) (expression_of (a.turn).high) (i.body ∷ [])) k.written) no_outer (λ f. f) j
        (λ inside g. below_follows a.turn a.inner i.body (loop_of params inner_name a.inner) (with_value base x) inside (extends_more base base x (extends_self base)) k.written refl i.some g)

-- ---- programs

-- a program whose names have no fault, and what it must not change
record Settled (p : Program) (o : Outcome) : Type 0 where
  names : Names
  is : o ≡ Ok names
  inspector : fixed_fault names part.Inspector p.inspector ≡ None
  executor : fixed_fault names part.Executor p.executor ≡ None

settled : (p : Program) (o : Outcome) → fixed_in p o ≡ None → Settled p o
settled p (Ok names) h = record { names = names; is = refl; inspector = first_none _ _ h; executor = second_none (fixed_fault names part.Inspector p.inspector) _ h }
settled p (Err f) h = absurd cc

record Rules (p : Program) : Type 0 where
  limits : limit_fault p ≡ None
  signature_fine : signature_fault (signature p) p ≡ None
  settles : Settled p (all_names p)

rules_of : (p : Program) → KeepsRules p → Rules p
unfolding fault_of
rules_of p h =
    let h' : option_or (signature_fault (signature p) p) (fixed_in p (all_names p)) ≡ None = second_none (limit_fault p) _ h in
    record { limits = first_none _ _ h; signature_fine = first_none _ _ h'; settles = settled p (all_names p) (second_none (signature_fault (signature p) p) _ h') }

-- the parts of a signature's rules
record SignatureRules (p : Program) : Type 0 where
  params : params_from [] p.params ≡ None
  arrays : arrays_from (signature p) p.params p.matrices [] p.arrays ≡ None

signature_rules : (p : Program) → signature_fault (signature p) p ≡ None → SignatureRules p
unfolding signature_fault
signature_rules p h =
    let h' : option_or (params_from [] p.params) (arrays_from (signature p) p.params p.matrices [] p.arrays) ≡ None = second_none (matrices_from (signature p) p.arrays p.matrices 0 p.matrices) _ h in
    record { params = first_none _ _ h'; arrays = second_none (params_from [] p.params) _ h' }

record Limits (p : Program) : Type 0 where
  names : over what.Signature (length p.params + length p.arrays) 32 ≡ None
  extents : large_extent 0 p.arrays ≡ None

limits_of : (p : Program) → limit_fault p ≡ None → Limits p
unfolding limit_fault
limits_of p h = record {
  names = first_none _ _ h;
  extents =
      second_none (over what.Matrices (length p.matrices + 0) 2) _
      (second_none (over what.InspectorStatements (count_of counted.All p.inspector) 2048) _
      (second_none (over what.Assignments (count_of counted.Assignments p.executor) 64) _
      (second_none (over what.Locals (count_of counted.Declarations p.inspector) 384) _
      (second_none (over what.Signature (length p.params + length p.arrays) 32) _ h))));
}

-- the names behind an executor of one statement
executed : (p : Program) (s : Stmt) → p.inspector ≡ [] → p.executor ≡ s ∷ [] → all_names p ≡ and_then (judged part.Executor s (signature p)) (one_by_one [])
unfolding all_names
executed p s h k = ap (λ b. and_then (judged_all part.Inspector b (signature p)) (judged_all part.Executor p.executor)) h ∙ ap (λ b. judged_all part.Executor b (signature p)) k

same_signature : (p : Program) (s : Stmt) → signature (made p s) ≡ signature p
unfolding signature
same_signature p s = refl

made_signature : (p : Program) (s : Stmt) → p.matrices ≡ [] → SignatureRules p → signature_fault (signature p) (made p s) ≡ None
unfolding signature_fault
made_signature p s h r = both_none _ _ r.params (ap (λ ms. arrays_from (signature p) p.params ms [] p.arrays) (sym h) ∙ r.arrays)

made_limits : (p : Program) (s : Stmt) → Limits p → count_in counted.Assignments s ≡ 1 → limit_fault (made p s) ≡ None
unfolding limit_fault
made_limits p s l one =
    let assignments : over what.Assignments (count_in counted.Assignments s + 0) 64 ≡ None = ap (λ n. over what.Assignments (n + 0) 64) one in
    both_none _ _ l.names (both_none _ _ refl (both_none _ _ assignments (both_none _ _ refl (both_none _ _ refl l.extents))))

made_rules : (p : Program) (s s' : Stmt) → p.matrices ≡ [] → p.inspector ≡ [] → p.executor ≡ s ∷ [] → nest p.params p.arrays s ≡ Some s' → Rules p → KeepsRules (made p s')
unfolding fault_of
made_rules p s s' ms ins ex w r =
    let base : Names = signature p in
    let g : SignatureRules p = signature_rules p r.signature_fine in
    let left : Names = (r.settles).names in
    let j : judged part.Executor s base ≡ Ok left = only_one (judged part.Executor s base) left (sym (executed p s ins ex) ∙ (r.settles).is) in
    let f : Follows base base base s s' left =
    nest_follows base p.params p.arrays (signature_missing p outer_name refl g.params g.arrays) (signature_missing p inner_name refl g.params g.arrays) (signature_found p) s s' (loop_of p.params outer_name s) left refl w j in
    let fixed : fixed_fault base part.Executor (s ∷ []) ≡ None =
    ap (λ n. fixed_fault n part.Executor (s ∷ [])) f.kept ∙ sym (ap (fixed_fault left part.Executor) ex) ∙ (r.settles).executor in
    let names : all_names (made p s') ≡ Ok base =
    executed (made p s') s' refl refl ∙ ap (λ n. and_then (judged part.Executor s' n) (one_by_one [])) (same_signature p s') ∙ ap (λ o. and_then o (one_by_one [])) f.fine in
    both_none _ _ (made_limits p s' (limits_of p r.limits) f.counted)
    (both_none _ _ (ap (λ n. signature_fault n (made p s')) (same_signature p s') ∙ made_signature p s' ms g)
    (ap (fixed_in (made p s')) names ∙ both_none _ _ refl (f.fixed fixed)))

pub written_rules : (p q : Program) → KeepsRules p → written p ≡ Some q → KeepsRules q
written_rules p q h w =
    let k : IsWritten p q = written_is p q w in
    subst KeepsRules k.is (made_rules p k.old k.new k.no_matrix k.no_inspector k.executor k.nested (rules_of p h))
