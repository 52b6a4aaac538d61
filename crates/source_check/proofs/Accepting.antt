-- The statements of an accepted source have the shapes of a kernel's.
use Rattle.std.proofs.Common.{◌≡◌, ℕ, arith, ◌≤◌, true, false, nat_lt, List, [], ◌∷◌, length, refl, ap, ◌∙◌}
use Rattle.std.specs.Prelude.{Option, Some, None, if◌then◌else◌}
use Rattle.std.specs.Option.{option_or}
use Rattle.std.specs.List.{AllByRecursion}
use Rattle.std.proofs.lemmas.Bool.Decides.{nat_tests}
use Rattle.c_tree.specs.declared.program.Program.{Program}
use Rattle.c_judge.specs.declared.faults.ProgramFault.TheVariants as fault
use Rattle.c_judge.specs.declared.faults.LimitWhat.{LimitWhat}
use Rattle.c_judge.specs.declared.faults.LimitWhat.TheVariants as what
use Rattle.c_judge.specs.declared.limits.Counted.TheVariants as counted
use Rattle.c_judge.specs.Limits.{capped, over_by, count_of, limit_fault}
use Rattle.c_judge.specs.Rules.{fault_of, KeepsRules}
use Rattle.nest_tree.specs.declared.kernel.Nest.{Nest}
use Rattle.nest_core.specs.Order.{numbered}
use Rattle.nest_core.specs.Shapes.{IsShapedNest, IsShaped}
use Rattle.nest_core.proofs.Ordered.{has_positions, numbered-shaped, numbered-again, length-numbered}
use Rattle.nest_tree.specs.declared.made.Made.{Made}
use Rattle.c_tree.specs.declared.statement.Stmt.{Stmt}
use Rattle.source_limits.specs.Heads.{signature_of}

none_first : {A : Type 0} (a b : Option A) → option_or a b ≡ None → (a ≡ None) × (b ≡ None)
none_first None b e = (refl, e)
none_first (Some x) b e = absurd cc

small : (c : ℕ) → nat_lt 64 (capped c) ≡ false → c ≤ 64
small c h = grind (arith, nat_tests)

within : (c : ℕ) (w : LimitWhat) → over_by w (capped c) 64 ≡ None → c ≤ 64
within c w e = elim (nat_lt 64 (capped c)) as (λ t. nat_lt 64 (capped c) ≡ t → (if t then Some (fault.Limit w (capped c)) else None) ≡ None → c ≤ 64) [
  | true ↦ λ h d. absurd cc
  | false ↦ λ h d. small c h
] refl e

-- an executor has at most 64 assignments
pub few-assignments : (p : Program) → KeepsRules p → count_of counted.Assignments p.executor ≤ 64
unfolding fault_of limit_fault
few-assignments p k =
    let limits = (none_first _ _ k).0 in
    let a = (none_first _ _ limits).1 in
    let b = (none_first _ _ a).1 in
    within (count_of counted.Assignments p.executor) what.Assignments (none_first _ _ b).0

nest_under : (p h : Program) (n : Nest) → h ≡ signature_of p → IsShapedNest p n → IsShapedNest h n
nest_under p h n e s = rw e (record { positions = s.positions; depth = s.depth; rows = s.rows; terms = s.terms; target = s.target; value = s.value; whole = s.whole })

-- shapes look at the signature alone
pub nests_under : (p h : Program) (ns : List Nest) → h ≡ signature_of p → AllByRecursion (IsShapedNest p) ns → AllByRecursion (IsShapedNest h) ns
nests_under p h [] e a = tt
nests_under p h (n ∷ ns) e a = (nest_under p h n e a.0, nests_under p h ns e a.1)

-- what is made of statements by counting their positions anew
pub counted-shaped : (p : Program) (ns out : List Nest) → out ≡ numbered ns → AllByRecursion (IsShapedNest p) ns → AllByRecursion (IsShapedNest p) out
counted-shaped p ns out e a = rw e (numbered-shaped p ns a)

pub counted-length : (ns out : List Nest) (k : ℕ) → out ≡ numbered ns → length ns ≡ k → length out ≡ k
counted-length ns out k e l = ap length e ∙ length-numbered ns ∙ l

pub counted-again : (p : Program) (ns out : List Nest) → out ≡ numbered ns → AllByRecursion (IsShapedNest p) ns → numbered out ≡ out
counted-again p ns out e a = rw e (numbered-again ns (has_positions p ns a))

-- the kernel of a source: its statements are the assignments of the executor
pub accepted : (p h : Program) (made : List Made) (ns : List Nest) (k : ℕ) (ss : List Stmt) → h ≡ signature_of p → AllByRecursion (IsShapedNest p) ns → length ns ≡ k
    → k ≡ count_of counted.Assignments ss → length ss ≤ k → ss ≡ p.executor → KeepsRules p → 1 ≤ length p.executor → numbered ns ≡ ns → IsShaped (record { head = h; made = made; nests = ns })
accepted p h made ns k ss eh shaped el ek some es rules one again =
    let few : count_of counted.Assignments p.executor ≤ 64 = few-assignments p rules in
    let same : count_of counted.Assignments ss ≡ count_of counted.Assignments p.executor = ap (count_of counted.Assignments) es in
    let long : length ss ≡ length p.executor = ap length es in
    record {
      nests = nests_under p h ns eh shaped;
      some = omega (arith, el, some, one, long);
      few = omega (arith, el, ek, same, few);
      counted = again;
    }
