-- The new statement is made of the one that was found, and refused for what its parts are refused for.
use Rattle.std.proofs.Common.{◌≡◌, ℕ, zero, suc, arith, ◌<◌, true, List, [], ◌∷◌, length, get_or, ap, sym, subst, inl, inr, ltb-true}
use Rattle.std.specs.Prelude.{Result, Ok, Err, Some, IsTrue, IfOk, slice_get}
use Rattle.std.specs.List.{AllByRecursion}
use Rattle.chill_base.specs.declared.faults.Stop.{Stop}
use Rattle.chill_base.specs.declared.faults.Stop.TheVariants.{Refused, NoMemory}
use Rattle.int_rows.specs.declared.row.Excess.{Excess}
use Rattle.nest_tree.specs.declared.fault.CommandFault.{CommandFault}
use Rattle.nest_tree.specs.declared.fault.CommandFault.TheVariants.{Shape, Depends, Overflow}
use Rattle.nest_tree.specs.declared.kernel.Kernel.{Kernel}
use Rattle.nest_tree.specs.declared.kernel.Nest.{Nest}
use Rattle.nest_core.specs.Making.{Gives}
use Rattle.nest_core.specs.Shapes.{is_below, IsShapedNest, IsShaped}
use Rattle.nest_limits.specs.Brackets.{are_within}
use Rattle.depend_test.specs.Tested.{OnRefused, overflow}
use Rattle.compact.specs.declared.matching.Target.{Target}
use Rattle.compact.specs.declared.plan.Plan.{Plan}
use Rattle.compact.specs.Entered.{IsNew, IsPlan}
use Rattle.compact.specs.Shapes.{IsTarget}
use Rattle.compact.specs.Faults.{IsTooDeep, IsLevelFault, IsFaultOf, IsPlanFault}
use Rattle.compact.specs.Statement.{compacted, counts_of}

-- the one that is read is the one that is found
pub found-at : {A : Type 0} (xs : List A) (i : ℕ) (x y : A) → slice_get xs i ≡ Some y → x ≡ get_or xs i x → slice_get xs i ≡ Some x
found-at [] i x y e d = absurd cc
found-at (z ∷ zs) zero x y e d = ap Some (sym d)
found-at (z ∷ zs) (suc i) x y e d = found-at zs i x y e d

pub found-below : {A : Type 0} (xs : List A) (i : ℕ) (x : A) → slice_get xs i ≡ Some x → i < length xs
found-below [] i x e = absurd cc
found-below (y ∷ xs) zero x e = omega arith
found-below (y ∷ xs) (suc i) x e = omega (arith, found-below xs i x e)

each-found : {A : Type 0} (P : A → Type 0) (xs : List A) (i : ℕ) (x : A) → AllByRecursion P xs → slice_get xs i ≡ Some x → P x
each-found P [] i x a e = absurd cc
each-found P (y ∷ xs) zero x a e = let same : x ≡ y = cc in rw same a.0
each-found P (y ∷ xs) (suc i) x a e = each-found P xs i x a.1 e

-- the matrix is one of the kernel's
pub matrix-below : (k : Kernel) (s level : ℕ) (t : Target) → IsShaped k → IsTarget k s level t → t.matrix < length k.head.matrices
matrix-below k s level t shaped is =
    let n = each-found (IsShapedNest k.head) k.nests s is.nest shaped.nests is.found in
    let w : IsTrue (is_below (length k.head.matrices) (Some t.matrix)) = rw is.whole at n.whole in
    ltb-true t.matrix (length k.head.matrices) w

module _ (k : Kernel) (s level : ℕ) (p : Plan) (old : Nest) (found : slice_get k.nests s ≡ Some old) where
  pub new-found : (new : Nest) (r : Result Nest (Stop CommandFault)) → compacted (counts_of (length k.head.params) old level) p.target.group p.names old ≡ Ok new → IsShapedNest k.head new
      → IfOk r (λ n. n ≡ new) → IfOk r (λ n. IsNew k s level p n)
  new-found new (Ok n) over shaped is =
      let F : Nest → Type 0 = λ m. IsNew k s level p m in
      subst F (sym is) (record { old = old; found = found; over = over; shaped = shaped })
  new-found new (Err stop) over shaped is = tt

  pub deep-fault : {A : Type 0} (new : Nest) (r : Result A (Stop CommandFault)) → compacted (counts_of (length k.head.params) old level) p.target.group p.names old ≡ Ok new
      → OnRefused r (IsTooDeep (length k.head.params) new) → OnRefused r (IsFaultOf k s level p)
  deep-fault new (Ok x) e f = tt
  deep-fault new (Err (Refused (Shape why))) e f = record { old = old; found = found; is = (rw e f.0, f.1) }
  deep-fault new (Err (Refused (Depends d))) e f = absurd f
  deep-fault new (Err (Refused (Overflow x))) e f = absurd f
  deep-fault new (Err NoMemory) e f = tt

  pub limit-fault : {A : Type 0} (stop : Stop Excess) (r : Result A (Stop CommandFault)) → Gives {A = Nest} (Err stop) (compacted (counts_of (length k.head.params) old level) p.target.group p.names old)
      → r ≡ Err (overflow stop) → OnRefused r (IsFaultOf k s level p)
  limit-fault (Refused e) r g is = rw is (record { old = old; found = found; is = inl g })
  limit-fault NoMemory r g is = rw is tt

-- behind a plan
module _ (k : Kernel) (s level : ℕ) (prefix : List ℕ) (p : Plan) (is_plan : IsPlan k s level prefix p) where
  pub plan-fault : {A : Type 0} (r : Result A (Stop CommandFault)) → OnRefused r (IsFaultOf k s level p) → OnRefused r (IsPlanFault k s level prefix)
  plan-fault (Ok x) f = tt
  plan-fault (Err (Refused fault)) f = record { plan = p; is_plan = is_plan; of = f }
  plan-fault (Err NoMemory) f = tt

  pub level-fault : {A : Type 0} (new : Nest) (r : Result A (Stop CommandFault)) → IsNew k s level p new → are_within (length k.head.params) (new ∷ []) ≡ true
      → OnRefused r (IsLevelFault k s level) → OnRefused r (IsPlanFault k s level prefix)
  level-fault new (Ok x) n w f = tt
  level-fault new (Err (Refused (Shape why))) n w f = absurd f
  level-fault new (Err (Refused (Depends d))) n w f = record { plan = p; is_plan = is_plan; of = record { old = n.old; found = n.found; is = (rw n.over w, f) } }
  level-fault new (Err (Refused (Overflow x))) n w f = record { plan = p; is_plan = is_plan; of = record { old = n.old; found = n.found; is = inr (rw n.over w) } }
  level-fault new (Err NoMemory) n w f = tt
