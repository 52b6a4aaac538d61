use Rattle.std.specs.Prelude.{◌≡◌, IsTrue, [], ◌∷◌, Any, true, Ok, take}
use Rattle.std.specs.List.{AllByRecursion}
use Rattle.int_rows.specs.Exclusion.{exclusion}
use Rattle.int_rows.specs.Systems.{IsRowOf}
use Rattle.depend_test.proofs.quick.any_impossible.Given as goal

abbrev pub invariant-loop-row : goal.invariant-loop-row
invariant-loop-row l = AllByRecursion (IsRowOf l.vars) (take l.row-index l.rows) × (IsTrue l.found → Any (λ r. exclusion l.vars (r ∷ []) ≡ Ok true) l.rows)
