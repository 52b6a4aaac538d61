-- Where a run comes, as the rows that hold there.
use Rattle.std.specs.Prelude.{◌≡◌, ◌≤◌, ℕ, ℤ, Bool, true, false, bytes_eq, List, [], ◌∷◌, ◌++◌}
use Rattle.std.specs.List.{list_any, AllByRecursion}
use Rattle.c_meaning.specs.Names.{Name}
use Rattle.c_meaning.specs.Weighed.{greatest}
use Rattle.c_meaning.specs.Value.{Sight}
use Rattle.c_meaning.specs.Listing.{Scene}
use Rattle.nest_tree.specs.Loops.{Levels}
use Rattle.nest_laws.specs.Trees.{bind_all}
use Rattle.acceptance.specs.Affine.{lowers, uppers}
use Rattle.acceptance.specs.Around.{loop_names}
use Rattle.acceptance.specs.Expressions.{Expression, plain}
use Rattle.acceptance.specs.Forms.{Vars}
use Rattle.acceptance.specs.Sizes.{Size, weight}
use Rattle.acceptance.specs.Visits.{Passed, looped, tested}
use Rattle.acceptance_laws.specs.Reached.{Reached}
use Rattle.acceptance_laws.specs.Formed.{is_in_scope, sizes_of}
use Rattle.acceptance_laws.specs.Rows.{IsOperand, IsWithin}

-- what stands around names only parameters and loop variables further out, and no loop variable is among those
abbrev pub IsScoped : List Name → List Passed → Type 0
IsScoped front [] = Unit
IsScoped front (looped x low high ∷ ps) = (is_in_scope front (plain low) ≡ true) × (is_in_scope front (plain high) ≡ true) × (list_any (λ y. bytes_eq y x) front ≡ false) × IsScoped (front ++ x ∷ []) ps
IsScoped front (tested t ∷ ps) = (is_in_scope front (plain t.left) ≡ true) × (is_in_scope front (plain t.right) ≡ true) × IsScoped front ps

-- its expressions have their forms' values, and small sizes
abbrev pub IsEvaluated : List Size → Sight → Vars → Passed → Type 0
IsEvaluated sizes s v (looped x low high) =
    AllByRecursion (IsOperand sizes s v) (lowers (plain low)) × (weight sizes (plain low) ≤ greatest) × AllByRecursion (IsOperand sizes s v) (uppers (plain high)) × (weight sizes (plain high) ≤ greatest)
IsEvaluated sizes s v (tested t) = IsOperand sizes s v (plain t.left) × (weight sizes (plain t.left) ≤ greatest) × IsOperand sizes s v (plain t.right) × (weight sizes (plain t.right) ≤ greatest)

-- a run comes behind what is passed exactly where the loop variables are within the operands' forms and the tests' forms compare so
abbrev pub ReachedIsWithin : Type 0
ReachedIsWithin =
    (sizes : List Size) (v : Vars) (front : List Name) (ps : List Passed) (c : Scene) (e : Levels) → IsScoped front ps
    → AllByRecursion (IsEvaluated sizes (bind_all (loop_names ps) e c).sight v) ps → Reached ps c e → AllByRecursion (IsWithin (bind_all (loop_names ps) e c).sight v) ps
