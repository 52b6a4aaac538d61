-- The assignments of an executor with what stands around them, and the leaves of its loops.
use Rattle.std.specs.Prelude.{◌≡◌, ℕ, suc, ◌+◌, List, [], ◌∷◌, ◌++◌, map, pos, false}
use Rattle.c_tree.specs.declared.index.Cell.{Cell}
use Rattle.c_tree.specs.declared.index.Index.{Index}
use Rattle.c_tree.specs.declared.data.Expr.{Expr}
use Rattle.c_tree.specs.declared.statement.How.{How}
use Rattle.c_tree.specs.declared.statement.Test.{Test}
use Rattle.c_meaning.specs.Names.{Name}
use Rattle.c_meaning.specs.Value.{value_of, all_hold}
use Rattle.c_meaning.specs.Ground.{Step}
use Rattle.c_meaning.specs.Listing.{Scene, assigned}
use Rattle.nest_tree.specs.Scans.{Around, between, only_if, Leaf, leaves}
use Rattle.nest_laws.specs.Trees.{bind_all, or_else, without_faults}
use Rattle.executors.specs.Executors.{Executor, done, idle, assign, loop, guard, width}
use Rattle.executor_laws.specs.Trees.{tree_from}

-- what is passed on the way to an assignment: a loop, or a guard
pub data Passed : Type 0 where
  looped : Name → Index → Index → Passed
  guarded : List Test → Passed

-- an assignment with its child positions and what is passed on the way to it
pub record Site : Type 0 where
  pub positions : List ℕ
  pub path : List Passed
  pub target : Cell
  pub how : How
  pub value : Expr

-- nothing but loops, guards and assignments
abbrev pub IsPlain : Executor → Type 0
IsPlain done = Unit
IsPlain (idle rest) = ⊥
IsPlain (assign target how value rest) = IsPlain rest
IsPlain (loop x low high body rest) = IsPlain body × IsPlain rest
IsPlain (guard tests body rest) = IsPlain body × IsPlain rest

-- a site in the body of a loop at child position n, and of a guard
abbrev pub in_loop : ℕ → Name → Index → Index → Site → Site
in_loop n x low high s = record { positions = n ∷ s.positions; path = looped x low high ∷ s.path; target = s.target; how = s.how; value = s.value }

abbrev pub in_guard : List Test → Site → Site
in_guard tests s = record { positions = s.positions; path = guarded tests ∷ s.path; target = s.target; how = s.how; value = s.value }

-- the assignments, from child position n on
abbrev pub sites_from : Executor → ℕ → List Site
sites_from done n = []
sites_from (idle rest) n = sites_from rest (suc n)
sites_from (assign target how value rest) n = record { positions = n ∷ []; path = []; target = target; how = how; value = value } ∷ sites_from rest (suc n)
sites_from (loop x low high body rest) n = map (in_loop n x low high) (sites_from body 0) ++ sites_from rest (suc n)
sites_from (guard tests body rest) n = map (in_guard tests) (sites_from body n) ++ sites_from rest (n + width body)

-- the variables of the loops that are passed
abbrev pub names_in : List Name → List Passed → List Name
names_in names [] = names
names_in names (looped x low high ∷ path) = names_in (names ++ x ∷ []) path
names_in names (guarded tests ∷ path) = names_in names path

-- what stands around, with its values
abbrev pub arounds : Scene → List Name → List Passed → List Around
arounds c names [] = []
arounds c names (looped x low high ∷ path) =
    between (λ e. or_else (pos 0) (value_of low (bind_all names e c).sight)) (λ e. or_else (pos 0) (value_of high (bind_all names e c).sight)) ∷ arounds c (names ++ x ∷ []) path
arounds c names (guarded tests ∷ path) = only_if (λ e. or_else false (all_hold tests (bind_all names e c).sight)) ∷ arounds c names path

-- an assignment as a leaf; d stands where it has a fault
abbrev pub leaf_of : Scene → Step → List Name → Site → Leaf Step
leaf_of c d names s = record {
  positions = s.positions;
  around = arounds c names s.path;
  step = λ e. or_else d (assigned s.target s.how s.value (bind_all (names_in names s.path) e c));
}

-- the leaves of an executor's loops are its assignments
abbrev pub SitesAreLeaves : Type 0
SitesAreLeaves = (x : Executor) (c : Scene) (d : Step) (names : List Name) (n : ℕ) → IsPlain x → leaves (without_faults d (tree_from x c names)) n ≡ map (leaf_of c d names) (sites_from x n)
