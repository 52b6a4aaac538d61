-- What a valid input and the rules give to acceptance: what a run sees, and what its names are.
use Rattle.std.specs.Prelude.{◌≡◌, true, [], Ok}
use Rattle.std.specs.List.{list_all}
use Rattle.c_tree.specs.declared.program.Program.{Program}
use Rattle.c_judge.specs.Rules.{KeepsRules}
use Rattle.c_meaning.specs.Inputs.{Input, start, IsValid}
use Rattle.c_meaning.specs.Listing.{Scene, scene_of}
use Rattle.c_meaning.specs.Programs.{is_executor}
use Rattle.nest_tree.specs.declared.kernel.Kernel.{Kernel}
use Rattle.nest_laws.specs.Trees.{tree_of, IsFine}
use Rattle.acceptance.specs.Accepted.{accepted}
use Rattle.acceptance_laws.specs.Safe.{IsNamed}
use Rattle.acceptance_laws.specs.Scene.{IsSceneOf}

-- what an executor sees where no inspector runs before it
abbrev pub scene : Program → Input → Scene
scene p i = scene_of i.value (start p i)

-- an accepted program that keeps the rules, whose executor has loops, guards and assignments alone, and a valid input of it
pub record IsAcceptedOn (p : Program) (k : Kernel) (i : Input) : Type 0 where
  pub rules : KeepsRules p
  pub is_accepted : accepted p ≡ Ok k
  pub executes : list_all is_executor p.executor ≡ true
  pub valid : IsValid p i

-- names are in scope and apart, and each cell lies in an array with as many extents as it has subscripts, below which all its cells are inside
abbrev pub RulesNameCells : Type 0
RulesNameCells = (p : Program) (k : Kernel) (i : Input) → IsAcceptedOn p k i → IsNamed p (scene p i)

-- parameters and cells of the matrices' arrays are at most 2^24, each subscript below an extent finds its cell, and all arrays keep the ranges that systems say of them
abbrev pub ValidInputIsScene : Type 0
ValidInputIsScene = (p : Program) (k : Kernel) (i : Input) → IsAcceptedOn p k i → IsSceneOf p (scene p i)

-- so nothing in the executor has a fault
abbrev pub AcceptedIsFineOnInputs : Type 0
AcceptedIsFineOnInputs = (p : Program) (k : Kernel) (i : Input) → IsAcceptedOn p k i → IsFine (tree_of p.executor (scene p i)) []
