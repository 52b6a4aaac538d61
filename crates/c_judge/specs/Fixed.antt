-- What must stay as it is.
use Rattle.std.specs.Prelude.{true, false, if◌then◌else◌, List, [], ◌∷◌, map, Option, Some, None, is_some}
use Rattle.std.specs.Option.{option_or}
use Rattle.c_tree.specs.declared.program.Kind.TheVariants as kind
use Rattle.c_tree.specs.declared.index.Index.{Index}
use Rattle.c_tree.specs.declared.statement.Stmt.{Stmt, fold-Stmt}
use Rattle.c_tree.specs.declared.statement.Stmt.TheOpen.{Stmt-F, For, If, Assign, Put, Declare, Grow}
use Rattle.c_judge.specs.declared.faults.ProgramFault.TheVariants as fault
use Rattle.c_judge.specs.declared.names.Part.{Part}
use Rattle.c_judge.specs.declared.names.Part.TheVariants as part
use Rattle.c_judge.specs.declared.scope.Meaning.{Meaning}
use Rattle.c_judge.specs.declared.scope.Meaning.TheVariants as meaning
use Rattle.c_judge.specs.declared.uses.Rule.TheVariants as rule
use Rattle.c_judge.specs.Names.{Name, Names, find, enter, Fault}
use Rattle.c_judge.specs.Uses.{index_fault}

-- an index array in an executor, and an array of the signature in an inspector
abbrev pub change_fault : Part → Name → Option Meaning → Fault
change_fault part.Executor x (Some (meaning.Array kind.Position n g)) = Some (fault.Fixed x)
change_fault part.Inspector x (Some (meaning.Array k n false)) = Some (fault.Fixed x)
change_fault p x m = None

-- a growable array, by its name
abbrev pub with_growable : Name → Option Meaning → Names → Names
with_growable x (Some (meaning.Array k n true)) changed = if is_some (find changed x) then changed else enter changed x (meaning.Array k n true)
with_growable x m changed = changed

-- of a statement: the growable arrays that it changes, put behind others, and its first fault
pub record Changes : Type 0 where
  pub onto : Names → Names
  pub fault : Fault

abbrev pub all_onto : List Changes → Names → Names
all_onto [] changed = changed
all_onto (c ∷ cs) changed = all_onto cs (c.onto changed)

abbrev pub first_fault : List Changes → Fault
first_fault [] = None
first_fault (c ∷ cs) = option_or c.fault (first_fault cs)

-- the first name of a loop's upper bound that its body changes
abbrev pub bound_fault : Part → Index → List Changes → Fault
bound_fault part.Inspector high body = index_fault rule.Unchanged (all_onto body []) high
bound_fault part.Executor high body = None

module _ (names : Names) (p : Part) where
  abbrev pub change : Name → Changes
  change x = record { onto = with_growable x (find names x); fault = change_fault p x (find names x) }

  abbrev pub changes_layer : Stmt-F Changes → Changes
  changes_layer (For x low high body) = record { onto = all_onto body; fault = option_or (bound_fault p high body) (first_fault body) }
  changes_layer (If tests body) = record { onto = all_onto body; fault = first_fault body }
  changes_layer (Assign target how value) = change target.array
  changes_layer (Put target value) = change target.array
  changes_layer (Declare x k inner) = record { onto = λ changed. changed; fault = None }
  changes_layer (Grow x by) = change x

  -- what a statement changes where these names are in scope
  unfoldable pub changes : Stmt → Changes
  changes = fold-Stmt Changes changes_layer

  abbrev pub fixed_fault : List Stmt → Fault
  fixed_fault ss = first_fault (map changes ss)
