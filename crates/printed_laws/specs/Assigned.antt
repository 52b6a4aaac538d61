-- What the tests around an assignment do that a scan placed.
use Rattle.std.specs.Prelude.{◌≡◌, ◌≤◌, Bool, true, List, length, Ok}
use Rattle.std.specs.List.{filter}
use Rattle.c_meaning.specs.Value.{Sight, all_hold}
use Rattle.nest_tree.specs.declared.kernel.Kernel.{Kernel}
use Rattle.nest_tree.specs.declared.kernel.KernelRow.{KernelRow}
use Rattle.nest_tree.specs.Lists.{IsIn}
use Rattle.nest_tree.specs.Loops.{Levels}
use Rattle.nest_tree.specs.Terms.{Input}
use Rattle.scan_forms.specs.declared.claim.Claim.{Claim}
use Rattle.scan_forms.specs.declared.reads.Read.{Read}
use Rattle.scanning.specs.Asked.{gained}
use Rattle.scanning.specs.Assignments.{is_open, with_rows}
use Rattle.scanning.specs.Parts.{Part, Around, Assigned, context_of, sizes_of}
use Rattle.scanning_laws.specs.Asking.{AllHold, IsAsking}
use Rattle.scanning_laws.specs.Assigning.{IsAssigned}
use Rattle.scanning_laws.specs.Naming.{IsTable}
use Rattle.scanning_laws.specs.Valued.{Before}
use Rattle.printed_laws.specs.Printed.{AreDistinct, Sees}
use Rattle.printed_laws.specs.Opened.{Readable, Holding, Found, RestsOn}

-- a row of a statement inside all its loops: it names only the levels around, and reads of the table, which name such levels alone
pub record IsInnerRow (i : Input) (table : List Read) (e : Levels) (x : Claim) : Type 0 where
  pub before : Before i table (length e) x
  pub fits : length x.form.reads ≤ length table

-- its tests have an answer; where it is true, the rows that no loop says hold; and it is true where all holds that they are
pub record AssignmentTests (k : Kernel) (table : List Read) (a : Around) (p : Part) (x : Assigned) (s : Sight) (i : Input) (e : Levels) : Type 0 where
  pub answer : Bool
  pub tests : all_hold x.tests s ≡ Ok answer
  pub rows : answer ≡ true → (r : KernelRow × Claim) → IsIn r (filter (is_open k table a p) p.rows) → Readable i table e r.1 × Holding i table e r.1
  pub passes : ((y : Claim) → IsIn y (gained (context_of a) (with_rows k table a p)) → Holding i table e y) → answer ≡ true

-- so it is where all that is known around the assignment holds, and what asking for reads rests on does
abbrev pub AssignmentsTest : Type 0
AssignmentsTest =
    (k : Kernel) (table : List Read) (a : Around) (p : Part) (x : Assigned) → IsAssigned k table a p x → (s : Sight) (i : Input) (e : Levels) → Sees k i (sizes_of a) e s → IsTable table → AreDistinct p.order
    → ((r : KernelRow × Claim) → IsIn r (filter (is_open k table a p) p.rows) → IsInnerRow i table e r.1) → AllHold (Readable i table e) (Holding i table e) (context_of a)
    → IsAsking k table (Readable i table e) (Holding i table e) (Found i table e) (RestsOn table e) → AssignmentTests k table a p x s i e
