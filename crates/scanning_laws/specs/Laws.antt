-- Laws of a scan, from one loop and one assignment to all of it.
use Rattle.std.specs.Prelude.{◌≡◌, List, [], ◌∷◌, ◌++◌, Bool, IsTrue, Ok}
use Rattle.c_tree.specs.declared.statement.Stmt.{Stmt}
use Rattle.c_meaning.specs.Ground.{Step}
use Rattle.c_meaning.specs.Listing.{Scene}
use Rattle.nest_tree.specs.declared.kernel.Kernel.{Kernel}
use Rattle.nest_tree.specs.Lists.{IsIn}
use Rattle.nest_tree.specs.Scans.{Maker}
use Rattle.nest_tree.specs.Terms.{Input}
use Rattle.nest_laws.specs.Trees.{tree_of}
use Rattle.scan_forms.specs.declared.reads.Read.{Read}
use Rattle.scan_laws.specs.Printing.{IsPrinted}
use Rattle.scanning.specs.Shapes.{Loops, leaves}
use Rattle.scanning.specs.Tables.{table_of}
use Rattle.scanning.specs.Parts.{Part, Opened, Around, Assigned}
use Rattle.scanning.specs.Heads.{opened}
use Rattle.scanning.specs.Assignments.{assignment}
use Rattle.scanning.specs.Scanned.{scanned_in}
use Rattle.scanning_laws.specs.Naming.{IsTable}
use Rattle.scanning_laws.specs.Valued.{Says, Before}
use Rattle.scanning_laws.specs.Knowing.{AreSteady, IsLocal}
use Rattle.scanning_laws.specs.Derived.{IsScanned, slots}
use Rattle.scanning_laws.specs.Opening.{IsOpened}
use Rattle.scanning_laws.specs.Assigning.{IsAssigned}
use Rattle.scanning_laws.specs.Bounded.{Bounded}

-- in the table of a kernel, each read stands behind those in its arguments
abbrev pub TablesAreInOrder : Type 0
TablesAreInOrder = (k : Kernel) → IsTable (table_of k)

-- a claim that names no further level stays readable and true in each turn of a further loop
abbrev pub ClaimsStaySaid : Type 0
ClaimsStaySaid = (k : Kernel) (i : Input) (table : List Read) → AreSteady k table (Says i table) (Before i table)

-- what an opened loop is made of
abbrev pub OpenedLoopsAreMade : Type 0
OpenedLoopsAreMade = (k : Kernel) (table : List Read) (a : Around) (ps : List Part) (o : Opened) → opened k table a ps ≡ Ok o → IsOpened k table a ps o

-- what an assignment is made of
abbrev pub AssignmentsAreMade : Type 0
AssignmentsAreMade = (k : Kernel) (table : List Read) (a : Around) (p : Part) (x : Assigned) → assignment k table a p ≡ Ok x → IsAssigned k table a p x

-- Let a test of a statement inside loops stay true in each loop that is opened around it, and be true of these statements. Where
-- they are scanned, the scan is made step by step; and if each loop and each assignment does by itself what a maker says, the
-- statements are printed for that maker.
abbrev pub LocalFactsPrintTheScan : Type 0
LocalFactsPrintTheScan =
    (k : Kernel) (table : List Read) (i : Input) (good : Around → Part → Bool)
    → ((a : Around) (ps : List Part) (o : Opened) (p : Part) → opened k table a ps ≡ Ok o → IsIn p ps → IsTrue (good a p) → IsTrue (good (a ++ o ∷ []) p))
    → (t : Loops Part) (ss : List Stmt) → ((p : Part) → IsIn p (leaves t) → IsTrue (good [] p)) → scanned_in k table [] t ≡ Ok ss
    → (d : IsScanned k table (λ a p. IsTrue (good a p)) [] t ss)
    × ((plan : (a : Around) (p : Part) → IsTrue (good a p) → Bounded i) (m : Maker (Bounded i) Step) (c : Scene)
    → IsLocal k table (Says i table) (Before i table) (λ a p. IsTrue (good a p)) plan m c
    → IsPrinted m (tree_of ss c) (slots k table (λ a p. IsTrue (good a p)) plan d 0) 0 [])
