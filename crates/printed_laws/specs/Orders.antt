-- The orders in which reads are printed name none twice.
use Rattle.std.specs.Prelude.{◌≡◌, ℕ, Bool, List, [], ◌∷◌, Ok}
use Rattle.int_rows.specs.declared.row.Aff.{Aff}
use Rattle.nest_tree.specs.declared.kernel.Kernel.{Kernel}
use Rattle.nest_tree.specs.declared.kernel.Nest.{Nest}
use Rattle.scan_forms.specs.declared.claim.Claim.{Claim}
use Rattle.scan_forms.specs.declared.reads.Read.{Read}
use Rattle.loop_scan.specs.declared.sides.Sides.{Sides}
use Rattle.scanning.specs.Named.{with_new}
use Rattle.scanning.specs.Parts.{Part, part_by}
use Rattle.scanning.specs.Sides.{sides_of}
use Rattle.printed_laws.specs.Printed.{AreDistinct}

-- that of a statement, and then those of its bounds
abbrev pub OrdersAreDistinct : Type 0
OrdersAreDistinct =
    ((k : Kernel) (table : List Read) (s : ℕ) (n : Nest) (forms : List Aff) → AreDistinct (part_by k table s n forms).order)
    × ((k : Kernel) (table : List Read) (context : List Claim) (q : ℕ) (several : Bool) (p : Part) (direct : List Claim) (d : Sides)
    → AreDistinct p.order → sides_of k table context q several p direct ≡ Ok d → AreDistinct d.order)

-- a number that is there stays alone
abbrev pub WorkedOrder : Type 0
WorkedOrder = with_new (with_new (with_new [] 2) 0) 2 ≡ 2 ∷ 0 ∷ []
