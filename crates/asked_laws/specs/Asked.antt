-- What the claims of a scan's context imply holds where they do, and what is asked for reads can be read.
use Rattle.std.specs.Prelude.{◌≡◌, ℕ, ◌≤◌, true, false, List, [], length, slice_get}
use Rattle.nest_tree.specs.declared.kernel.Kernel.{Kernel}
use Rattle.nest_tree.specs.Lists.{IsIn}
use Rattle.nest_tree.specs.Loops.{Levels}
use Rattle.nest_tree.specs.Terms.{Input}
use Rattle.scan_forms.specs.declared.claim.Claim.{Claim}
use Rattle.scan_forms.specs.declared.reads.Read.{Read}
use Rattle.scanning.specs.Asked.{context_implies}
use Rattle.scanning.specs.Ranges.{read_claims}
use Rattle.point_laws.specs.Ranges.{IsRanged}
use Rattle.scanning_laws.specs.Asking.{AllHold}
use Rattle.scanning_laws.specs.Naming.{IsTable}
use Rattle.printed_laws.specs.Opened.{Readable, Holding, Found, RestsOn}

-- for a kernel without made arrays, on an input whose arrays keep their ranges, at level values at which all claims of a context can be read and hold: an inequality that they imply, and that can be read, holds too
abbrev pub ImpliedClaimsHold : Type 0
ImpliedClaimsHold =
    (k : Kernel) (i : Input) (table : List Read) (e : Levels) (context : List Claim) (x : Claim) → k.made ≡ [] → IsRanged k.head [] i → IsTable table → length e ≤ 8
    → AllHold (Readable i table e) (Holding i table e) context → x.equal ≡ false → context_implies k table context x.form ≡ true → Readable i table e x → Holding i table e x

-- for such a kernel, where the reads in a read's arguments are found, the claims that its arguments are in their ranges can be read
abbrev pub RangesCanBeRead : Type 0
RangesCanBeRead =
    (k : Kernel) (i : Input) (table : List Read) (e : Levels) (j : ℕ) → k.made ≡ [] → ((l : ℕ) → RestsOn table e l j → Found i table e l)
    → (x : Claim) → IsIn x (read_claims k table (slice_get table j)) → Readable i table e x
