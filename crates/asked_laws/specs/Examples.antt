-- A worked context: in a loop from 0 to below n, n is at least 1.
use Rattle.std.specs.Prelude.{◌≡◌, true, false, List, [], ◌∷◌, length, slice_get, ℤ, pos, negsuc}
use Rattle.nest_tree.specs.declared.kernel.Kernel.{Kernel}
use Rattle.nest_tree.specs.Lists.{IsIn}
use Rattle.nest_tree.specs.Loops.{Levels}
use Rattle.scan_forms.specs.declared.claim.Claim.{Claim}
use Rattle.scanning.specs.Asked.{context_implies}
use Rattle.scanning.specs.Kernels.{product}
use Rattle.scanning.specs.Ranges.{read_claims}
use Rattle.scanning_laws.specs.Examples.{nested_reads}
use Rattle.point_laws.specs.Ranges.{IsRanged}
use Rattle.scanning_laws.specs.Asking.{AllHold}
use Rattle.printed_laws.specs.Opened.{Readable, Holding}
use Rattle.printed_laws.specs.Examples as printed
use Rattle.implied_laws.specs.Examples.{head, input}

abbrev pub kernel : Kernel
kernel = record { head = head; made = []; nests = [] }

abbrev pub claim : List ℤ → List ℤ → ℤ → Claim
claim params levels c = record { equal = false; form = record { params = params; levels = levels; reads = []; constant = c } }

-- t >= 0 and n - 1 - t >= 0
abbrev pub context : List Claim
context = claim [] (pos 1 ∷ []) (pos 0) ∷ claim (pos 1 ∷ []) (negsuc 0 ∷ []) (negsuc 0) ∷ []

-- n - 1 >= 0
abbrev pub some : Claim
some = claim (pos 1 ∷ []) [] (negsuc 0)

-- t is 2, and n is 3
abbrev pub levels : Levels
levels = pos 2 ∷ []

-- it is implied, all premises of the law hold, and so it holds
abbrev pub WorkedContext : Type 0
WorkedContext =
    IsRanged head [] input × AllHold (Readable input [] levels) (Holding input [] levels) context × Readable input [] levels some × (context_implies kernel [] context some.form ≡ true) × Holding input [] levels some

-- ---- for col[index[t1]], whose argument index[t1] is found where t1 is 1, the claims of its range can be read; there are two
abbrev pub WorkedRanges : Type 0
WorkedRanges =
    (length (read_claims product nested_reads (slice_get nested_reads 1)) ≡ 2)
    × ((x : Claim) → IsIn x (read_claims product nested_reads (slice_get nested_reads 1)) → Readable printed.input nested_reads printed.levels x)
