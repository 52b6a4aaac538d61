-- What an assignment is made of, and what its tests answer.
use Rattle.std.specs.Prelude.{◌≡◌, ℕ, List, [], Bool, true, Ok}
use Rattle.std.specs.List.{filter}
use Rattle.c_meaning.specs.Value.{Sight, all_hold}
use Rattle.nest_tree.specs.declared.kernel.Kernel.{Kernel}
use Rattle.nest_tree.specs.declared.kernel.KernelRow.{KernelRow}
use Rattle.nest_tree.specs.Lists.{IsIn}
use Rattle.scan_forms.specs.declared.claim.Claim.{Claim}
use Rattle.scan_forms.specs.declared.reads.Read.{Read}
use Rattle.scanning.specs.Named.{named}
use Rattle.scanning.specs.Written.{tests_printed, cell_printed, body_printed}
use Rattle.scanning.specs.Parts.{Part, Around, Assigned, context_of, sizes_of, at_of}
use Rattle.scanning.specs.Assignments.{with_rows, is_open}
use Rattle.scanning.specs.Asked.{gained}
use Rattle.scanning_laws.specs.Asking.{AllHold, InnerFirst}
use Rattle.scanning_laws.specs.Tested.{TestsSay}

pub record IsAssigned (k : Kernel) (table : List Read) (a : Around) (p : Part) (x : Assigned) : Type 0 where
  pub tests : tests_printed k table p.order (sizes_of a) p.number (gained (context_of a) (with_rows k table a p)) ≡ Ok x.tests
  pub target : cell_printed k table p.order (sizes_of a) p.number ((p.nest).target).array (at_of k table p.nest (p.nest).target) ≡ Ok x.target
  pub how : x.how ≡ (p.nest).how
  pub value : body_printed k table p.order (sizes_of a) p.number (at_of k table p.nest) (p.nest).value ≡ Ok x.value

-- at a point: the reads that a claim names come inner ones first, and where they are found, it can be read
pub record IsNamed (table : List Read) (Readable : Claim → Type 0) (Found : ℕ → Type 0) (IsInner : ℕ → ℕ → Type 0) (x : Claim) : Type 0 where
  pub inner_first : InnerFirst IsInner (named table [] x.form) []
  pub readable : ((i : ℕ) → IsIn i (named table [] x.form) → Found i) → Readable x

-- where the context's claims hold, the tests around an assignment have an answer; it is true exactly where all that they are holds, and then each open row holds
abbrev pub AssignedAsks : (k : Kernel) (table : List Read) (Readable Holding : Claim → Type 0) (Found : ℕ → Type 0) (IsInner : ℕ → ℕ → Type 0) → Sight → Type 0
AssignedAsks k table Readable Holding Found IsInner s =
    (a : Around) (p : Part) (x : Assigned) → IsAssigned k table a p x → AllHold Readable Holding (context_of a)
    → ((r : KernelRow × Claim) → IsIn r (filter (is_open k table a p) p.rows) → IsNamed table Readable Found IsInner r.1)
    → TestsSay k table p.order (sizes_of a) p.number Readable Holding s
    → (b : Bool) × (all_hold x.tests s ≡ Ok b)
    × (b ≡ true → (r : KernelRow × Claim) → IsIn r (filter (is_open k table a p) p.rows) → Readable r.1 × Holding r.1)
    × (((y : Claim) → IsIn y (gained (context_of a) (with_rows k table a p)) → Holding y) → b ≡ true)
