-- What an opened loop is made of, and what its tests answer.
use Rattle.std.specs.Prelude.{◌≡◌, ℕ, suc, List, [], map, length, Bool, true, false, Ok}
use Rattle.c_tree.specs.declared.index.Index.{Index}
use Rattle.c_meaning.specs.Value.{Sight, all_hold}
use Rattle.nest_tree.specs.declared.kernel.Kernel.{Kernel}
use Rattle.nest_tree.specs.Lists.{IsIn}
use Rattle.scan_forms.specs.declared.claim.Claim.{Claim}
use Rattle.scan_forms.specs.declared.reads.Read.{Read}
use Rattle.loop_scan.specs.declared.sides.Sides.{Sides}
use Rattle.loop_scan.specs.Choices.{printed_sides, known_of}
use Rattle.loop_scan.specs.Nested.{nested}
use Rattle.scanning.specs.Asked.{asked, gained}
use Rattle.scanning.specs.Written.{tests_printed}
use Rattle.scanning.specs.Parts.{Part, Around, Opened, context_of, sizes_of, number_of}
use Rattle.scanning.specs.Sides.{all_sides, judged_wide, newly_settled}
use Rattle.scanning.specs.Heads.{own_heads, bound_reads, order_of, greatest}
use Rattle.scanning_laws.specs.Asking.{AllHold, InnerFirst}
use Rattle.scanning_laws.specs.Tested.{TestsSay}

pub record IsOpened (k : Kernel) (table : List Read) (a : Around) (ps : List Part) (o : Opened) : Type 0 where
  pub sides : List Sides
  pub heads : List (Index × Index × ℕ)
  pub are_sides : all_sides k table (context_of a) (suc (length a)) ps ≡ Ok sides
  pub not_wide : judged_wide (suc (length a)) ps sides ≡ Ok tt
  pub are_heads : own_heads k table (sizes_of a) ps (printed_sides sides) ≡ Ok heads
  pub low : o.low ≡ nested false (map (λ h. h.0) heads)
  pub high : o.high ≡ nested true (map (λ h. h.1) heads)
  pub size : o.size ≡ greatest (map (λ h. h.2) heads)
  pub asked_are : o.asked ≡ gained (context_of a) (asked k table (context_of a) (bound_reads k table (printed_sides sides)))
  pub tests : tests_printed k table (order_of (printed_sides sides)) (sizes_of a) (number_of ps) o.asked ≡ Ok o.tests
  pub known : o.known ≡ known_of (printed_sides sides)
  pub settled : o.settled ≡ newly_settled k table (suc (length a)) ps sides

-- where the context's claims hold, the tests around a loop have an answer; if it is true, the claims that they are hold and the reads of the bounds are found
abbrev pub OpenedAsks : (k : Kernel) (table : List Read) (Readable Holding : Claim → Type 0) (Found : ℕ → Type 0) (IsInner : ℕ → ℕ → Type 0) → Sight → Type 0
OpenedAsks k table Readable Holding Found IsInner s =
    (a : Around) (ps : List Part) (o : Opened) (w : IsOpened k table a ps o) → AllHold Readable Holding (context_of a) → InnerFirst IsInner (bound_reads k table (printed_sides w.sides)) []
    → TestsSay k table (order_of (printed_sides w.sides)) (sizes_of a) (number_of ps) Readable Holding s
    → (b : Bool) × (all_hold o.tests s ≡ Ok b)
    × (b ≡ true → ((x : Claim) → IsIn x o.asked → Readable x × Holding x) × ((i : ℕ) → IsIn i (bound_reads k table (printed_sides w.sides)) → Found i))
    × (((x : Claim) → IsIn x o.asked → Holding x) → b ≡ true)
