-- Tests one after another: what is asked of reads, and then of rows, where what they need is found.
use Rattle.std.specs.Prelude.{◌≡◌, ℕ, List, [], ◌∷◌, ◌++◌, true, false}
use Rattle.nest_tree.specs.declared.kernel.Kernel.{Kernel}
use Rattle.nest_tree.specs.Lists.{IsIn}
use Rattle.scan_forms.specs.declared.claim.Claim.{Claim}
use Rattle.scan_forms.specs.declared.reads.Read.{Read}
use Rattle.std.specs.Prelude.{slice_get}
use Rattle.scanning.specs.Ranges.{read_claims}
use Rattle.scanning.specs.Asked.{context_implies, asked}

-- Each claim can be read where those before it are true; where all are, Q.
abbrev pub InOrder : (Claim → Type 0) → (Claim → Type 0) → List Claim → Type 0 → Type 0
InOrder Readable Holding [] Q = Q
InOrder Readable Holding (x ∷ xs) Q = Readable x × (Holding x → InOrder Readable Holding xs Q)

-- a context all of whose claims can be read and hold
abbrev pub AllHold : (Claim → Type 0) → (Claim → Type 0) → List Claim → Type 0
AllHold Readable Holding context = (x : Claim) → IsIn x context → Readable x × Holding x

-- each read stands behind those in its arguments
abbrev pub InnerFirst : (ℕ → ℕ → Type 0) → List ℕ → List ℕ → Type 0
InnerFirst IsInner [] found = Unit
InnerFirst IsInner (i ∷ reads) found = ((j : ℕ) → IsInner j i → IsIn j found) × InnerFirst IsInner reads (i ∷ found)

-- at a point: which claims can be read and which hold, which reads find their cells, and which reads stand in another's arguments
pub record IsAsking (k : Kernel) (table : List Read) (Readable Holding : Claim → Type 0) (Found : ℕ → Type 0) (IsInner : ℕ → ℕ → Type 0) : Type 0 where
  -- an inequality that is implied holds
  pub implied : (context : List Claim) (x : Claim) → x.equal ≡ false → context_implies k table context x.form ≡ true → AllHold Readable Holding context → Readable x → Holding x
  -- the rows of a read's ranges name only reads in its arguments
  pub opens : (i : ℕ) → ((j : ℕ) → IsInner j i → Found j) → (x : Claim) → IsIn x (read_claims k table (slice_get table i)) → Readable x
  -- a read whose arguments are in their ranges finds its cell
  pub finds : (i : ℕ) → ((j : ℕ) → IsInner j i → Found j) → ((x : Claim) → IsIn x (read_claims k table (slice_get table i)) → Holding x) → Found i

-- what asking for reads adds to a context whose claims hold can be read test by test, and where all tests are true, the reads are found
abbrev pub AskedIsFound : (k : Kernel) (table : List Read) (Readable Holding : Claim → Type 0) (Found : ℕ → Type 0) (IsInner : ℕ → ℕ → Type 0) → Type 0
AskedIsFound k table Readable Holding Found IsInner =
    (context : List Claim) (reads : List ℕ) → AllHold Readable Holding context → InnerFirst IsInner reads []
    → (more : List Claim) × (asked k table context reads ≡ context ++ more) × InOrder Readable Holding more ((i : ℕ) → IsIn i reads → Found i)
