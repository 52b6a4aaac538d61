-- Tests that claims are, and what they answer.
use Rattle.std.specs.Prelude.{◌≡◌, ℕ, List, Bool, true, Ok}
use Rattle.c_tree.specs.declared.statement.Test.{Test}
use Rattle.c_meaning.specs.Value.{Sight, holds, all_hold}
use Rattle.nest_tree.specs.declared.kernel.Kernel.{Kernel}
use Rattle.nest_tree.specs.Lists.{IsIn}
use Rattle.scan_forms.specs.declared.claim.Claim.{Claim}
use Rattle.scan_forms.specs.declared.reads.Read.{Read}
use Rattle.scanning.specs.Sizes.{Sizes}
use Rattle.scanning.specs.Written.{test_printed, tests_printed}
use Rattle.scanning_laws.specs.Asking.{InOrder}

-- a claim that can be read is printed as a test that has an answer: whether it holds
abbrev pub TestsSay : Kernel → List Read → List ℕ → Sizes → ℕ → (Claim → Type 0) → (Claim → Type 0) → Sight → Type 0
TestsSay k table order sizes n Readable Holding s =
    (x : Claim) (t : Test) → test_printed k table order sizes n x ≡ Ok t → Readable x → (b : Bool) × (holds t s ≡ Ok b) × (b ≡ true → Holding x) × (Holding x → b ≡ true)

-- claims that can be read test by test are printed as tests that have an answer: it is true exactly where all of them hold, and Q holds then
abbrev pub OrderedClaimsHaveAnswer : Kernel → List Read → List ℕ → Sizes → ℕ → (Claim → Type 0) → (Claim → Type 0) → Sight → Type 1
OrderedClaimsHaveAnswer k table order sizes n Readable Holding s =
    (xs : List Claim) (ts : List Test) (Q : Type 0) → tests_printed k table order sizes n xs ≡ Ok ts → InOrder Readable Holding xs Q
    → (b : Bool) × (all_hold ts s ≡ Ok b) × (b ≡ true → ((x : Claim) → IsIn x xs → Readable x × Holding x) × Q) × (((x : Claim) → IsIn x xs → Holding x) → b ≡ true)
