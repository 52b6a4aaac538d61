-- What is said against a source: the first fault counts.
use Rattle.std.specs.Prelude.{ℕ, ℤ, unsigned_abs, Bool, cond, nat_lt, List, [], ◌∷◌, map, Option, Some, None}
use Rattle.c_judge.specs.Limits.{capped}
use Rattle.source_limits.specs.declared.fault.SourceWhat.{SourceWhat}
use Rattle.source_limits.specs.declared.fault.SourceFault.{SourceFault}
use Rattle.source_limits.specs.declared.fault.SourceFault.TheVariants.{Limit}

-- nothing, or a fault
abbrev pub Judged : Type 0
Judged = Option SourceFault

-- the first fault counts
unfoldable pub first : List Judged → Judged
first [] = None
first (Some f ∷ js) = Some f
first (None ∷ js) = first js

-- a fault, unless that is so
abbrev pub unless : Bool → SourceFault → Judged
unless b f = cond b None (Some f)

-- a count is within its limit
abbrev pub at_most : ℕ → SourceWhat → ℕ → Judged
at_most most what n = cond (nat_lt most n) (Some (Limit what (capped n))) None

-- numbers are, each in turn
abbrev pub all_at_most : ℕ → SourceWhat → List ℤ → Judged
all_at_most most what zs = first (map (λ z. at_most most what (unsigned_abs z)) zs)
