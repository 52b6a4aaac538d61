-- What the safe reads of a loop decide: which rows may bound it, and which terms stay where a statement's rows are projected.
use Rattle.std.specs.Prelude.{ℕ, zero, suc, ◌+◌, nat_le, Result, Ok, Bool, true, false, List, [], ◌∷◌, ℤ, ◌&&◌, ◌||◌, not, nat_eq, filter, Option}
use Rattle.std.specs.List.{list_any}
use Rattle.scan_forms.specs.declared.affine.Affine.{Affine}
use Rattle.scan_forms.specs.declared.claim.Claim.{Claim}
use Rattle.scan_forms.specs.Numbers.{is_zero}
use Rattle.int_rows.specs.declared.row.Excess.{Excess}
use Rattle.int_rows.specs.Systems.{Rows, eliminated}
use Rattle.nest_core.specs.Making.{after}
use Rattle.nest_systems.specs.declared.seats.Seats.{Seats}
use Rattle.nest_systems.specs.Spans.{is_there}
use Rattle.loop_scan.specs.declared.project.Candidate.{Candidate}

-- a read is among the safe ones
abbrev pub is_safe : List ℕ → ℕ → Bool
is_safe safe i = list_any (nat_eq i) safe

-- each read that has a number other than 0 is safe; the numbers are those of the reads from one on
abbrev pub are_safe : List ℕ → ℕ → List ℤ → Bool
are_safe safe i [] = true
are_safe safe i (z ∷ zs) = (is_zero z || is_safe safe i) && are_safe safe (suc i) zs

-- each read that a form holds is safe
abbrev pub holds_safe : List ℕ → Affine → Bool
holds_safe safe f = are_safe safe 0 f.reads

-- the rows that hold only safe reads
abbrev pub with_safe : List ℕ → List Claim → List Claim
with_safe safe cs = filter (λ c. holds_safe safe c.form) cs

-- a term stays where it is ready, and in a loop of several statements also safe; the others are eliminated
abbrev pub is_kept : Bool → List ℕ → Candidate → Bool
is_kept several safe t = t.ready && (not several || is_safe safe t.read)

-- one of the terms that stay stands at the variable; the terms stand at these variables
abbrev pub stays : List (Option ℕ) → List Bool → ℕ → Bool
stays [] ks v = false
stays (o ∷ os) [] v = false
stays (o ∷ os) (k ∷ ks) v = (k && is_there v o) || stays os ks v

-- a variable is that of a term that stays
abbrev pub stays_at : Seats → List Bool → ℕ → Bool
stays_at s kept v = nat_le (s.params + s.levels) v && stays s.terms kept v

-- a variable is eliminated, unless it stays
abbrev pub without_one : (ℕ → Bool) → ℕ → Rows → Result Rows Excess
without_one keeps v s = elim (keeps v) as (λ b. Result Rows Excess) [ true ↦ Ok s | false ↦ eliminated v s ]

-- so many variables from one on are eliminated, the last one first, but for those that stay
abbrev pub without_later : (ℕ → Bool) → ℕ → ℕ → Rows → Result Rows Excess
without_later keeps first zero s = Ok s
without_later keeps first (suc n) s = after (without_one keeps (first + n) s) (without_later keeps first n)
