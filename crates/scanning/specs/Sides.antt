-- From which rows each statement of a loop is bounded at a level, which counts from 1. The context is what is known around the loop.
use Rattle.std.specs.Prelude.{ℕ, Bool, true, false, cond, ◌&&◌, ◌||◌, nat_eq, nat_lt, List, [], ◌∷◌, ◌++◌, map, length, Option, Some, None, Result, Ok, Err}
use Rattle.std.specs.List.{filter, fold}
use Rattle.int_rows.specs.declared.row.Excess.{Excess}
use Rattle.nest_tree.specs.declared.kernel.Kernel.{Kernel}
use Rattle.nest_core.specs.Making.{after, each_made}
use Rattle.scan_forms.specs.declared.claim.Claim.{Claim}
use Rattle.scan_forms.specs.declared.reads.Read.{Read}
use Rattle.scan_forms.specs.declared.fault.ScanFault.{ScanFault}
use Rattle.scan_forms.specs.declared.fault.ScanFault.TheVariants.{Overflow, Wide}
use Rattle.scan_forms.specs.Forms.{has_claim}
use Rattle.scan_forms.specs.Bounds.{bounds_of}
use Rattle.loop_scan.specs.declared.sides.Sides.{Sides}
use Rattle.loop_scan.specs.Choices.{are_alike, has_lower, has_upper}
use Rattle.nest_tree.specs.declared.kernel.Term.{Term}
use Rattle.nest_systems.specs.declared.instance.Instance.{Instance}
use Rattle.scanning.specs.Reads.{Origin, claim_of, place_of}
use Rattle.scanning.specs.Projections.{Left, is_ready, is_direct, instance_at, left_at}
use Rattle.scanning.specs.Asked.{is_safe, holds_safe}
use Rattle.scanning.specs.Parts.{Part, push_place}

abbrev pub or_overflow : {A : Type 0} → Result A Excess → Result A ScanFault
or_overflow (Ok a) = Ok a
or_overflow (Err e) = Err (Overflow e)

abbrev pub several : List Part → Bool
several ps = nat_lt 1 (length ps)

-- more bounds of one side than are printed
abbrev pub is_wide : Sides → Bool
is_wide s = nat_lt 32 (length (s.bounds).lower) || nat_lt 32 (length (s.bounds).upper)

abbrev pub judged_wide : ℕ → List Part → List Sides → Result (Unit {0}) ScanFault
judged_wide q [] ss = Ok tt
judged_wide q (p ∷ ps) [] = Ok tt
judged_wide q (p ∷ ps) (s ∷ ss) = cond (is_wide s) (Err (Wide p.number q)) (judged_wide q ps ss)

module _ (k : Kernel) (table : List Read) where
  abbrev pub direct_claims : ℕ → Part → List Claim
  direct_claims q p =
      map (λ r. r.1) (filter (λ r. is_direct (length k.head.params) (length (p.nest).levels) (p.nest).terms q r.0) p.rows)

  abbrev pub sides_by : ℕ → List Claim → List ℕ → Sides
  sides_by q used order = record { used = used; order = order; bounds = bounds_of q used }

  -- ---- by projection
  -- the statement's system, with the forms of its subscripts
  abbrev pub instance_of_part : Part → Instance
  instance_of_part p = instance_at k.head k.made p.nest p.forms

  abbrev pub is_safe_place : List Claim → Option ℕ → Bool
  is_safe_place context (Some i) = is_safe k table context i
  is_safe_place context None = true

  abbrev pub origin_with : Part → List Term → Origin
  origin_with p terms = record { params = length k.head.params; levels = length (p.nest).levels; terms = terms }

  -- of the terms of its system: in a loop of one statement those that are ready stay, and in one of several those that are also safe
  abbrev pub is_kept : List Claim → ℕ → Bool → Part → List Term → Term → Bool
  is_kept context q several p all t = elim (is_ready (length k.head.params) (length (p.nest).levels) all q t) as (λ b. Bool) [
    | false ↦ false
    | true ↦ elim several as (λ b. Bool) [ false ↦ true | true ↦ is_safe_place context (place_of table (origin_with p all) t) ]
  ]

  abbrev pub kept_terms : List Claim → ℕ → Bool → Part → List Term → List Bool
  kept_terms context q several p all = map (is_kept context q several p all) all

  abbrev pub projected : List Claim → ℕ → Bool → Part → Instance → Result Left ScanFault
  projected context q several p i = or_overflow (left_at k.head k.made i q (kept_terms context q several p i.terms))

  abbrev pub left_sides : ℕ → Part → Left → Sides
  left_sides q p l =
      let o : Origin = origin_with p ((p.nest).terms ++ l.terms) in
      sides_by q (map (claim_of table o) l.rows) (fold (λ ns t. push_place (place_of table o t) ns) p.order l.terms)

  -- ---- by direct rows, where these bound the level on both sides, or else by projection
  abbrev pub sides_of : List Claim → ℕ → Bool → Part → List Claim → Result Sides ScanFault
  sides_of context q several p direct = elim (has_lower q direct && has_upper q direct) as (λ b. Result Sides ScanFault) [
    | true ↦ Ok (sides_by q direct p.order)
    | false ↦ after (projected context q several p (instance_of_part p)) (λ l. Ok (left_sides q p l))
  ]

  -- the direct rows of all statements are the same
  abbrev pub have_alike : ℕ → List Part → Bool
  have_alike q ps = are_alike (map (direct_claims q) ps)

  -- the rows from which a statement may be bounded: where the lists aren't alike, those that hold only safe reads
  abbrev pub bounding : List Claim → ℕ → List Part → Part → List Claim
  bounding context q ps p = elim (have_alike q ps) as (λ b. List Claim) [
    | true ↦ direct_claims q p
    | false ↦ filter (λ c. holds_safe k table context c.form) (direct_claims q p)
  ]

  abbrev pub all_sides : List Claim → ℕ → List Part → Result (List Sides) ScanFault
  all_sides context q ps = each_made (λ p. sides_of context q (several ps) p (bounding context q ps p)) ps

  -- where the lists are alike, the direct rows from which bounds were made are settled
  abbrev pub settled_by : ℕ → List Part → List Sides → ℕ → List Claim
  settled_by q [] ss s = []
  settled_by q (p ∷ ps) [] s = []
  settled_by q (p ∷ ps) (d ∷ ds) s = cond (nat_eq p.number s) (filter (has_claim d.used) (direct_claims q p)) (settled_by q ps ds s)

  abbrev pub newly_settled : ℕ → List Part → List Sides → ℕ → List Claim
  newly_settled q ps ss s = cond (have_alike q ps) (settled_by q ps ss s) []
