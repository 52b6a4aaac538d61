-- The worked context, computed, and by the law.
use Rattle.std.proofs.Common.{◌≡◌, inl, inr, ℕ, zero, suc, [], refl, sym, ap, subst, arith, pos, true, false}
use Rattle.std.specs.Prelude.{slice_get}
use Rattle.std.proofs.lemmas.Int.{ints}
use Rattle.int_rows.specs.Elimination as elimination
use Rattle.int_rows.specs.Exclusion as exclusion
use Rattle.int_rows.specs.Gcd as gcd
use Rattle.int_rows.specs.Systems as systems
use Rattle.nest_systems.specs.Begun as begun
use Rattle.nest_systems.specs.Choosing as choosing
use Rattle.nest_systems.specs.Parts as parts
use Rattle.nest_systems.specs.Placing as placing
use Rattle.nest_systems.specs.Ranges as ranges
use Rattle.nest_systems.specs.Spans as spans
use Rattle.nest_systems.specs.Sums as sums
use Rattle.point_laws.specs.Seats as seats
use Rattle.nest_tree.specs.Lists.{IsIn}
use Rattle.scan_forms.specs.declared.affine.Affine.{Affine}
use Rattle.scan_forms.specs.declared.claim.Claim.{Claim}
use Rattle.scan_forms.specs.Numbers.{number_at}
use Rattle.scanning.specs.Kernels.{product}
use Rattle.scanning.specs.Named.{arguments}
use Rattle.scanning_laws.specs.Examples.{nested_reads}
use Rattle.scanning.specs.Asked.{context_implies}
use Rattle.scanning.specs.Projections.{is_implied}
use Rattle.scanning_laws.specs.Asking.{AllHold}
use Rattle.scanning_laws.specs.Naming.{IsTable}
use Rattle.printed_laws.specs.Opened.{Readable, Holding, Found, RestsOn}
use Rattle.implied_laws.specs.Examples.{input}
use Rattle.implied_laws.proofs.Worked.{ranged}
use Rattle.printed_laws.specs.Examples as printed
use Rattle.asked_laws.specs.Examples.{kernel, context, some, levels, WorkedContext, WorkedRanges}
use Rattle.asked_laws.proofs.Asked.{implied_claims_hold}
use Rattle.asked_laws.proofs.Ranges.{ranges_readable}

holding : AllHold (Readable input [] levels) (Holding input [] levels) context
holding c (inl e) = subst (λ (x : Claim). Readable input [] levels x × Holding input [] levels x) (sym e) (record { found = refl; before = refl }, omega (arith, ints))
holding c (inr (inl e)) = subst (λ (x : Claim). Readable input [] levels x × Holding input [] levels x) (sym e) (record { found = refl; before = refl }, omega (arith, ints))
holding c (inr (inr m)) = absurd m

readable : Readable input [] levels some
readable = record { found = refl; before = refl }

no_reads : IsTable []
no_reads j i n = absurd n.is_in

implied : context_implies kernel [] context some.form ≡ true
unfolding is_implied systems.implied systems.pushed systems.excluded exclusion.exclusion exclusion.is_impossible elimination.canceled elimination.reduced elimination.outcome elimination.made_small elimination.paired elimination.made elimination.merged elimination.elimination gcd.gcd gcd.gcd_of
    seats.placed seats.seated_number placing.small_total begun.begun_rows choosing.chosen_of choosing.meet_term choosing.with_counts parts.extended_terms parts.value_rows sums.number_at spans.unit_form
implied = refl

pub worked : WorkedContext
worked = (ranged, holding, readable, implied, implied_claims_hold kernel input [] levels context some refl ranged no_reads (omega arith) holding refl implied readable)

-- ---- the column of a row's first entry
inner_found : (l : ℕ) → RestsOn nested_reads printed.levels l 1 → Found printed.input nested_reads printed.levels l
inner_found l (inl n) = first l n.form n.is_in n.held
  where
    first : (l : ℕ) (f : Affine) → IsIn f (arguments (slice_get nested_reads 1)) → (number_at l f.reads ≡ pos 0 → ⊥) → Found printed.input nested_reads printed.levels l
    first zero f m h = (refl, refl)
    first (suc l) f (inl q) h = absurd (h (ap (λ (g : Affine). number_at (suc l) g.reads) q))
    first (suc l) f (inr m) h = absurd m
inner_found l (inr n) = absurd (let no : true ≡ false = n.1 in cc)

pub worked_ranges : WorkedRanges
unfolding ranges.argument_span
worked_ranges = (refl, ranges_readable product printed.input nested_reads printed.levels 1 refl inner_found)
