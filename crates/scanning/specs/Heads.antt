-- The head of a loop, and the tests around it.
use Rattle.std.specs.Prelude.{ℕ, suc, max, true, false, List, [], ◌∷◌, ◌++◌, map, length, Result, Ok}
use Rattle.std.specs.List.{fold}
use Rattle.c_tree.specs.declared.index.Index.{Index}
use Rattle.nest_tree.specs.declared.kernel.Kernel.{Kernel}
use Rattle.nest_core.specs.Making.{after, before, each_made}
use Rattle.scan_forms.specs.declared.claim.Claim.{Claim}
use Rattle.scan_forms.specs.declared.reads.Read.{Read}
use Rattle.scan_forms.specs.declared.fault.ScanFault.{ScanFault}
use Rattle.loop_scan.specs.declared.sides.Sides.{Sides}
use Rattle.loop_scan.specs.Choices.{printed_sides, known_of}
use Rattle.loop_scan.specs.Nested.{nested}
use Rattle.scanning.specs.Named.{named}
use Rattle.scanning.specs.Asked.{gained, asked}
use Rattle.scanning.specs.Sizes.{Sizes}
use Rattle.scanning.specs.Written.{lower_printed, upper_printed, tests_printed}
use Rattle.scanning.specs.Parts.{Part, Opened, Around, context_of, sizes_of, number_of}
use Rattle.scanning.specs.Sides.{all_sides, newly_settled, judged_wide}

abbrev pub greatest : List ℕ → ℕ
greatest [] = 0
greatest (n ∷ ns) = max n (greatest ns)

abbrev pub order_of : List Sides → List ℕ
order_of [] = []
order_of (s ∷ ss) = s.order

module _ (k : Kernel) (table : List Read) where
  -- the bounds of one statement: the greatest lower bound and the least upper one, with the greatest size
  abbrev pub own_head : Sizes → Part → Sides → Result (Index × Index × ℕ) ScanFault
  own_head sizes p s =
      after (each_made (lower_printed k table s.order sizes p.number) (s.bounds).lower) (λ lows.
      after (each_made (upper_printed k table s.order sizes p.number) (s.bounds).upper) (λ highs.
      Ok (nested true (map (λ b. b.0) lows), nested false (map (λ b. b.0) highs), greatest (map (λ b. b.1) (lows ++ highs)))))

  abbrev pub own_heads : Sizes → List Part → List Sides → Result (List (Index × Index × ℕ)) ScanFault
  own_heads sizes [] ss = Ok []
  own_heads sizes (p ∷ ps) [] = Ok []
  own_heads sizes (p ∷ ps) (s ∷ ss) = before (own_head sizes p s) (own_heads sizes ps ss)

  -- the reads of lower bounds and then of upper ones
  abbrev pub bound_reads : List Sides → List ℕ
  bound_reads ss =
      fold (λ ns s. fold (λ ms b. named table ms b.form) ns (s.bounds).upper)
      (fold (λ ns s. fold (λ ms b. named table ms b.form) ns (s.bounds).lower) [] ss) ss

  -- a loop by the sides that are printed: the least of the statements' lower bounds and the greatest of their upper ones, under
  -- tests of the reads
  abbrev pub opened_by : Around → List Part → List Sides → (ℕ → List Claim) → Result Opened ScanFault
  opened_by a ps printed settled =
      let claims = gained (context_of a) (asked k table (context_of a) (bound_reads printed)) in
      after (own_heads (sizes_of a) ps printed) (λ heads.
      after (tests_printed k table (order_of printed) (sizes_of a) (number_of ps) claims) (λ tests.
      Ok (record {
        low = nested false (map (λ h. h.0) heads);
        high = nested true (map (λ h. h.1) heads);
        size = greatest (map (λ h. h.2) heads);
        tests = tests;
        asked = claims;
        known = known_of printed;
        settled = settled;
      })))

  abbrev pub opened : Around → List Part → Result Opened ScanFault
  opened a ps =
      let q = suc (length a) in
      after (all_sides k table (context_of a) q ps) (λ ss. after (judged_wide q ps ss) (λ u. opened_by a ps (printed_sides ss) (newly_settled k table q ps ss)))
