-- An assignment and the tests around it.
use Rattle.std.specs.Prelude.{Bool, not, ◌||◌, nat_eq, List, [], ◌∷◌, ◌++◌, Result, Ok}
use Rattle.std.specs.List.{filter, fold}
use Rattle.nest_tree.specs.declared.kernel.Kernel.{Kernel}
use Rattle.nest_tree.specs.declared.kernel.KernelRow.{KernelRow}
use Rattle.nest_core.specs.Making.{after}
use Rattle.scan_forms.specs.declared.claim.Claim.{Claim}
use Rattle.scan_forms.specs.declared.reads.Read.{Read}
use Rattle.scan_forms.specs.declared.fault.ScanFault.{ScanFault}
use Rattle.scan_forms.specs.Forms.{has_claim}
use Rattle.scanning.specs.Asked.{gained, asked_form}
use Rattle.scanning.specs.Written.{tests_printed, cell_printed, body_printed}
use Rattle.scanning.specs.Parts.{Part, Around, Assigned, context_of, sizes_of, settled_in, at_of}

module _ (k : Kernel) (table : List Read) where
  -- a row is still to be tested, unless it is a bound that a loop around says
  abbrev pub is_open : Around → Part → KernelRow × Claim → Bool
  is_open a p r = nat_eq (r.0).own 0 || not (has_claim (settled_in a p.number) r.1)

  -- the context with the rows that no loop says, each behind what its reads need
  abbrev pub with_rows : Around → Part → List Claim
  with_rows a p = fold (λ context r. asked_form k table context (r.1).form ++ r.1 ∷ []) (context_of a) (filter (is_open a p) p.rows)

  abbrev pub assignment : Around → Part → Result Assigned ScanFault
  assignment a p =
      after (tests_printed k table p.order (sizes_of a) p.number (gained (context_of a) (with_rows a p))) (λ tests.
      after (cell_printed k table p.order (sizes_of a) p.number ((p.nest).target).array (at_of k table p.nest (p.nest).target)) (λ target.
      after (body_printed k table p.order (sizes_of a) p.number (at_of k table p.nest) (p.nest).value) (λ value.
      Ok (record { tests = tests; target = target; how = (p.nest).how; value = value }))))
