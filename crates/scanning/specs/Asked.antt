-- What a context implies, and what has to be tested before reads.
use Rattle.std.specs.Prelude.{ℕ, Bool, true, false, List, [], ◌∷◌, ◌++◌, map, length, drop, slice_get, Option, Some, None}
use Rattle.std.specs.List.{range_with_len, fold, filter_map}
use Rattle.int_rows.specs.declared.row.Aff.{Aff}
use Rattle.int_rows.specs.declared.row.Row.{Row}
use Rattle.nest_tree.specs.declared.kernel.Kernel.{Kernel}
use Rattle.nest_tree.specs.declared.kernel.Term.{Term}
use Rattle.scan_forms.specs.declared.affine.Affine.{Affine}
use Rattle.scan_forms.specs.declared.claim.Claim.{Claim}
use Rattle.scan_forms.specs.declared.reads.Read.{Read}
use Rattle.scan_forms.specs.Numbers.{number_at}
use Rattle.scanning.specs.Named.{named, inner_named, with_new}
use Rattle.scanning.specs.Projections.{is_implied}
use Rattle.scanning.specs.Ranges.{read_claims}

-- what is asked of a context before reads
abbrev pub gained : List Claim → List Claim → List Claim
gained context more = drop (length context) more

abbrev pub is_nothing : List Claim → Bool
is_nothing [] = true
is_nothing (c ∷ cs) = false

module _ (k : Kernel) (table : List Read) where
  -- a form over the parameters, 8 levels and chosen reads
  abbrev pub local_form : List ℕ → Affine → Aff
  local_form chosen f = record {
    coefs = map (λ i. number_at i f.params) (range_with_len 0 (length k.head.params))
        ++ map (λ i. number_at i f.levels) (range_with_len 0 8) ++ map (λ i. number_at i f.reads) chosen;
    constant = f.constant;
  }

  abbrev pub local_row : List ℕ → Claim → Row
  local_row chosen c = record { equal = c.equal; form = local_form chosen c.form }

  abbrev pub local_term : List ℕ → Read → Term
  local_term chosen r = record { array = r.array; at = map (local_form chosen) r.at }

  abbrev pub local_read : List ℕ → Option Read → Option Term
  local_read chosen (Some r) = Some (local_term chosen r)
  local_read chosen None = None

  abbrev pub local_terms : List ℕ → List Term
  local_terms chosen = filter_map (λ i. local_read chosen (slice_get table i)) chosen

  -- a context implies that a form is at least 0
  abbrev pub context_implies : List Claim → Affine → Bool
  context_implies context f =
      let chosen = named table (fold (λ ns c. named table ns c.form) [] context) f in
      is_implied k.head k.made 8 (local_terms chosen) (map (local_row chosen) context) (local_form chosen f)

  -- ---- a context with what has to be tested
  abbrev pub with_claim : List Claim → Claim → List Claim
  with_claim context c = elim (context_implies context c.form) as (λ b. List Claim) [ true ↦ context | false ↦ context ++ c ∷ [] ]

  -- before reads: the rows of their arguments' ranges that the context doesn't imply
  abbrev pub asked_read : List Claim → ℕ → List Claim
  asked_read context i = fold with_claim context (read_claims k table (slice_get table i))

  abbrev pub asked : List Claim → List ℕ → List Claim
  asked context reads = fold asked_read context reads

  -- before a form
  abbrev pub asked_form : List Claim → Affine → List Claim
  asked_form context f = asked context (named table [] f)

  -- ---- what is safe: nothing has to be tested for it
  -- a read is safe where the context implies all rows of its ranges, and those of the reads in its arguments
  abbrev pub is_safe : List Claim → ℕ → Bool
  is_safe context i = is_nothing (gained context (asked context (with_new (inner_named table [] i) i)))

  -- each read that a form names is safe
  abbrev pub holds_safe : List Claim → Affine → Bool
  holds_safe context f = is_nothing (gained context (asked_form context f))
