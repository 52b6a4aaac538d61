-- The rows of the ranges of arguments, over the table.
use Rattle.std.specs.Prelude.{ℕ, ◌+◌, false, List, [], ◌∷◌, ◌++◌, map, length, ℤ, pos, Option, Some, None}
use Rattle.std.specs.List.{range_with_len, position_from}
use Rattle.nest_tree.specs.declared.kernel.Kernel.{Kernel}
use Rattle.nest_systems.specs.declared.range.Span.{Span}
use Rattle.nest_systems.specs.Ranges.{argument_span}
use Rattle.nest_systems.specs.Sums.{stopped_sum, stopped_difference, stopped_product}
use Rattle.scan_forms.specs.declared.affine.Affine.{Affine}
use Rattle.scan_forms.specs.declared.claim.Claim.{Claim}
use Rattle.scan_forms.specs.declared.reads.Read.{Read}
use Rattle.scan_forms.specs.Numbers.{number_at}
use Rattle.scanning.specs.Reads.{same_read, more_at}
use Rattle.scanning.specs.Tables.{first_cell}

abbrev pub multiples : ℤ → List ℤ → List ℤ
multiples m zs = map (stopped_product m) zs

abbrev pub opposites : ℤ → List ℤ → List ℤ
opposites m zs = map (λ z. stopped_difference (pos 0) (stopped_product m z)) zs

-- a number for each parameter
abbrev pub sums : ℕ → (ℕ → ℤ) → List ℤ
sums params f = map f (range_with_len 0 params)

-- times*x + low >= 0
abbrev pub low_claim : ℕ → Span → Affine → Claim
low_claim params s x = record {
  equal = false;
  form = record {
    params = sums params (λ p. stopped_sum (number_at p s.low.coefs) (stopped_product s.low_times (number_at p x.params)));
    levels = multiples s.low_times x.levels;
    reads = multiples s.low_times x.reads;
    constant = stopped_sum s.low.constant (stopped_product s.low_times x.constant);
  };
}

abbrev pub with_count : List Read → Option (List ℕ) → List ℤ → List ℤ
with_count table (Some name) zs = more_at (position_from (same_read (first_cell name)) 0 table) (pos 1) zs
with_count table None zs = zs

-- high + count[0] - times*x >= 0
abbrev pub high_claim : List Read → ℕ → Span → Affine → Claim
high_claim table params s x = record {
  equal = false;
  form = record {
    params = sums params (λ p. stopped_difference (number_at p s.high.coefs) (stopped_product s.high_times (number_at p x.params)));
    levels = opposites s.high_times x.levels;
    reads = with_count table s.count (opposites s.high_times (map (λ i. number_at i x.reads) (range_with_len 0 (length table))));
    constant = stopped_difference s.high.constant (stopped_product s.high_times x.constant);
  };
}

module _ (k : Kernel) (table : List Read) where
  abbrev pub span_claims : Affine → Option Span → List Claim
  span_claims x (Some s) = low_claim (length k.head.params) s x ∷ high_claim table (length k.head.params) s x ∷ []
  span_claims x None = []

  -- the claims that a read's arguments are in their ranges, the lower one first
  abbrev pub argument_claims : List ℕ → ℕ → List Affine → List Claim
  argument_claims array place [] = []
  argument_claims array place (x ∷ xs) = span_claims x (argument_span k.head k.made array place) ++ argument_claims array (place + 1) xs

  abbrev pub read_claims : Option Read → List Claim
  read_claims (Some r) = argument_claims r.array 0 r.at
  read_claims None = []
