-- The rows that a range says of a form.
use Rattle.std.specs.Prelude.{ℕ, Bool, false, cond, nat_eq, List, map, ℤ, pos, Option, Some, None}
use Rattle.std.specs.List.{range_with_len}
use Rattle.int_rows.specs.declared.row.Aff.{Aff}
use Rattle.int_rows.specs.declared.row.Row.{Row}
use Rattle.nest_systems.specs.declared.range.Span.{Span}
use Rattle.nest_systems.specs.Sums.{number_at, stopped_sum, stopped_difference, stopped_product}

abbrev pub unit_if : Bool → ℤ
unit_if b = cond b (pos 1) (pos 0)

-- the variable is the one that there may be
abbrev pub is_there : ℕ → Option ℕ → Bool
is_there v (Some w) = nat_eq w v
is_there v None = false

unfoldable pub low_number : Span → List ℤ → ℕ → ℤ
low_number s cs v = stopped_sum (number_at s.low.coefs v) (stopped_product s.low_times (number_at cs v))

unfoldable pub high_number : Span → List ℤ → Option ℕ → ℕ → ℤ
high_number s cs count v =
    stopped_sum (stopped_difference (number_at s.high.coefs v) (stopped_product s.high_times (number_at cs v))) (unit_if (is_there v count))

-- low_times*x + low >= 0, over so many variables
unfoldable pub low_row : Span → Aff → ℕ → Row
low_row s f vars = record {
  equal = false;
  form = record {
    coefs = map (low_number s f.coefs) (range_with_len 0 vars);
    constant = stopped_sum s.low.constant (stopped_product s.low_times f.constant);
  };
}

-- high + count[0] - high_times*x >= 0, where count[0] is that variable
unfoldable pub high_row : Span → Aff → Option ℕ → ℕ → Row
high_row s f count vars = record {
  equal = false;
  form = record {
    coefs = map (high_number s f.coefs count) (range_with_len 0 vars);
    constant = stopped_difference s.high.constant (stopped_product s.high_times f.constant);
  };
}

abbrev pub unit_at : ℕ → ℕ → ℤ
unit_at var v = unit_if (nat_eq v var)

-- the form that is one variable
unfoldable pub unit_form : ℕ → ℕ → Aff
unit_form var vars = record { coefs = map (unit_at var) (range_with_len 0 vars); constant = pos 0 }
