-- Sums of multiples of factors, as they are printed.
use Rattle.std.specs.Prelude.{ℕ, ◌^◌, Bool, true, false, cond, nat_le, ℤ, pos, unsigned_abs, Option, Some, None, Result, Ok, Err}
use Rattle.std.specs.Ordering.{int_eq}
use Rattle.std.specs.Int.Signed.{lt_z}
use Rattle.c_tree.specs.declared.index.Index.{Index}
use Rattle.c_tree.specs.declared.index.Index.TheVariants.{Const, Neg, Plus, Minus, Times}
use Rattle.scan_forms.specs.declared.fault.ScanFault.{ScanFault}
use Rattle.scan_forms.specs.declared.fault.ScanFault.TheVariants.{Size}
use Rattle.nest_core.specs.Making.{after}
use Rattle.scan_forms.specs.Numbers.{is_zero}

-- the size of a number that is printed for a statement, at most 2^62
unfoldable pub printed_size : ℕ → ℤ → Result ℤ ScanFault
printed_size s z = cond (nat_le (unsigned_abs z) (2 ^ 62)) (Ok (pos (unsigned_abs z))) (Err (Size s))

-- a size of at most 2^62
abbrev pub judged_size : ℕ → ℕ → Result (Unit {0}) ScanFault
judged_size s n = cond (nat_le n (2 ^ 62)) (Ok tt) (Err (Size s))

-- 1 isn't printed in front of a factor
abbrev pub multiple : ℤ → Index → Index
multiple n e = cond (int_eq n (pos 1)) e (Times n e)

-- a sum begins with its first part, or with its opposite
abbrev pub first_part : Bool → Index → Index
first_part false p = p
first_part true p = Neg p

-- a later part is added or taken away
abbrev pub next_part : Index → Bool → Index → Index
next_part s false p = Plus s p
next_part s true p = Minus s p

abbrev pub joined : Option Index → Bool → Index → Index
joined None negative p = first_part negative p
joined (Some s) negative p = next_part s negative p

-- the sum with a multiple of a factor; one of 0 is left out
unfoldable pub with_summand : ℕ → Option Index → ℤ → Index → Result (Option Index) ScanFault
with_summand s sum z e = after (printed_size s z) (λ n. Ok (cond (is_zero n) sum (Some (joined sum (lt_z z (pos 0)) (multiple n e)))))

-- the sum with a constant; 0 is left out, but an empty sum is 0
abbrev pub closed : Option Index → Bool → ℤ → Index
closed (Some s) negative n = cond (is_zero n) s (next_part s negative (Const n))
closed None negative n = first_part negative (Const n)

unfoldable pub with_constant : ℕ → Option Index → ℤ → Result Index ScanFault
with_constant s sum z = after (printed_size s z) (λ n. Ok (closed sum (lt_z z (pos 0)) n))
