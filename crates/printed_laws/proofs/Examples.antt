-- The worked cases, by the laws.
use Rattle.std.proofs.Common.{◌≡◌, ℕ, zero, suc, ◌≤◌, ◌<◌, ◌^◌, [], ◌∷◌, refl, ◌∙◌, ap, subst, arith, ℤ, pos, unsigned_abs, Bool, true, false, slice_index_or, if◌then◌else◌}
use Rattle.std.specs.List.{AllByRecursion}
use Rattle.std.specs.Prelude.{Option, Some, None, Ok}
use Rattle.std.proofs.lemmas.Int.{ints}
use Rattle.c_meaning.specs.Names.{same_name}
use Rattle.c_meaning.specs.Value.{Answer, is_inside}
use Rattle.nest_laws.specs.Acts.{three}
use Rattle.scan_forms.specs.Numbers.{number_at}
use Rattle.scan_forms.specs.Sums as printing
use Rattle.scan_forms.specs.Bounds as bounds
use Rattle.scan_forms.specs.Bounds.{bounds_of}
use Rattle.scanning.specs.Kernels.{product, index}
use Rattle.scanning.specs.Written.{level_name}
use Rattle.scanning_laws.specs.Examples.{nested_reads}
use Rattle.printed_laws.specs.Printed.{Sees, CanBeRead}
use Rattle.printed_laws.specs.Seeing.{SeesOutside}
use Rattle.printed_laws.specs.Between.{IsRow, IsBetween}
use Rattle.printed_laws.specs.Examples.{sight, input, levels, sizes, twice_column, printed, eighth, asked, rows, scene, two_loops, WorkedForm, WorkedBound, WorkedTest, WorkedRows, WorkedLevels, WorkedSides, WorkedInnerRow}
use Rattle.printed_laws.proofs.Bounds.{forms_have_values, bounds_have_values, tests_say}
use Rattle.printed_laws.proofs.Between.{between}
use Rattle.printed_laws.proofs.Seeing.{loops_see}

one_or_two : (b c : Bool) (v : ℤ) → (if b then Some (if c then pos 1 else pos 2) else (let o : Option ℤ = None in o)) ≡ Some v → unsigned_abs v ≤ 2 ^ 24
one_or_two true true v h = let e : pos 1 ≡ v = ap value_in h in subst (λ (v : ℤ). unsigned_abs v ≤ 2 ^ 24) e (omega arith)
  where
    value_in : Option ℤ → ℤ
    value_in (Some v) = v
    value_in None = pos 0
one_or_two true false v h = let e : pos 2 ≡ v = ap value_in h in subst (λ (v : ℤ). unsigned_abs v ≤ 2 ^ 24) e (omega arith)
  where
    value_in : Option ℤ → ℤ
    value_in (Some v) = v
    value_in None = pos 0
one_or_two false c v h = cc

level_is : (q : ℕ) → q < 1 → (sight.value (level_name q) ≡ number_at q levels) × (unsigned_abs (number_at q levels) ≤ slice_index_or sizes q 0)
level_is zero h = (refl, omega arith)
level_is (suc q) h = absurd (omega (arith, h))

param_is : (p : ℕ) → p < 3 → (sight.value (slice_index_or product.head.params p []) ≡ number_at p input.params) × (unsigned_abs (number_at p input.params) ≤ 2 ^ 24)
param_is zero h = (refl, omega arith)
param_is (suc zero) h = (refl, omega arith)
param_is (suc (suc zero)) h = (refl, omega arith)
param_is (suc (suc (suc p))) h = absurd (omega (arith, h))

sees : Sees product input sizes levels sight
sees = record {
  few = omega arith;
  level = λ q h. (level_is q h).0;
  level_sized = λ q h. (level_is q h).1;
  count = refl;
  param = λ p h. (param_is p h).0;
  param_sized = λ p h. (param_is p h).1;
  cell = λ a at v h. (h, one_or_two (is_inside (three at) (pos 3 ∷ pos 1 ∷ pos 1 ∷ [])) (same_name a index) v h);
}

readable : CanBeRead input nested_reads levels twice_column
readable = record { found = refl; before = refl }

pub worked_form : WorkedForm
unfolding printing.with_summand printing.with_constant printing.printed_size
worked_form = (refl, refl, (forms_have_values product nested_reads [] sizes 0 sight input levels sees tt twice_column printed readable refl).value)

pub worked_bound : WorkedBound
unfolding printing.with_summand printing.with_constant printing.printed_size
worked_bound = (_, refl, ((bounds_have_values product nested_reads [] sizes 0 sight input levels sees tt eighth _ _ readable (omega (arith, ints))).0 refl).value)

pub worked_test : WorkedTest
unfolding printing.with_summand printing.with_constant printing.printed_size
worked_test =
    let r = tests_say product nested_reads [] sizes 0 sight input levels sees tt (record { equal = false; form = twice_column }) asked refl readable in
    (refl, r.1 ∙ ap (λ (b : Bool). (let o : Answer Bool = Ok b in o)) (r.3 (omega (arith, ints))))

are_rows : AllByRecursion (IsRow input nested_reads levels) rows
are_rows = (record { small = refl; levels = refl; found = refl; before = refl }, (record { small = refl; levels = refl; found = refl; before = refl }, tt))

pub worked_rows : WorkedRows
unfolding bounds.with_claim bounds.rising bounds.falling bounds.with_bound
worked_rows =
    let b : IsBetween input nested_reads levels (bounds_of 2 rows) (pos 2) = record { above = (omega (arith, ints), tt); below = (omega (arith, ints), tt) } in
    (refl, refl, ((between input nested_reads levels rows are_rows).1 (pos 2)).0 b)

apart_is : (p q : ℕ) → p < 3 → q < 8 → same_name (level_name q) (slice_index_or product.head.params p []) ≡ false
apart_is zero q h k = refl
apart_is (suc zero) q h k = refl
apart_is (suc (suc zero)) q h k = refl
apart_is (suc (suc (suc p))) q h k = absurd (omega (arith, h))

outside : SeesOutside product input scene
outside = record { count = refl; param = λ p h. (param_is p h).0; param_sized = λ p h. (param_is p h).1; apart = apart_is; cell = sees.cell }

pub worked_levels : WorkedLevels
worked_levels = (loops_see product input scene two_loops (pos 4 ∷ pos 7 ∷ []) outside (omega arith) refl (omega arith, (omega arith, tt)), refl, refl)

pub worked_sides : WorkedSides
unfolding bounds.with_claim bounds.rising bounds.falling bounds.with_bound
worked_sides = (
  record {
    order = (refl, (refl, tt));
    some_lower = λ h. cc;
    some_upper = λ h. cc;
    rows = (record { named = λ h. omega (arith, ints, h); small = refl; levels = refl; before = refl; fits = omega arith }, (record { named = λ h. omega (arith, ints, h); small = refl; levels = refl; before = refl; fits = omega arith }, tt));
  },
  refl,
  refl,
)

pub worked_inner_row : WorkedInnerRow
worked_inner_row = (record { before = refl; fits = omega arith }, refl)
