-- The worked rows, computed by the definitions.
use Rattle.std.proofs.Common.{◌≡◌, ℤ, pos, negsuc, true, false, List, [], ◌∷◌, refl, ◌^◌, ◌-◌}
use Rattle.std.specs.Prelude.{Ok, Err}
use Rattle.int_rows.specs.Gcd.{gcd, gcd_of}
use Rattle.int_rows.specs.Elimination.{elimination, made, paired, canceled, outcome, reduced, merged, made_small}
use Rattle.int_rows.specs.Exclusion.{exclusion, is_impossible}
use Rattle.int_rows.specs.declared.row.Row.{Row}
use Rattle.int_rows.specs.declared.row.Excess.TheVariants.{Large}

abbrev at_least : List ℤ → ℤ → Row
at_least cs k = record { equal = false; form = record { coefs = cs; constant = k } }

abbrev equals : List ℤ → ℤ → Row
equals cs k = record { equal = true; form = record { coefs = cs; constant = k } }

first_row : elimination 1 (at_least (pos 2 ∷ pos 3 ∷ []) (negsuc 4) ∷ at_least (negsuc 0 ∷ negsuc 1 ∷ []) (pos 4) ∷ []) ≡ Ok (at_least (pos 1 ∷ pos 0 ∷ []) (pos 2) ∷ [])
unfolding elimination made paired canceled outcome reduced merged made_small gcd gcd_of
first_row = refl

second_row : elimination 0 (equals (pos 2 ∷ pos 1 ∷ []) (negsuc 3) ∷ at_least (pos 3 ∷ pos 0 ∷ []) (pos 1) ∷ []) ≡ Ok (at_least (pos 0 ∷ negsuc 2 ∷ []) (pos 14) ∷ [])
unfolding elimination made paired canceled outcome reduced merged made_small gcd gcd_of
second_row = refl

third_row : exclusion 1 (equals (pos 2 ∷ []) (negsuc 0) ∷ []) ≡ Ok true
unfolding exclusion is_impossible elimination made paired canceled outcome reduced merged made_small gcd gcd_of
third_row = refl

fourth_row : exclusion 1 (at_least (pos 2 ∷ []) (negsuc 0) ∷ at_least (negsuc 1 ∷ []) (pos 1) ∷ []) ≡ Ok false
unfolding exclusion is_impossible elimination made paired canceled outcome reduced merged made_small gcd gcd_of
fourth_row = refl

fifth_row : elimination 1 (at_least (pos 1 ∷ pos (2 ^ 100) ∷ []) (pos 0) ∷ at_least (pos 0 ∷ negsuc (2 ^ 100 - 2) ∷ []) (pos 0) ∷ []) ≡ Err (Large 1)
unfolding elimination made paired canceled outcome reduced merged made_small gcd gcd_of
fifth_row = refl
