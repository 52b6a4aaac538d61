-- Each law at a small system.
use Rattle.std.proofs.Common.{◌≡◌, ℤ, pos, negsuc, ◌≤ℤ◌, true, false, List, [], ◌∷◌, refl, arith}
use Rattle.std.specs.Prelude.{Ok}
use Rattle.std.proofs.lemmas.Int.{ints}
use Rattle.int_rows.specs.Gcd.{gcd, gcd_of}
use Rattle.int_rows.specs.Rows.{value, Meets}
use Rattle.int_rows.specs.Elimination.{elimination, made, paired, canceled, outcome, reduced, merged, made_small}
use Rattle.int_rows.specs.Exclusion.{exclusion, is_impossible}
use Rattle.int_rows.specs.Systems.{Rows, pushed, substituted, excluded, implied}
use Rattle.int_rows.specs.Laws.{HasScaledPoint}
use Rattle.int_rows.specs.declared.row.Row.{Row}
use Rattle.int_rows.specs.declared.row.Aff.{Aff}
use Rattle.int_rows.proofs.FirstLaw.{elimination_keeps_points}
use Rattle.int_rows.proofs.Following.{no_point, implied_holds, substitution_moves}

abbrev form : List ℤ → ℤ → Aff
form cs k = record { coefs = cs; constant = k }

abbrev at_least : List ℤ → ℤ → Row
at_least cs k = record { equal = false; form = form cs k }

abbrev equals : List ℤ → ℤ → Row
equals cs k = record { equal = true; form = form cs k }

-- 2x + 3y - 5 >= 0 and -x - 2y + 4 >= 0 at (4, -1): y goes, and x + 2 >= 0 holds there too
abbrev pair : List Row
pair = at_least (pos 2 ∷ pos 3 ∷ []) (negsuc 4) ∷ at_least (negsuc 0 ∷ negsuc 1 ∷ []) (pos 4) ∷ []

pair-left : elimination 1 pair ≡ Ok (at_least (pos 1 ∷ pos 0 ∷ []) (pos 2) ∷ [])
unfolding elimination made paired canceled outcome reduced merged made_small gcd gcd_of
pair-left = refl

pair-point : Meets (pos 1) (pos 4 ∷ negsuc 0 ∷ []) (at_least (pos 1 ∷ pos 0 ∷ []) (pos 2) ∷ [])
pair-point = elimination_keeps_points (pos 1) (pos 4 ∷ negsuc 0 ∷ []) 1 pair _ pair-left (omega (arith, ints), (omega (arith, ints), tt))

-- 2x - 1 = 0 has no integer point
abbrev odd : Rows
odd = record { vars = 1; rows = equals (pos 2 ∷ []) (negsuc 0) ∷ [] }

odd-excluded : excluded odd ≡ Ok true
unfolding excluded exclusion is_impossible elimination made paired canceled outcome reduced merged made_small gcd gcd_of
odd-excluded = refl

odd-point : (p : List ℤ) → Meets (pos 1) p odd.rows → ⊥
odd-point p h = no_point odd p odd-excluded h

-- 2x - 1 >= 0 and -2x + 1 >= 0 have none either, and aren't excluded: 1 meets them when the constants are doubled
abbrev half : Rows
half = record { vars = 1; rows = at_least (pos 2 ∷ []) (negsuc 0) ∷ at_least (negsuc 1 ∷ []) (pos 1) ∷ [] }

half-excluded : excluded half ≡ Ok false
unfolding excluded exclusion is_impossible elimination made paired canceled outcome reduced merged made_small gcd gcd_of
half-excluded = refl

half-point : HasScaledPoint half
half-point = record { factor = pos 2; point = pos 1 ∷ []; some = omega (arith, ints); width = refl; meets = (omega (arith, ints), (omega (arith, ints), tt)) }

-- x - 3 >= 0 implies x - 1 >= 0
abbrev above : Rows
above = record { vars = 1; rows = at_least (pos 1 ∷ []) (negsuc 2) ∷ [] }

above-implied : implied above (form (pos 1 ∷ []) (negsuc 0)) ≡ Ok true
unfolding implied pushed excluded exclusion is_impossible elimination made paired canceled outcome reduced merged made_small gcd gcd_of
above-implied = refl

above-point : pos 0 ≤ℤ value (pos 1) (pos 5 ∷ []) (form (pos 1 ∷ []) (negsuc 0))
above-point = implied_holds above (form (pos 1 ∷ []) (negsuc 0)) (pos 5 ∷ []) above-implied (omega (arith, ints), tt)

-- x + 3y + 1 in place of x in 2x + y - 5 >= 0
abbrev line : Rows
line = record { vars = 2; rows = at_least (pos 2 ∷ pos 1 ∷ []) (negsuc 4) ∷ [] }

line-substituted : substituted 0 (form (pos 1 ∷ pos 3 ∷ []) (pos 1)) line ≡ Ok (record { vars = 2; rows = at_least (pos 2 ∷ pos 7 ∷ []) (negsuc 2) ∷ [] })
unfolding substituted
line-substituted = refl

line-point : Meets (pos 1) (pos 5 ∷ pos 1 ∷ []) line.rows
line-point = (substitution_moves (pos 1 ∷ pos 1 ∷ []) 0 (form (pos 1 ∷ pos 3 ∷ []) (pos 1)) line _ (omega arith) line-substituted).0 (omega (arith, ints), tt)
