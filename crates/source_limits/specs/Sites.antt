-- The loops around an assignment.
use Rattle.std.specs.Prelude.{ℕ, suc, Bool, nat_le, List, [], ◌∷◌}
use Rattle.source_limits.specs.declared.site.Around.{Around}
use Rattle.source_limits.specs.declared.site.Around.TheVariants.{Loop, Guard}
use Rattle.source_limits.specs.declared.site.Site.{Site}

-- how many of these are loops
abbrev pub count_loops : List Around → ℕ
count_loops [] = 0
count_loops (Loop first var low high ∷ more) = suc (count_loops more)
count_loops (Guard first tests ∷ more) = count_loops more

-- at most 8 loops stand around an assignment
abbrev pub is_shallow : Site → Bool
is_shallow s = nat_le (count_loops s.around.items) 8
