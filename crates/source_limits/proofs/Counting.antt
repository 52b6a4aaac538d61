-- How many loops stand around a place.
use Rattle.std.proofs.Common.{◌≡◌, ℕ, suc, arith, ◌+◌, ◌<◌, List, [], ◌∷◌, ◌++◌, length, drop, get_or, ap, drop-cons, add-one}
use Rattle.source_limits.specs.declared.site.Around.{Around}
use Rattle.source_limits.specs.declared.site.Around.TheVariants.{Loop, Guard}
use Rattle.source_limits.specs.Sites.{count_loops}

pub count_loops-append : (xs ys : List Around) → count_loops (xs ++ ys) ≡ count_loops xs + count_loops ys
count_loops-append [] ys = omega arith
count_loops-append (Loop first var low high ∷ xs) ys = omega (arith, count_loops-append xs ys)
count_loops-append (Guard first tests ∷ xs) ys = count_loops-append xs ys

-- one more
pub count_loops-drop : (xs : List Around) (i : ℕ) (x : Around) → i < length xs → count_loops (drop i xs) ≡ count_loops (get_or xs i x ∷ []) + count_loops (drop (i + 1) xs)
count_loops-drop xs i x l = rw (add-one i, drop-cons xs i x l) (count_loops-append (get_or xs i x ∷ []) (drop (suc i) xs))

-- a loop, or a guard, behind the others
pub count_loops-loop : (new old : List Around) (first : ℕ) (var : _) (low high : _) → new ≡ old ++ Loop first var low high ∷ [] → count_loops new ≡ suc (count_loops old)
count_loops-loop new old first var low high e = omega (arith, ap count_loops e, count_loops-append old (Loop first var low high ∷ []))

pub count_loops-guard : (new old : List Around) (first : ℕ) (tests : _) → new ≡ old ++ Guard first tests ∷ [] → count_loops new ≡ count_loops old
count_loops-guard new old first tests e = omega (arith, ap count_loops e, count_loops-append old (Guard first tests ∷ []))
